-- Which words are an entry (this project's own).
use Rattle.std.specs.Prelude.{ℕ, Bool, true, false, List, [], ◌∷◌, Option, codes}
use Rattle.std.specs.Fmt.{decimal}
use Rattle.std.specs.Map.{lookup}
use Rattle.std.specs.Str.{bytes_eq}
use Rattle.be_port.specs.declared.Posted.{Posted}
use Rattle.be_port.specs.declared.Posted.TheVariants.{Accepted, WouldBlock, BadPort, TooDeep}
use Rattle.be_twin.specs.declared.Outcome.{Outcome}
use Rattle.be_twin.specs.declared.Outcome.TheVariants as outcome
use Rattle.be_script.specs.Script.{Declared}
use Rattle.be_machine.specs.declared.Act.{Act}
use Rattle.be_machine.specs.declared.Act.TheVariants as act
use Rattle.be_machine.specs.declared.Answered.{Answered}
use Rattle.be_machine.specs.declared.Answered.TheVariants as answered
use Rattle.be_machine.specs.declared.EndAnswer.{EndAnswer}
use Rattle.be_machine.specs.declared.EndAnswer.TheVariants as end
use Rattle.be_machine.specs.declared.Entry.{Entry}
use Rattle.be_machine.specs.declared.Replied.{Replied}
use Rattle.be_machine.specs.declared.Replied.TheVariants as reply
use Rattle.be_report.specs.declared.kind.Kind.{Kind}
use Rattle.be_report.specs.declared.kind.Kind.TheVariants as kind
use Rattle.be_written.specs.EntryText.{replied_word, answered_word, outcome_word, begin_word}
use Rattle.be_written.specs.EntryText.{end_word}
use Rattle.be_written.specs.Names.{actor_names, window_names}
use Rattle.be_report.specs.Readers.{Reader, ◌>>=◌, gives, next_word, all_of, exactly, optional}
use Rattle.be_report.specs.Readers.{one_of, place_in, number, note_of}

-- ---- parts of entries

unfoldable pub window : Declared → Reader ℕ
window d = place_in (window_names d)

-- a number that the machine can count to, and one of a queue's length
unfoldable pub count : Reader ℕ
count = number 64

unfoldable pub share : Reader ℕ
share = number 32

-- what a post was answered, by its first word
abbrev pub posted_table : List (List ℕ × Reader Posted)
posted_table =
    (codes "ok", count >>= λ n. gives (Accepted n))
    ∷ (codes "wouldblock", share >>= λ n. gives (WouldBlock n))
    ∷ (codes "badport", gives BadPort)
    ∷ (codes "toodeep", gives TooDeep)
    ∷ []

unfoldable pub posted : Reader Posted
posted = one_of posted_table >>= λ read. read

-- a message that input sent to a window
unfoldable pub delivery : Declared → Reader (ℕ × Posted)
delivery d = window d >>= λ w. posted >>= λ answer. gives (w, answer)

-- a value with its word
abbrev pub spelt : {X : Type 0} → (X → List ℕ) → X → List ℕ × X
spelt word x = (word x, x)

abbrev pub replies : List (List ℕ × Replied)
replies =
    spelt replied_word reply.Accepted ∷ spelt replied_word reply.Duplicate
    ∷ spelt replied_word reply.Unwanted ∷ []

abbrev pub answers : List (List ℕ × Answered)
answers =
    spelt answered_word answered.Reply ∷ spelt answered_word answered.NoReply
    ∷ spelt answered_word answered.Unknown ∷ []

abbrev pub outcomes : List (List ℕ × Outcome)
outcomes =
    spelt outcome_word outcome.Done
    ∷ spelt outcome_word outcome.StackFull
    ∷ spelt outcome_word outcome.StackEmpty
    ∷ spelt outcome_word outcome.NoView
    ∷ spelt outcome_word outcome.NoBitmap
    ∷ spelt outcome_word outcome.OffRange
    ∷ spelt outcome_word outcome.Gone
    ∷ []

abbrev pub begins : List (List ℕ × Bool)
begins = spelt begin_word true ∷ spelt begin_word false ∷ []

abbrev pub ends : List (List ℕ × EndAnswer)
ends = spelt end_word end.Nothing ∷ spelt end_word end.NoReply ∷ spelt end_word end.Unknown ∷ []

-- ---- entries

-- what a kind of act begins with
abbrev pub kinds : List (List ℕ × Kind)
kinds =
    (codes "post", kind.Post)
    ∷ (codes "take", kind.Take)
    ∷ (codes "note", kind.Note)
    ∷ (codes "reply", kind.Reply)
    ∷ (codes "claim", kind.Claim)
    ∷ (codes "lock", kind.Lock)
    ∷ (codes "unlock", kind.Unlock)
    ∷ (codes "draw", kind.Draw)
    ∷ (codes "flush", kind.Flush)
    ∷ (codes "syncdone", kind.SyncDone)
    ∷ (codes "exec", kind.Exec)
    ∷ (codes "notify", kind.Notify)
    ∷ (codes "begin", kind.Begin)
    ∷ (codes "event", kind.Event)
    ∷ (codes "end", kind.End)
    ∷ (codes "stop", kind.Stop)
    ∷ []

unfoldable pub kind_of : List ℕ → Option Kind
kind_of word = lookup (bytes_eq word) kinds

-- what stands behind that; an event has at most two deliveries, and a sole one is the first
unfoldable pub act_of : Declared → Kind → Reader Act
act_of d kind.Post = window d >>= λ w. posted >>= λ answer. gives (act.Post w answer)
act_of d kind.Take = count >>= λ n. gives (act.Take n)
act_of d kind.Note = next_word note_of >>= λ word. gives (act.Note word)
act_of d kind.Reply = one_of replies >>= λ answer. gives (act.Reply answer)
act_of d kind.Claim = one_of answers >>= λ answer. gives (act.Claim answer)
act_of d kind.Lock = window d >>= λ w. gives (act.Lock w)
act_of d kind.Unlock = window d >>= λ w. gives (act.Unlock w)
act_of d kind.Draw = window d >>= λ w. count >>= λ n. gives (act.Draw w n)
act_of d kind.Flush = window d >>= λ w. share >>= λ n. gives (act.Flush w n)
act_of d kind.SyncDone = window d >>= λ w. gives (act.SyncDone w)
act_of d kind.Exec = count >>= λ n. one_of outcomes >>= λ outcome. gives (act.Exec n outcome)
act_of d kind.Notify = count >>= λ n. gives (act.Notify n)
act_of d kind.Begin = one_of begins >>= λ opens. gives (act.Begin opens)
act_of d kind.Event =
    count >>= λ k. optional (delivery d) >>= λ first. optional (delivery d) >>= λ second.
    gives (act.Event k first second)
act_of d kind.End = one_of ends >>= λ answer. gives (act.End answer)
act_of d kind.Stop = gives act.Stop

-- what was done
unfoldable pub act_read : Declared → Reader Act
act_read d = next_word kind_of >>= act_of d

-- the number k, and who made the entry
unfoldable pub maker : Declared → ℕ → Reader ℕ
maker d k = exactly (decimal k) >>= λ _. place_in (actor_names d)

-- the k-th entry: its number, who made it, and what was done
unfoldable pub numbered : Declared → ℕ → Reader Entry
numbered d k = maker d k >>= λ a. act_read d >>= λ done. gives (record { actor = a; act = done })

-- the k-th entry that all the words are
unfoldable pub entry_of : Declared → ℕ → List (List ℕ) → Option Entry
entry_of d k words = all_of (numbered d k) words
