-- The text of an entry, as the report has it (this project's own).
use Rattle.std.specs.Prelude.{ℕ, ◌+◌, Bool, true, false, List, [], ◌∷◌, ◌++◌, Option, Some, None}
use Rattle.std.specs.Prelude.{length, codes}
use Rattle.std.specs.Fmt.{decimal}
use Rattle.be_port.specs.declared.Posted.{Posted}
use Rattle.be_port.specs.declared.Posted.TheVariants.{Accepted, WouldBlock, BadPort, TooDeep}
use Rattle.be_twin.specs.declared.Outcome.{Outcome}
use Rattle.be_twin.specs.declared.Outcome.TheVariants as outcome
use Rattle.be_script.specs.Script.{Declared}
use Rattle.be_machine.specs.declared.Act.{Act}
use Rattle.be_machine.specs.declared.Act.TheVariants as act
use Rattle.be_machine.specs.declared.Answered.{Answered}
use Rattle.be_machine.specs.declared.Answered.TheVariants as answered
use Rattle.be_machine.specs.declared.EndAnswer.{EndAnswer}
use Rattle.be_machine.specs.declared.EndAnswer.TheVariants as end
use Rattle.be_machine.specs.declared.Entry.{Entry}
use Rattle.be_machine.specs.declared.Replied.{Replied}
use Rattle.be_machine.specs.declared.Replied.TheVariants as reply
use Rattle.be_written.specs.Lines.{line_of}
use Rattle.be_written.specs.Names.{window_name, actor_name}

-- ---- what was answered

abbrev pub posted_words : Posted → List (List ℕ)
posted_words (Accepted n) = codes "ok" ∷ decimal n ∷ []
posted_words (WouldBlock count) = codes "wouldblock" ∷ decimal count ∷ []
posted_words BadPort = codes "badport" ∷ []
posted_words TooDeep = codes "toodeep" ∷ []

abbrev pub replied_word : Replied → List ℕ
replied_word reply.Accepted = codes "ok"
replied_word reply.Duplicate = codes "duplicate"
replied_word reply.Unwanted = codes "unwanted"

abbrev pub answered_word : Answered → List ℕ
answered_word answered.Reply = codes "reply"
answered_word answered.NoReply = codes "noreply"
answered_word answered.Unknown = codes "unknown"

abbrev pub outcome_word : Outcome → List ℕ
outcome_word outcome.Done = codes "done"
outcome_word outcome.StackFull = codes "stackfull"
outcome_word outcome.StackEmpty = codes "stackempty"
outcome_word outcome.NoView = codes "noview"
outcome_word outcome.NoBitmap = codes "nobitmap"
outcome_word outcome.OffRange = codes "offrange"
outcome_word outcome.Gone = codes "gone"

abbrev pub begin_word : Bool → List ℕ
begin_word true = codes "open"
begin_word false = codes "nothing"

abbrev pub end_word : EndAnswer → List ℕ
end_word end.Nothing = codes "none"
end_word end.NoReply = codes "noreply"
end_word end.Unknown = codes "unknown"

-- a message that input sent to a window
abbrev pub delivery_words : Declared → Option (ℕ × Posted) → List (List ℕ)
delivery_words d (Some p) = window_name d p.0 ∷ posted_words p.1
delivery_words d None = []

-- ---- entries

-- what was done
unfoldable pub act_words : Declared → Act → List (List ℕ)
act_words d (act.Post w posted) = codes "post" ∷ window_name d w ∷ posted_words posted
act_words d (act.Take n) = codes "take" ∷ decimal n ∷ []
act_words d (act.Note word) = codes "note" ∷ word ∷ []
act_words d (act.Reply answer) = codes "reply" ∷ replied_word answer ∷ []
act_words d (act.Claim answer) = codes "claim" ∷ answered_word answer ∷ []
act_words d (act.Lock w) = codes "lock" ∷ window_name d w ∷ []
act_words d (act.Unlock w) = codes "unlock" ∷ window_name d w ∷ []
act_words d (act.Draw w n) = codes "draw" ∷ window_name d w ∷ decimal n ∷ []
act_words d (act.Flush w count) = codes "flush" ∷ window_name d w ∷ decimal count ∷ []
act_words d (act.SyncDone w) = codes "syncdone" ∷ window_name d w ∷ []
act_words d (act.Exec n outcome) = codes "exec" ∷ decimal n ∷ outcome_word outcome ∷ []
act_words d (act.Notify n) = codes "notify" ∷ decimal n ∷ []
act_words d (act.Begin opens) = codes "begin" ∷ begin_word opens ∷ []
act_words d (act.Event k first second) =
    codes "event" ∷ decimal k ∷ delivery_words d first ++ delivery_words d second
act_words d (act.End answer) = codes "end" ∷ end_word answer ∷ []
act_words d act.Stop = codes "stop" ∷ []

-- the k-th entry: its number, who made it, and what was done
abbrev pub entry_words : Declared → ℕ → Entry → List (List ℕ)
entry_words d k e = decimal k ∷ actor_name d e.actor ∷ act_words d e.act

-- the lines of the entries, of which the first is the k-th
unfoldable pub entries_from : Declared → ℕ → List Entry → List ℕ
entries_from d k [] = []
entries_from d k (e ∷ es) = line_of (entry_words d k e) ++ entries_from d (k + 1) es

-- the number of the entries, and then each in a line of its own
unfoldable pub history_text : Declared → List Entry → List ℕ
history_text d h = line_of (codes "history" ∷ decimal (length h) ∷ []) ++ entries_from d 1 h
