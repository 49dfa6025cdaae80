-- The parts of entries: what is written of each is read, and no other words are.
use Rattle.std.proofs.Common.{◌≡◌, ℕ, ◌^◌, ◌<◌, Bool, true, false, cond, List, [], ◌∷◌, ◌++◌, length, Some, None, option_map, option_and_then, codes, decimal, refl, sym, ap, subst, ◌∙◌, arith, append-nil}
use Rattle.std.specs.Map.{lookup}
use Rattle.std.specs.Str.{bytes_eq}
use Rattle.std.proofs.lemmas.Option.{cond_some, some_pair_parts}
use Rattle.std.proofs.lemmas.Slice.Eq.{bytes_eq-Decides}
use Rattle.be_command.specs.Names.{number_in}
use Rattle.be_port.specs.declared.Posted.{Posted}
use Rattle.be_port.specs.declared.Posted.TheVariants.{Accepted, WouldBlock, BadPort, TooDeep}
use Rattle.be_twin.specs.declared.Outcome.{Outcome}
use Rattle.be_twin.specs.declared.Outcome.TheVariants as outcome
use Rattle.be_script.specs.Limits.{IsWithinLimits}
use Rattle.be_script.specs.Programs.{is_note}
use Rattle.be_script.specs.Script.{Declared}
use Rattle.be_machine.specs.declared.Answered.{Answered}
use Rattle.be_machine.specs.declared.Answered.TheVariants as answered
use Rattle.be_machine.specs.declared.EndAnswer.{EndAnswer}
use Rattle.be_machine.specs.declared.EndAnswer.TheVariants as end
use Rattle.be_machine.specs.declared.Replied.{Replied}
use Rattle.be_machine.specs.declared.Replied.TheVariants as reply
use Rattle.be_report.specs.Entries.{window, count, share, posted, delivery, replies, answers, outcomes, begins, ends}
use Rattle.be_written.specs.EntryText.{posted_words, replied_word, answered_word, outcome_word, begin_word, end_word, delivery_words}
use Rattle.be_written.specs.Names.{window_names, window_name}
use Rattle.be_report.specs.Possible.{IsAnswer, IsPost}
use Rattle.be_report.specs.Readers.{Reader, ◌>>=◌, gives, next_word, one_of, number_within, note_of}
use Rattle.be_report.proofs.ActorWords.{different-window_names, length-window_names}
use Rattle.be_report.proofs.NameWords.{number_back, number_alone}
use Rattle.be_report.proofs.NumberWords.{within_64_back, within_32_back, within_64_alone, within_32_alone}
use Rattle.be_report.proofs.Readings.{Words, next_back, next_alone, bind_back, bind_alone, AreTheirs, lookup_alone}

-- ---- windows

pub window_back : (d : Declared) (w : ℕ) (rest : Words) → IsWithinLimits d → w < length d.windows → window d (window_name d w ∷ rest) ≡ Some (w, rest)
unfolding window
window_back d w rest limits lt =
    let same = length-window_names d in
    let within : w < length (window_names d) = omega arith in
    next_back (number_in (window_names d)) (window_name d w) rest w (number_back (window_names d) w (different-window_names d limits) within)

pub window_alone : (d : Declared) (words : Words) (w : ℕ) (rest : Words) → window d words ≡ Some (w, rest) → (words ≡ window_name d w ∷ rest) × (w < length d.windows)
unfolding window
window_alone d words w rest e =
    let next = next_alone (number_in (window_names d)) words w rest e in
    let found = number_alone (window_names d) next.word w next.says in
    let same = length-window_names d in
    let within = found.0 in
    (next.is ∙ ap (λ (word : List ℕ). word ∷ rest) (sym found.1), omega arith)

-- ---- numbers

pub count_back : (n : ℕ) (rest : Words) → n < 2 ^ 64 → count (decimal n ∷ rest) ≡ Some (n, rest)
unfolding count
count_back n rest small = next_back (number_within 64) (decimal n) rest n (within_64_back n small)

pub count_alone : (words : Words) (n : ℕ) (rest : Words) → count words ≡ Some (n, rest) → (words ≡ decimal n ∷ rest) × (n < 2 ^ 64)
unfolding count
count_alone words n rest e =
    let next = next_alone (number_within 64) words n rest e in
    let said = within_64_alone next.word n next.says in
    (next.is ∙ ap (λ (word : List ℕ). word ∷ rest) said.0, said.1)

pub share_back : (n : ℕ) (rest : Words) → n < 2 ^ 32 → share (decimal n ∷ rest) ≡ Some (n, rest)
unfolding share
share_back n rest small = next_back (number_within 32) (decimal n) rest n (within_32_back n small)

pub share_alone : (words : Words) (n : ℕ) (rest : Words) → share words ≡ Some (n, rest) → (words ≡ decimal n ∷ rest) × (n < 2 ^ 32)
unfolding share
share_alone words n rest e =
    let next = next_alone (number_within 32) words n rest e in
    let said = within_32_alone next.word n next.says in
    (next.is ∙ ap (λ (word : List ℕ). word ∷ rest) said.0, said.1)

-- ---- what a post was answered

pub posted_back : (p : Posted) (rest : Words) → IsAnswer p → posted (posted_words p ++ rest) ≡ Some (p, rest)
unfolding posted
posted_back (Accepted n) rest fits = ap (option_and_then (λ (q : ℕ × Words). Some (Accepted q.0, q.1))) (count_back n rest fits)
posted_back (WouldBlock n) rest fits = ap (option_and_then (λ (q : ℕ × Words). Some (WouldBlock q.0, q.1))) (share_back n rest fits)
posted_back BadPort rest fits = refl
posted_back TooDeep rest fits = refl

pub posted_whole : (p : Posted) → IsAnswer p → posted (posted_words p) ≡ Some (p, [])
posted_whole p fits = ap posted (sym (append-nil (posted_words p))) ∙ posted_back p [] fits

pub record IsPosted (words : Words) (p : Posted) (rest : Words) : Type 0 where
  pub is : words ≡ posted_words p ++ rest
  pub fits : IsAnswer p

accepted_read : (word : List ℕ) (words : Words) (p : Posted) (rest : Words) → word ≡ codes "ok" → (count >>= λ n. gives (Accepted n)) words ≡ Some (p, rest) → IsPosted (word ∷ words) p rest
accepted_read word words p rest same e =
    let b = bind_alone count (λ (n : ℕ). gives (Accepted n)) words p rest e in
    let made = some_pair_parts (Accepted b.from) p b.mid rest b.second in
    let n = count_alone words b.from b.mid b.first in
    subst (λ (q : Posted). IsPosted (word ∷ words) q rest) made.0
    (record { is = ap (λ (w : List ℕ). w ∷ words) same ∙ ap (λ (ws : Words). codes "ok" ∷ ws) (n.0 ∙ ap (λ (ws : Words). decimal b.from ∷ ws) made.1); fits = n.1 })

blocked_read : (word : List ℕ) (words : Words) (p : Posted) (rest : Words) → word ≡ codes "wouldblock" → (share >>= λ n. gives (WouldBlock n)) words ≡ Some (p, rest) → IsPosted (word ∷ words) p rest
blocked_read word words p rest same e =
    let b = bind_alone share (λ (n : ℕ). gives (WouldBlock n)) words p rest e in
    let made = some_pair_parts (WouldBlock b.from) p b.mid rest b.second in
    let n = share_alone words b.from b.mid b.first in
    subst (λ (q : Posted). IsPosted (word ∷ words) q rest) made.0
    (record { is = ap (λ (w : List ℕ). w ∷ words) same ∙ ap (λ (ws : Words). codes "wouldblock" ∷ ws) (n.0 ∙ ap (λ (ws : Words). decimal b.from ∷ ws) made.1); fits = n.1 })

refused_read : (answer : Posted) (text word : List ℕ) (words : Words) (p : Posted) (rest : Words) → posted_words answer ≡ text ∷ [] → IsAnswer answer → word ≡ text → gives answer words ≡ Some (p, rest) → IsPosted (word ∷ words) p rest
refused_read answer text word words p rest its fits same e =
    let made = some_pair_parts answer p words rest e in
    subst (λ (q : Posted). IsPosted (word ∷ words) q rest) made.0
    (record { is = ap (λ (w : List ℕ). w ∷ words) same ∙ ap (λ (ws : Words). text ∷ ws) made.1 ∙ ap (λ (ws : Words). ws ++ rest) (sym its); fits = fits })

-- by the first of the four words that it is
posted_by : (ok blocked bad deep : Bool) (word : List ℕ) (words : Words) (p : Posted) (rest : Words) → bytes_eq word (codes "ok") ≡ ok → bytes_eq word (codes "wouldblock") ≡ blocked → bytes_eq word (codes "badport") ≡ bad → bytes_eq word (codes "toodeep") ≡ deep
    → option_and_then (λ (q : Reader Posted × Words). q.0 q.1) (option_map (λ (r : Reader Posted). (r, words)) (cond ok (Some (count >>= λ n. gives (Accepted n))) (cond blocked (Some (share >>= λ n. gives (WouldBlock n))) (cond bad (Some (gives BadPort)) (cond deep (Some (gives TooDeep)) None))))) ≡ Some (p, rest)
    → IsPosted (word ∷ words) p rest
posted_by true blocked bad deep word words p rest o b c t e = accepted_read word words p rest ((bytes_eq-Decides word (codes "ok")).0 o) e
posted_by false true bad deep word words p rest o b c t e = blocked_read word words p rest ((bytes_eq-Decides word (codes "wouldblock")).0 b) e
posted_by false false true deep word words p rest o b c t e = refused_read BadPort (codes "badport") word words p rest refl tt ((bytes_eq-Decides word (codes "badport")).0 c) e
posted_by false false false true word words p rest o b c t e = refused_read TooDeep (codes "toodeep") word words p rest refl tt ((bytes_eq-Decides word (codes "toodeep")).0 t) e
posted_by false false false false word words p rest o b c t e = (cc)

pub posted_alone : (words : Words) (p : Posted) (rest : Words) → posted words ≡ Some (p, rest) → IsPosted words p rest
unfolding posted
posted_alone [] p rest e = (cc)
posted_alone (word ∷ words) p rest e =
    posted_by (bytes_eq word (codes "ok")) (bytes_eq word (codes "wouldblock")) (bytes_eq word (codes "badport")) (bytes_eq word (codes "toodeep")) word words p rest refl refl refl refl e

-- ---- deliveries

pub delivery_back : (d : Declared) (p : ℕ × Posted) (rest : Words) → IsWithinLimits d → IsPost d p → delivery d (delivery_words d (Some p) ++ rest) ≡ Some (p, rest)
unfolding delivery
delivery_back d p rest limits fits =
    bind_back (window d) (λ (w : ℕ). posted >>= λ answer. gives (w, answer)) (window_name d p.0 ∷ (posted_words p.1 ++ rest)) (posted_words p.1 ++ rest) p.0 (Some (p, rest)) (window_back d p.0 (posted_words p.1 ++ rest) limits fits.0)
    (bind_back posted (λ (answer : Posted). gives (p.0, answer)) (posted_words p.1 ++ rest) rest p.1 (Some (p, rest)) (posted_back p.1 rest fits.1) refl)

pub record IsDelivery (d : Declared) (words : Words) (p : ℕ × Posted) (rest : Words) : Type 0 where
  pub is : words ≡ delivery_words d (Some p) ++ rest
  pub fits : IsPost d p

pub delivery_alone : (d : Declared) (words : Words) (p : ℕ × Posted) (rest : Words) → delivery d words ≡ Some (p, rest) → IsDelivery d words p rest
unfolding delivery
delivery_alone d words p rest e =
    let first = bind_alone (window d) (λ (w : ℕ). posted >>= λ answer. gives (w, answer)) words p rest e in
    let second = bind_alone posted (λ (answer : Posted). gives (first.from, answer)) first.mid p rest first.second in
    let pair : ℕ × Posted = (first.from, second.from) in
    let made = some_pair_parts pair p second.mid rest second.second in
    let w = window_alone d words first.from first.mid first.first in
    let answer = posted_alone first.mid second.from second.mid second.first in
    subst (λ (q : ℕ × Posted). IsDelivery d words q rest) made.0
    (record { is = w.0 ∙ ap (λ (ws : Words). window_name d first.from ∷ ws) (answer.is ∙ ap (λ (ws : Words). posted_words second.from ++ ws) made.1); fits = (w.1, answer.fits) })

-- ---- single words

pub one_of_alone : {X : Type 0} (text : X → List ℕ) (table : List (List ℕ × X)) (words : Words) (x : X) (rest : Words) → AreTheirs text table → one_of table words ≡ Some (x, rest) → words ≡ text x ∷ rest
one_of_alone text table words x rest theirs e =
    let next = next_alone (λ (word : List ℕ). lookup (bytes_eq word) table) words x rest e in
    next.is ∙ ap (λ (word : List ℕ). word ∷ rest) (lookup_alone text table next.word x theirs next.says)

pub replied_back : (x : Replied) (rest : Words) → one_of replies (replied_word x ∷ rest) ≡ Some (x, rest)
replied_back reply.Accepted rest = refl
replied_back reply.Duplicate rest = refl
replied_back reply.Unwanted rest = refl

pub replied_alone : (words : Words) (x : Replied) (rest : Words) → one_of replies words ≡ Some (x, rest) → words ≡ replied_word x ∷ rest
replied_alone words x rest e = one_of_alone replied_word replies words x rest (refl, (refl, (refl, tt))) e

pub answered_back : (x : Answered) (rest : Words) → one_of answers (answered_word x ∷ rest) ≡ Some (x, rest)
answered_back answered.Reply rest = refl
answered_back answered.NoReply rest = refl
answered_back answered.Unknown rest = refl

pub answered_alone : (words : Words) (x : Answered) (rest : Words) → one_of answers words ≡ Some (x, rest) → words ≡ answered_word x ∷ rest
answered_alone words x rest e = one_of_alone answered_word answers words x rest (refl, (refl, (refl, tt))) e

pub outcome_back : (x : Outcome) (rest : Words) → one_of outcomes (outcome_word x ∷ rest) ≡ Some (x, rest)
outcome_back outcome.Done rest = refl
outcome_back outcome.StackFull rest = refl
outcome_back outcome.StackEmpty rest = refl
outcome_back outcome.NoView rest = refl
outcome_back outcome.NoBitmap rest = refl
outcome_back outcome.OffRange rest = refl
outcome_back outcome.Gone rest = refl

pub outcome_alone : (words : Words) (x : Outcome) (rest : Words) → one_of outcomes words ≡ Some (x, rest) → words ≡ outcome_word x ∷ rest
outcome_alone words x rest e = one_of_alone outcome_word outcomes words x rest (refl, (refl, (refl, (refl, (refl, (refl, (refl, tt))))))) e

pub opened_back : (x : Bool) (rest : Words) → one_of begins (begin_word x ∷ rest) ≡ Some (x, rest)
opened_back true rest = refl
opened_back false rest = refl

pub opened_alone : (words : Words) (x : Bool) (rest : Words) → one_of begins words ≡ Some (x, rest) → words ≡ begin_word x ∷ rest
opened_alone words x rest e = one_of_alone begin_word begins words x rest (refl, (refl, tt)) e

pub end_back : (x : EndAnswer) (rest : Words) → one_of ends (end_word x ∷ rest) ≡ Some (x, rest)
end_back end.Nothing rest = refl
end_back end.NoReply rest = refl
end_back end.Unknown rest = refl

pub end_alone : (words : Words) (x : EndAnswer) (rest : Words) → one_of ends words ≡ Some (x, rest) → words ≡ end_word x ∷ rest
end_alone words x rest e = one_of_alone end_word ends words x rest (refl, (refl, (refl, tt))) e

pub note_back : (word : List ℕ) (rest : Words) → is_note word ≡ true → next_word note_of (word ∷ rest) ≡ Some (word, rest)
note_back word rest h = next_back note_of word rest word (ap (λ (b : Bool). cond b (Some word) None) h)

pub note_alone : (words : Words) (word : List ℕ) (rest : Words) → next_word note_of words ≡ Some (word, rest) → (words ≡ word ∷ rest) × (is_note word ≡ true)
note_alone words word rest e =
    let next = next_alone note_of words word rest e in
    let said = cond_some (is_note next.word) next.word word next.says in
    (next.is ∙ ap (λ (w : List ℕ). w ∷ rest) said.1, subst (λ (w : List ℕ). is_note w ≡ true) said.1 said.0)
