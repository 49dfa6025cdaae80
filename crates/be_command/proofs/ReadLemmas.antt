-- A line that was read to its end.
use Rattle.std.proofs.Common.{◌≡◌, ◌⊎◌, inl, inr, ℕ, refl, List, Option, Some, None, Result, Ok, Err, ap, ◌∙◌, sym}
use Rattle.std.specs.Option.{option_and_then}
use Rattle.std.specs.Result.{result_err}
use Rattle.be_command.specs.declared.Command.{Command}
use Rattle.be_command.specs.declared.fault.Fault.{Fault}
use Rattle.be_command.specs.declared.fault.Reason.TheVariants.{UnknownWord}
use Rattle.be_command.specs.declared.first_word.FirstWord.{FirstWord}
use Rattle.be_command.specs.declared.first_word.FirstWord.TheVariants as first
use Rattle.be_command.specs.Faults.{first_fault, both, said_as}
use Rattle.be_command.specs.Names.{Known}
use Rattle.be_command.specs.Places.{At, word_at, after_word, ended}
use Rattle.be_command.specs.Kinds.{said_all, after_all}
use Rattle.be_command.specs.Forms.{form_of, first_word_of}
use Rattle.be_command.specs.Reading.{read_by, read_after, line_start, command_of, IsOfList}
use Rattle.be_command.specs.Progress.{Progress, Takes}
use Rattle.be_command.proofs.FirstWords.{text_of_first}

abbrev whole : {A : Type 0} → Result A Fault → Result (Unit {0}) Fault → Result A Fault
whole r e = said_as (λ x. x.0) (both r e)

made_whole : {A B : Type 0} (f : A → B) (s : Result A Fault) (e : Result (Unit {0}) Fault) → said_as (λ x. f x.0) (both s e) ≡ whole (said_as f s) e
made_whole f (Ok x) (Ok u) = refl
made_whole f (Ok x) (Err g) = refl
made_whole f (Err g) (Ok u) = refl
made_whole f (Err g) (Err h) = refl

-- no fault is due, and the line is the command; or one is, and the line has it
abbrev pub IsOutcome : Option Fault → Command → Result Command Fault → Type 0
IsOutcome None c read = read ≡ Ok c
IsOutcome (Some f) c read = read ≡ Err f

outcome : (due : Option Fault) (c : Command) (r : Result Command Fault) (e : Result (Unit {0}) Fault) → due ≡ first_fault (result_err r) (result_err e) → ((x : Command) → r ≡ Ok x → c ≡ x) → IsOutcome due c (whole r e)
outcome None c (Ok x) (Ok u) d v = ap Ok (sym (v x refl))
outcome None c (Ok x) (Err g) d v = (cc)
outcome None c (Err g) (Ok u) d v = (cc)
outcome None c (Err g) (Err h) d v = (cc)
outcome (Some f) c (Ok x) (Ok u) d v = (cc)
outcome (Some f) c (Ok x) (Err g) d v = (cc)
outcome (Some f) c (Err g) (Ok u) d v = (cc)
outcome (Some f) c (Err g) (Err h) d v = (cc)

outcome_of : (due : Option Fault) (c : Command) {a b : Result Command Fault} → a ≡ b → IsOutcome due c b → IsOutcome due c a
outcome_of None c s o = s ∙ o
outcome_of (Some f) c s o = s ∙ o

-- a form that was read from the line's start, and the end behind it
pub is_read : (known : Known) (word : FirstWord) (p q : Progress) (c : Command) (due : Option Fault) → p.fault ≡ None →
    Takes (said_as (form_of word).makes (said_all known (form_of word).kinds p.at)) (after_all (form_of word).kinds p.at) p q c →
    due ≡ first_fault q.fault (result_err (ended q.at)) → IsOutcome due c (read_by known (form_of word) p.at)
is_read known word p q c due none taken d =
    let r = said_as (form_of word).makes (said_all known (form_of word).kinds p.at) in
    let e = ended (after_all (form_of word).kinds p.at) in
    let due_is : due ≡ first_fault (result_err r) (result_err e) =
    d
    ∙ ap (λ (g : At). first_fault q.fault (result_err (ended g))) taken.at
    ∙ ap (λ (f : Option Fault). first_fault f (result_err e)) (taken.fault ∙ ap (λ (f : Option Fault). first_fault f (result_err r)) none)
    in
    outcome_of due c (made_whole (form_of word).makes (said_all known (form_of word).kinds p.at) e) (outcome due c r e due_is taken.value_is)

-- the line itself
pub line_is_read : (known : Known) (line : List ℕ) (word : FirstWord) (p q : Progress) (c : Command) (due : Option Fault) →
    option_and_then first_word_of (word_at (line_start line)) ≡ Some word → after_word (line_start line) ≡ p.at → p.fault ≡ None →
    Takes (said_as (form_of word).makes (said_all known (form_of word).kinds p.at)) (after_all (form_of word).kinds p.at) p q c →
    due ≡ first_fault q.fault (result_err (ended q.at)) → IsOutcome due c (command_of known line)
unfolding command_of
line_is_read known line word p q c due first behind none taken d =
    outcome_of due c
    (ap (λ (o : Option FirstWord). read_after known o (after_word (line_start line))) first ∙ ap (λ (at : At). read_after known (Some word) at) behind)
    (is_read known word p q c due none taken d)

-- a line that begins with no command's word
pub line_is_unknown : (known : Known) (line : List ℕ) → option_and_then first_word_of (word_at (line_start line)) ≡ None → command_of known line ≡ Err (record { at = 0; reason = UnknownWord })
unfolding command_of
line_is_unknown known line none = ap (λ (o : Option FirstWord). read_after known o (after_word (line_start line))) none

-- a line that begins with a word for which memory was lacking
pub line_is_of_list : (line : List ℕ) (word : FirstWord) → option_and_then first_word_of (word_at (line_start line)) ≡ Some word → (word ≡ first.Text) ⊎ (word ≡ first.Clip) → IsOfList line
line_is_of_list line word h (inl text) = inl (text_of_first (word_at (line_start line)) first.Text (h ∙ ap Some text))
line_is_of_list line word h (inr clip) = inr (text_of_first (word_at (line_start line)) first.Clip (h ∙ ap Some clip))
