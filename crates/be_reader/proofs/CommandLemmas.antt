-- The line of a command.
use Rattle.std.proofs.Common.{◌≡◌, ℕ, refl, List, Option, Some, None, Result, Ok, Err, ap, ◌∙◌, sym, subst}
use Rattle.std.specs.Option.{IsSome}
use Rattle.be_actor.specs.declared.Instruction.TheVariants as instruction
use Rattle.be_command.specs.Names.{Known}
use Rattle.be_command.specs.Reading.{IsRead, command_of, command_or_reason}
use Rattle.be_command.specs.declared.Command.{Command}
use Rattle.be_command.specs.declared.fault.CommandFault.TheVariants.{BadCommand}
use Rattle.be_command.specs.declared.fault.Reason.{Reason}
use Rattle.be_command.specs.declared.first_word.FirstWord.{FirstWord}
use Rattle.be_line.specs.FirstWords.{misplaced, seat_of}
use Rattle.be_line.specs.Kinds.{said_as}
use Rattle.be_line.specs.declared.statement.Statement.TheVariants as statement
use Rattle.be_said.specs.Due.{IsDue}
use Rattle.be_said.specs.Deeds.{Deed, adds_step}
use Rattle.be_reader.specs.Forms.{form_of}
use Rattle.be_reader.specs.Kinds.{At, both}
use Rattle.be_reader.specs.LineDeeds.{command_said, deed_said}
use Rattle.be_said.specs.SoFar.{SoFar, Begun, nothing, bitmap, handler_body, draw_body, program, known_in, site_of, window_of}
use Rattle.be_said.specs.declared.fault.LineFault.{LineFault}

-- ---- where a command may stand a window is for it

window_here : (said : SoFar) (screen : Option (ℕ × ℕ)) (begun : Begun) (word : FirstWord) →
    misplaced (site_of (record said { screen = screen; begun = begun })) (seat_of (statement.Command word)) ≡ None → IsSome (window_of begun)
window_here said None begun word e = (cc)
window_here said (Some size) nothing word e = (cc)
window_here said (Some size) (bitmap name width height colors) word e = (cc)
window_here said (Some size) (handler_body w target what steps) word e = refl
window_here said (Some size) (draw_body w v steps) word e = refl
window_here said (Some size) (program name None steps) word e = (cc)
window_here said (Some size) (program name (Some w) steps) word e = refl

pub has_window : (said : SoFar) (word : FirstWord) → misplaced (site_of said) (seat_of (statement.Command word)) ≡ None → IsSome (window_of said.begun)
has_window said word e = window_here said said.screen said.begun word e

-- ---- what it makes, by the names that it may use

pub command_made : (said : SoFar) (known : Known) (window : Option ℕ) (text : List ℕ) (command : Command) →
    known ≡ known_in said window → IsRead (Ok command) text (command_of known text) →
    command_said (known_in said window) text ≡ Ok (adds_step (instruction.Draw command))
unfolding command_or_reason
command_made said known window text command by read =
    let is : command_of (known_in said window) text ≡ Ok command = ap (λ (k : Known). command_of k text) (sym by) ∙ read in
    rw is refl

pub command_faulty : (said : SoFar) (known : Known) (window : Option ℕ) (text : List ℕ) (at : ℕ) (reason : Reason) →
    known ≡ known_in said window → IsRead (Err (BadCommand at reason)) text (command_of known text) →
    command_said (known_in said window) text ≡ Err reason
unfolding command_or_reason
command_faulty said known window text at reason by read =
    let is : command_of (known_in said window) text ≡ Err (record { at = at; reason = reason }) = ap (λ (k : Known). command_of k text) (sym by) ∙ read in
    rw is refl

one_part : {A B : Type 0} (f : A → B) (r : Result A Reason) → said_as f r ≡ said_as (λ (x : A × Unit {0}). f x.0) (both r (Ok tt))
one_part f (Ok a) = refl
one_part f (Err reason) = refl

-- the line of a command has no other kinds
pub command_deed : (before : SoFar) (word : FirstWord) (at : At) (given : Result Deed LineFault) →
    IsDue (command_said (known_in before (window_of before.begun)) at.text) given → IsDue (deed_said before (statement.Command word) at) given
unfolding deed_said form_of
command_deed before word at given due =
    subst (λ (r : Result Deed Reason). IsDue r given)
    (one_part (λ command. adds_step (instruction.Draw command)) (command_or_reason (known_in before (window_of before.begun)) at.text)) due
