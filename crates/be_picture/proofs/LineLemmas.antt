-- Lines that are read one behind the other.
use Rattle.std.proofs.Common.{◌≡◌, ℕ, ◌+◌, ◌∷◌, List, Ok, Err, refl}
use Rattle.be_command.specs.declared.Command.{Command}
use Rattle.be_command.specs.declared.fault.Reason.{Reason}
use Rattle.be_command.specs.Names.{Known}
use Rattle.be_command.specs.Reading.{command_of, command_or_reason}
use Rattle.be_lex.specs.Lines.{Line}
use Rattle.be_picture.specs.declared.fault.LineFault.{LineFault}
use Rattle.be_picture.specs.declared.fault.LineFault.TheVariants as line
use Rattle.be_picture.specs.Faults.{IsRead, IsTaken, fault_at}
use Rattle.be_picture.specs.Text.{read_line, read_lines}

pub goes_on : (known : Known) (number : ℕ) (before next : List Command) (line : Line)
    (lines : List Line) → read_line known before line ≡ Ok next
    → read_lines known number before (line ∷ lines) ≡ read_lines known (number + 1) next lines
unfolding read_lines
goes_on known number before next line lines e = rw e refl

stops : (known : Known) (number : ℕ) (before : List Command) (reason : Reason) (line : Line)
    (lines : List Line) → read_line known before line ≡ Err reason
    → read_lines known number before (line ∷ lines)
    ≡ Err (record { line = number; reason = reason })
unfolding read_lines
stops known number before reason line lines e = rw e refl

-- the fault of a line is the fault of all that stand from it on
pub fault_is : (known : Known) (number : ℕ) (before new : List Command) (l : Line)
    (lines : List Line) (fault : LineFault) → IsTaken (read_line known before l) new (Err fault)
    → IsRead (read_lines known number before (l ∷ lines)) (Err (fault_at number fault))
fault_is known number before new l lines (line.Bad reason) due =
    stops known number before reason l lines due
fault_is known number before new l lines line.NoMemory due = tt

-- ---- what a line is, without the place of a fault

pub command_is : (known : Known) (text : List ℕ) (c : Command) → command_of known text ≡ Ok c
    → command_or_reason known text ≡ Ok c
unfolding command_or_reason
command_is known text c e = rw e refl

pub reason_is : (known : Known) (text : List ℕ) (at : ℕ) (reason : Reason)
    → command_of known text ≡ Err (record { at = at; reason = reason })
    → command_or_reason known text ≡ Err reason
unfolding command_or_reason
reason_is known text at reason e = rw e refl
