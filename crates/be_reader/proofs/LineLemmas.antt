-- Lines that are read one behind the other.
use Rattle.std.proofs.Common.{◌≡◌, ℕ, ◌+◌, ◌≤◌, false, List, ◌∷◌, length, Ok, Err, refl, arith}
use Rattle.std.specs.Prelude.{nat_lt}
use Rattle.std.proofs.lemmas.Bool.Decides.{nat_tests}
use Rattle.be_command.specs.declared.fault.Reason.{Reason}
use Rattle.be_lex.specs.Lines.{Line, lines_of}
use Rattle.be_said.specs.declared.fault.LineFault.{LineFault}
use Rattle.be_said.specs.declared.fault.LineFault.TheVariants as fault
use Rattle.be_said.specs.Due.{IsDue}
use Rattle.be_reader.specs.Grammar.{read_line, read_lines, script_of}
use Rattle.be_reader.specs.Outcomes.{IsRead, fault_at}
use Rattle.be_said.specs.SoFar.{SoFar, nothing_said}

pub goes_on : (number : ℕ) (said new : SoFar) (line : Line) (lines : List Line) → read_line said line ≡ Ok new → read_lines number said (line ∷ lines) ≡ read_lines (number + 1) new lines
unfolding read_lines
goes_on number said new line lines read = rw read refl

pub stops : (number : ℕ) (said : SoFar) (reason : Reason) (line : Line) (lines : List Line) → read_line said line ≡ Err reason →
    read_lines number said (line ∷ lines) ≡ Err (record { line = number; reason = reason })
unfolding read_lines
stops number said reason line lines read = rw read refl

pub short_enough : (bytes : List ℕ) → length bytes ≤ 1048576 → script_of bytes ≡ read_lines 1 nothing_said (lines_of bytes)
unfolding script_of
short_enough bytes few =
    let short : nat_lt 1048576 (length bytes) ≡ false = grind (arith, nat_tests) in
    rw short refl

-- the fault of a line is the fault of all that stand from it on
pub fault_is : (number : ℕ) (said : SoFar) (line : Line) (lines : List Line) (fault : LineFault) → IsDue (read_line said line) (Err fault) →
    IsRead (read_lines number said (line ∷ lines)) (Err (fault_at number fault))
fault_is number said line lines (fault.Bad reason) due = stops number said reason line lines due
fault_is number said line lines fault.NoMemory due = tt
