-- That what is made is a script (this project's own).
use Rattle.std.specs.Prelude.{◌≡◌, ◌≤◌, ℕ, Some, Ok}
use Rattle.be_reader.specs.Grammar.{script_of}
use Rattle.be_said.specs.SoFar.{SoFar, declared_in}
use Rattle.be_script.specs.Limits.{IsWithinLimits}
use Rattle.be_script.specs.Work.{work_of}
use Rattle.be_made.specs.Made.{made}

-- the text that is made of any number is read as a script within its limits, whose work is at most
-- 16,881
abbrev pub MadeIsScript : Type 0
MadeIsScript =
    (n : ℕ) → n ≤ 65535 → (said : SoFar) ×
    ((script_of (made n) ≡ Ok said) × (said.screen ≡ Some (640, 480))
    × IsWithinLimits (declared_in said (640, 480))
    × (work_of (declared_in said (640, 480)) ≤ 16881))
