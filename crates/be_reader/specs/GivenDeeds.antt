-- What the reading of a line gives (this project's own).
use Rattle.std.specs.Prelude.{Option, Some, None, Result, Ok, Err}
use Rattle.std.specs.Result.{result_map_both}
use Rattle.be_command.specs.declared.fault.Reason.{Reason}
use Rattle.be_line.specs.declared.statement.Statement.{Statement}
use Rattle.be_said.specs.SeenDeeds.{seen_deed}
use Rattle.be_said.specs.Due.{IsDue}
use Rattle.be_reader.specs.Kinds.{At}
use Rattle.be_reader.specs.LineDeeds.{deed_said}
use Rattle.be_said.specs.SoFar.{SoFar}
use Rattle.be_said.specs.declared.deeds.Deed.{Deed}
use Rattle.be_said.specs.declared.fault.LineFault.{LineFault}
use Rattle.be_said.specs.declared.fault.LineFault.TheVariants as fault

-- the line's deed was given, or its reason
abbrev pub IsDeed : SoFar → Statement → At → Result Deed LineFault → Type 0
IsDeed said statement at given =
    IsDue (deed_said said statement at) (result_map_both seen_deed (λ fault. fault) given)

-- a deed, or the reason that holds against its line
abbrev pub unless_faulty : {A : Type 0} → Option Reason → A → Result A LineFault
unless_faulty None deed = Ok deed
unless_faulty (Some reason) deed = Err (fault.Bad reason)
