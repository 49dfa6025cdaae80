-- A command that a twin executes, and that is no change of its window.
use Rattle.std.specs.Prelude.{ℕ, List}
use Rattle.be_asking.specs.Executing.{IsOldest}
use Rattle.be_command.specs.Effects.{effect_of}
use Rattle.be_command.specs.declared.Command.{Command}
use Rattle.be_parts.specs.declared.part.Part.{Part}
use Rattle.be_script.specs.Script.{Declared}
use Rattle.be_twin.specs.Judged.{IsNoChange}

-- the oldest in the window's link, which is in hand
pub record HasPlainFront (d : Declared) (parts : List (ℕ × Part)) (w : ℕ) : Type 0 where
  pub number : ℕ
  pub command : Command
  pub oldest : IsOldest d parts w number command
  pub plain : IsNoChange (effect_of command)
