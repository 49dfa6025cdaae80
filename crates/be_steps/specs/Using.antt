-- An event of input that only waits for an application's end.
use Rattle.std.specs.Borrow.{Bor}
use Rattle.std.specs.Prelude.{◌≡◌, ℕ, List}
use Rattle.be_asking.specs.declared.activity.Activity.TheVariants as who
use Rattle.be_asking.specs.declared.want.Want.TheVariants as want
use Rattle.be_parts.specs.declared.part.Part.{Part}
use Rattle.be_script.specs.Script.{Declared}
use Rattle.be_script.specs.declared.InputLine.{InputLine}
use Rattle.be_script.specs.declared.InputLine.TheVariants.{After}
use Rattle.be_steps.specs.Steps.{IsAllowed}

-- the input may use such a line
pub record MayGoOn (d : Declared) (parts : List (ℕ × Part)) : Type 0 where
  pub line : Bor InputLine
  pub app : ℕ
  pub waits : line.now ≡ After app
  pub allowed : IsAllowed d parts who.Input (want.Uses line)
