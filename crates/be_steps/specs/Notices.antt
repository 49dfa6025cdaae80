-- The letter that is a notice of an update.
use Rattle.std.specs.Prelude.{ℕ}
use Rattle.be_machine.specs.Port.{notice}
use Rattle.be_port.specs.StandsFor.{Carries}
use Rattle.be_port.specs.declared.letter.Letter as held

-- it carries the one from window w's twin to the window
abbrev pub IsNotice : ℕ → held.Letter → Type 0
IsNotice w letter = Carries letter (notice w)
