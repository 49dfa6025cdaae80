-- The empty port.
use Rattle.std.proofs.Common.{◌≡◌, Some}
use Rattle.be_port.specs.Ports.{empty_port}
use Rattle.be_rules.specs.Slices.{port}
use Rattle.be_opening.proofs.ports.told_port.Given as goal

abbrev pub ghosts-choose : goal.ghosts-choose
ghosts-choose a = record { is = λ it. it ≡ port a.about.now.window (Some (empty_port a.about.now.capacity)) }
