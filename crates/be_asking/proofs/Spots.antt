-- Where the parts lie that keep activities' entries.
use Rattle.std.proofs.Common.{◌≡◌, ℕ, Some, arith}
use Rattle.be_machine.specs.Activities.{runner, looper, twin}
use Rattle.be_machine.specs.Touched as part
use Rattle.be_rules.specs.Places.{place_of}
use Rattle.be_rules.specs.Rules.{kept_at}
use Rattle.be_script.specs.Script.{Declared}

pub looper_kept : (d : Declared) (w : ℕ) → place_of d (part.looper w) ≡ kept_at d (Some (runner (looper w)))
looper_kept d w = omega arith

pub pane_kept : (d : Declared) (w : ℕ) → place_of d (part.pane w) ≡ kept_at d (Some (twin w))
pane_kept d w = omega arith
