use Rattle.std.specs.Prelude.{map, take}
use Rattle.be_ready.specs.Lent.{AreLent}
use Rattle.be_script.specs.Script.{declared_by}
use Rattle.be_ready.proofs.plans.panes_of.Given as goal

abbrev pub invariant-loop-w : goal.invariant-loop-w
invariant-loop-w l = AreLent (declared_by l.fn.script) l.fn.held.parts (take l.w-index l.fn.names) (map (λ b. b.now) l.panes.items)
