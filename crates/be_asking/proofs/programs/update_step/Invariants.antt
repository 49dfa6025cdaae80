-- The instruction is among those of the views that are left.
use Rattle.std.proofs.Common.{◌≡◌, drop, map, slice_get}
use Rattle.be_machine.specs.Program.{update_program}
use Rattle.be_script.specs.Script.{declared_by}
use Rattle.be_asking.proofs.programs.update_step.Given as goal

abbrev pub invariant-loop-view : goal.invariant-loop-view
invariant-loop-view l =
    slice_get (update_program (declared_by l.script) l.window (map (λ v. v.0) (drop l.view-index l.views))) l.left
    ≡ slice_get (update_program (declared_by l.script) l.window (map (λ v. v.0) l.views)) l.step
