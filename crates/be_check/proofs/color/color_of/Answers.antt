use Rattle.std.proofs.Common.{Some, None, refl, ◌∙◌, arith}
use Rattle.be_script.specs.Script.{declared_by}
use Rattle.be_check.proofs.Looking.{in_pane, off_below, off_right, on_desktop, window_there}
use Rattle.be_check.proofs.color.color_of.Goals as goal
use Rattle.be_check.proofs.color.color_of.Goals.{then-x-width-via-then-x-width, then-x-width-via-else-x-width+then-y-height}

pub returns-then-x-width : goal.returns-then-x-width
returns-then-x-width c =
    elim c.then-x-width.branch [
      | then-x-width-via-then-x-width w ↦
          off_right (declared_by c.args.script.now) c.args.held.now.parts c.requires c.args.x
          c.args.y (omega arith)
      | then-x-width-via-else-x-width+then-y-height w ↦
          off_below (declared_by c.args.script.now) c.args.held.now.parts c.requires c.args.x
          c.args.y (omega arith)
    ]

pub pane_in-requires-clause-there : goal.pane_in-requires-clause-there
pane_in-requires-clause-there c =
    window_there (declared_by c.args.script.now) c.args.held.now.parts c.requires c.args.x c.args.y
    (omega arith) (omega arith) c.desk_in.result.now c.desk_in.ensures (Some c.in-Some.w)
    c.in-Some.ensures c.in-Some.w refl

pub returns-in-Some : goal.returns-in-Some
returns-in-Some c =
    c.color_in.ensures
    ∙ in_pane (declared_by c.args.script.now) c.args.held.now.parts c.requires c.args.x c.args.y
    (omega arith) (omega arith) c.desk_in.result.now c.desk_in.ensures (Some c.in-Some.w)
    c.in-Some.ensures c.in-Some.w refl c.pane_in.result.now c.pane_in.ensures

pub returns-in-None : goal.returns-in-None
returns-in-None c =
    on_desktop (declared_by c.args.script.now) c.args.held.now.parts c.requires c.args.x c.args.y
    (omega arith) (omega arith) c.desk_in.result.now c.desk_in.ensures None c.in-None.ensures refl
