use Rattle.std.proofs.Common.{ap, ◌∙◌}
use Rattle.be_parts.specs.Effects.{app_at}
use Rattle.be_script.specs.Script.{declared_by}
use Rattle.be_steps.proofs.Owned.{cell_as, gone_cell, own_cell}
use Rattle.be_steps.specs.Going.{waiting_in}
use Rattle.be_steps.proofs.posting.wait.Goals as goal

pub cell_to_change-cell-requires : goal.cell_to_change-cell-requires
cell_to_change-cell-requires c =
    own_cell (declared_by c.args.script.now) c.args.runner c.in-App.m c.cell_place.result c.args.held.now.parts c.in-App.is (c.cell_place.ensures (declared_by c.args.script.now)) c.requires.own

pub wait-requires : goal.wait-requires
wait-requires c =
    cell_as (declared_by c.args.script.now) c.args.runner c.in-App.m c.cell_place.result c.args.held.now.parts c.in-App.is (c.cell_place.ensures (declared_by c.args.script.now)) c.cell_to_change-cell.result.now
    c.cell_to_change-cell.ensures.value c.requires.idle

pub returns-in-App : goal.returns-in-App
returns-in-App c =
    gone_cell (declared_by c.args.script.now) c.args.runner c.in-App.m c.cell_place.result waiting_in c.args.place c.args.held.now c.cell_to_change-cell.result.now c.go_to.new.self
    c.in-App.is (c.cell_place.ensures (declared_by c.args.script.now)) c.cell_to_change-cell.ensures.value (c.go_to.ensures.slice ∙ ap (app_at c.args.place) c.wait.ensures.slice) (c.go_to.ensures.log ∙ c.wait.ensures.log)
