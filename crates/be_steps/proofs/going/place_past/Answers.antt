use Rattle.std.specs.Prelude.{Option}
use Rattle.be_asking.specs.Wants.{wish_in}
use Rattle.be_message.specs.Messages.{Message}
use Rattle.be_script.specs.Script.{declared_by}
use Rattle.be_steps.proofs.Owned.{as_cell, as_looper, own_cell}
use Rattle.be_steps.specs.Going.{IsPast}
use Rattle.be_steps.proofs.going.place_past.Goals as goal

pub cell_at-cell-requires : goal.cell_at-cell-requires
cell_at-cell-requires c =
    own_cell (declared_by c.args.script.now) c.args.runner c.in-App.m c.cell_place.result c.args.held.now.parts c.in-App.is (c.cell_place.ensures (declared_by c.args.script.now)) c.requires.own

pub returns-in-App : goal.returns-in-App
returns-in-App c =
    as_cell (declared_by c.args.script.now) c.args.runner c.in-App.m c.cell_place.result
    (λ r k. (now : Option Message) → IsPast (declared_by c.args.script.now) r k.slice c.args.accepted (wish_in now c.args.request) c.app_past.result)
    c.args.held.now.parts c.in-App.is (c.cell_place.ensures (declared_by c.args.script.now)) c.cell_at-cell.result.now c.cell_at-cell.ensures c.app_past.ensures

pub returns-in-Looper : goal.returns-in-Looper
returns-in-Looper c =
    as_looper (declared_by c.args.script.now) c.args.runner c.in-Looper.w c.looper_place.result
    (λ r k. (now : Option Message) → IsPast (declared_by c.args.script.now) r k.slice c.args.accepted (wish_in now c.args.request) c.looper_past.result)
    c.args.held.now.parts c.in-Looper.is c.looper_place.ensures c.looper_at-looper.result.now c.looper_at-looper.ensures c.looper_past.ensures
