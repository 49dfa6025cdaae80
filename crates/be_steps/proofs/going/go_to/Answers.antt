use Rattle.be_script.specs.Script.{declared_by}
use Rattle.be_steps.proofs.Owned.{gone_cell, gone_looper, own_cell}
use Rattle.be_steps.proofs.going.go_to.Goals as goal

pub cell_to_change-requires : goal.cell_to_change-requires
cell_to_change-requires c =
    own_cell (declared_by c.args.script.now) c.args.runner c.in-App.m c.cell_place.result c.args.held.now.parts c.in-App.is (c.cell_place.ensures (declared_by c.args.script.now)) c.requires.own

pub returns-in-App : goal.returns-in-App
returns-in-App c =
    gone_cell (declared_by c.args.script.now) c.args.runner c.in-App.m c.cell_place.result (λ r slice. slice) c.args.place c.args.held.now c.cell_to_change.result.now c.go_to.new.self
    c.in-App.is (c.cell_place.ensures (declared_by c.args.script.now)) c.cell_to_change.ensures.value c.go_to.ensures.slice c.go_to.ensures.log

pub returns-in-Looper : goal.returns-in-Looper
returns-in-Looper c =
    gone_looper (declared_by c.args.script.now) c.args.runner c.in-Looper.w c.looper_place.result (λ r slice. slice) c.args.place c.args.held.now c.looper_to_change.result.now c.go_to-in-Looper.new.self
    c.in-Looper.is c.looper_place.ensures c.looper_to_change.ensures.value c.go_to-in-Looper.ensures.slice c.go_to-in-Looper.ensures.log
