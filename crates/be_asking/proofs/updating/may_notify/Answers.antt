use Rattle.std.proofs.Common.{◌≤◌, ◌*◌, sym, subst, arith}
use Rattle.be_hall.specs.Hands.{meant}
use Rattle.be_machine.specs.declared.Act.TheVariants as act
use Rattle.be_parts.specs.Parts.{meaning_of}
use Rattle.be_script.specs.Script.{declared_by}
use Rattle.be_asking.specs.Deeds.{MayAct}
use Rattle.be_asking.proofs.UpdatesAnswered.{few_letters, needs_pane, needs_port, notifies, reach_pane, reach_port}
use Rattle.be_asking.proofs.updating.may_notify.Goals as goal

pub find_pane-requires : goal.find_pane-requires
find_pane-requires c = reach_pane (declared_by c.args.script.now) c.args.held.now.parts c.args.number c.args.w c.requires

pub returns-in-Err : goal.returns-in-Err
returns-in-Err c = needs_pane (declared_by c.args.script.now) c.args.held.now.parts c.args.number c.args.w c.requires c.in-Err.place c.in-Err.ensures.missing

pub find_port-requires : goal.find_port-requires
find_port-requires c = reach_port (declared_by c.args.script.now) c.args.held.now.parts c.args.number c.args.w c.requires

pub returns-in-Err-find_port : goal.returns-in-Err-find_port
returns-in-Err-find_port c = needs_port (declared_by c.args.script.now) c.args.held.now.parts c.args.number c.args.w c.requires c.in-Err-find_port.place c.in-Err-find_port.ensures.missing

pub next_number-requires : goal.next_number-requires
next_number-requires c =
    let few : c.port.result.now.last ≤ 2 * 4611686018427387904 =
    few_letters (declared_by c.args.script.now) c.args.held.now.parts c.args.number c.args.w c.requires c.in-Ok.port.now c.in-Ok.ensures.there c.port.result.now c.port.ensures in
    omega arith

pub returns-in-Ok : goal.returns-in-Ok
returns-in-Ok c =
    subst (λ n. MayAct (declared_by c.args.script.now) (meant meaning_of c.args.held.now.parts) c.args.number (act.Notify n)) (sym c.next_number.ensures)
    (notifies (declared_by c.args.script.now) c.args.held.now.parts c.args.number c.args.w c.requires c.in-Ok.port.now c.in-Ok.ensures.there c.port.result.now c.port.ensures c.in_default.field-0.now
    c.in_default.ensures.there)
