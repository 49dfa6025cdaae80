use Rattle.std.proofs.Common.{◌≤◌, ◌*◌, sym, subst, arith}
use Rattle.be_script.specs.Script.{declared_by}
use Rattle.be_asking.specs.Using.{Answers}
use Rattle.be_asking.proofs.DeliveriesAnswered.{answers_now, few_letters}
use Rattle.be_asking.proofs.delivering.answer.Goals as goal

pub judge-requires : goal.judge-requires
judge-requires c =
    let few : c.port.result.now.last ≤ 2 * 4611686018427387904 = few_letters (declared_by c.args.script.now) c.args.held.now.parts c.args.window c.requires c.in_ok-port.port.now c.in_ok-port.ensures.there c.port.result.now c.port.ensures in
    omega arith

pub returns-clause-told : goal.returns-clause-told
returns-clause-told c =
    subst (Answers (declared_by c.args.script.now) c.args.held.now.parts c.args.window) (sym c.judge.ensures)
    (answers_now (declared_by c.args.script.now) c.args.held.now.parts c.args.window c.requires c.in_ok-port.port.now c.in_ok-port.ensures.there c.port.result.now c.port.ensures c.queues_are_ports.ensures.answers)
