use Rattle.std.proofs.Common.{◌≤◌, ◌*◌, arith}
use Rattle.be_script.specs.Script.{declared_by}
use Rattle.be_asking.proofs.DeliveriesAnswered.{answers_behind, few_letters}
use Rattle.be_asking.proofs.delivering.answer_behind.Goals as goal

pub judge_behind-requires : goal.judge_behind-requires
judge_behind-requires c =
    let few : c.port.result.now.last ≤ 2 * 4611686018427387904 = few_letters (declared_by c.args.script.now) c.args.held.now.parts c.args.window c.requires c.in_ok-port.port.now c.in_ok-port.ensures.there c.port.result.now c.port.ensures in
    omega arith

pub returns-clause-told : goal.returns-clause-told
returns-clause-told c =
    answers_behind (declared_by c.args.script.now) c.args.held.now.parts c.args.window c.requires c.in_ok-port.port.now c.in_ok-port.ensures.there c.port.result.now c.port.ensures c.judge_behind.result c.judge_behind.ensures
