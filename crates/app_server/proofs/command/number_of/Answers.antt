use Rattle.std.proofs.Common.{arith}
use Rattle.be_report.proofs.NumberWords.{natural_parts}
use Rattle.app_server.proofs.command.number_of.Goals as goal

pub overflow_cast-result : goal.overflow_cast-result
overflow_cast-result c =
    let within = c.in_ok-number.ensures {u = tt} in
    let high = (natural_parts _ _ within.0).1 in
    let from = c.from.ensures in
    let most = c.ranges.most.fits in
    omega arith

pub returns-clause-within : goal.returns-clause-within
returns-clause-within c =
    let within = c.in_ok-number.ensures {u = tt} in
    let high = (natural_parts _ _ within.0).1 in
    let from = c.from.ensures in
    let most = c.ranges.most.fits in
    omega arith
