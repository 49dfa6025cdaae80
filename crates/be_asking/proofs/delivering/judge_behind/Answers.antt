use Rattle.std.proofs.Common.{◌≡◌, ◌+◌, ◌<◌, ◌≤◌, ap, arith}
use Rattle.be_asking.proofs.PostedBehind.{free_behind, full_behind, refused_again}
use Rattle.be_asking.proofs.delivering.judge_behind.Goals as goal

pub returns-then-count-from : goal.returns-then-count-from
returns-then-count-from c = λ p stands letter hop ordinary.
    let room : c.capacity.result ≡ c.args.port.now.capacity = c.capacity.ensures.capacity in
    let le : c.args.port.now.capacity ≤ c.len-count.result + 1 = omega (arith, room, c.from.ensures, c.if-count-from.true) in
    full_behind c.args.port.now p stands letter hop ordinary c.in-Accepted.number c.in-Accepted.ensures (c.len-count.result + 1) (ap (λ k. k + 1) c.len-count.ensures.len) le

pub returns-else-count-from : goal.returns-else-count-from
returns-else-count-from c = λ p stands letter hop ordinary.
    let room : c.capacity.result ≡ c.args.port.now.capacity = c.capacity.ensures.capacity in
    let lt : c.len-count.result + 1 < c.args.port.now.capacity = omega (arith, room, c.from.ensures, c.if-count-from.false) in
    free_behind c.args.port.now p stands letter hop ordinary c.in-Accepted.number c.in-Accepted.ensures (c.len-count.result + 1) (ap (λ k. k + 1) c.len-count.ensures.len) lt

pub returns-in_default : goal.returns-in_default
returns-in_default c = λ p stands letter hop ordinary. refused_again c.args.port.now p stands letter hop ordinary c.judge.result c.judge.ensures c.in_default.not-Accepted
