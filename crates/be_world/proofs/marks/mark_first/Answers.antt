use Rattle.std.proofs.Common.{ℕ, ◌+◌, ◌<◌, ◌≤◌, length, arith}
use Rattle.be_world.proofs.Marking.{fewer, first_more, one_more, unmarked}
use Rattle.be_world.proofs.marks.mark_first.Goals as goal

pub loop-a-init : goal.loop-a-init
loop-a-init c = unmarked (λ a. a < 0) c.args.marks.now (λ a lt. absurd (omega (arith, lt)))

pub loop-a-preserved : goal.loop-a-preserved
loop-a-preserved c =
    let there : c.loop-a.a < length c.loop-a.marks =
    omega (arith, c.requires, c.loop-a.auto.marks, c.loop-a-test.true) in
    one_more c.args.marks.now c.loop-a.marks c.loop-a.a there (λ a. a < c.loop-a.a)
    (λ a. a < c.loop-a.a + 1) c.loop-a.invariant (first_more c.loop-a.a)

pub returns : goal.returns
returns c =
    fewer (λ a. a < c.loop-a.a) (λ a. a < c.args.many) c.args.marks.now c.loop-a.marks
    c.loop-a.invariant (λ a lt. omega (arith, lt, c.loop-a-test.false))
