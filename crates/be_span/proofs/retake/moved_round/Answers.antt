-- Edge by edge.
use Rattle.std.proofs.Common.{◌≤ℤ◌, rules, arith}
use Rattle.std.proofs.lemmas.Int.{ints, to_z-of_z}
use Rattle.be_span.proofs.GridLemmas.{has_from, in_from}
use Rattle.be_span.proofs.retake.moved_round.Goals as goal

pub returns : goal.returns
returns c =
    let left : c.in-Ok.moved.left ≤ℤ c.args.inner.left = search rules in
    let right : c.args.inner.right ≤ℤ c.in-Ok.moved.right = search rules in
    let top : c.in-Ok.moved.top ≤ℤ c.args.inner.top = search rules in
    let bottom : c.args.inner.bottom ≤ℤ c.in-Ok.moved.bottom = search rules in
    record {
      goes = simp (to_z-of_z, c.ranges.dx, c.ranges.dy) at c.in-Ok.ensures.moved;
      round = λ x y has.
          let at = in_from c.args.inner x y has in
          let l = at.left in let r = at.right in let t = at.top in let b = at.bottom in
          has_from c.in-Ok.moved x y record { left = omega (arith, ints); right = omega (arith, ints); top = omega (arith, ints); bottom = omega (arith, ints) };
    }
