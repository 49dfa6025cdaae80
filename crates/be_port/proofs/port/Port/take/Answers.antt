-- A notice that is taken was the only one.
use Rattle.std.proofs.Common.{arith, sym, ◌∙◌}
use Rattle.be_port.proofs.QueueLemmas.{notice_taken}
use Rattle.be_port.proofs.port.Port.take.Goals as goal

pub invariant_of-self-then-letter : goal.invariant_of-self-then-letter
invariant_of-self-then-letter c =
    let whole = c.self.invariant.2 in
    let left = notice_taken c.self.inside.ring.items c.in_ok-letter.letter (sym c.pop_front.ensures.value ∙ c.in_ok-letter.was {u = tt})
    c.if-letter.true whole.one_notice in
    rw c.pop_front.ensures.items (
      c.self.invariant.0,
      left.0,
      record {
        some = whole.some;
        within = whole.within;
        fits = omega (arith, left.2, whole.fits);
        one_notice = rw (sym left.0) (omega (arith, left.1));
      },
    )
