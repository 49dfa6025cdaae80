use Rattle.std.proofs.Common.{◌≡◌, true, ◌<◌, ◌≤◌, length, ◌∙◌, ap, sym, subst}
use Rattle.be_hall.specs.Hands.{places_of, all_below}
use Rattle.be_hall.specs.Views.{gathered}
use Rattle.be_hall.proofs.InHand.{counts_more}
use Rattle.be_hall.proofs.Families.{longer_left}
use Rattle.be_hall.proofs.KeepPasses.{gathered_joined}
use Rattle.be_hall.proofs.hall.Hall.join.Goals as goal

pub invariant_of-pass : goal.invariant_of-pass
invariant_of-pass g c =
    let it = c.args.pass.now in
    let both = c.unite.ensures.both in
    record {
      tied = ap (λ m. m.0.marks) both ∙ it.tied;
      out = ap (λ m. m.1) both ∙ it.out;
      rising = it.rising;
      within = subst (λ n. all_below n (places_of it.held.parts) ≡ true) (λ i. (sym c.unite.ensures.same i).slots) it.within;
      room = subst (λ n. n ≤ it.held.room) (λ i. (sym c.unite.ensures.same i).slots) it.room;
      real = subst (λ m. 0 < length m.0.branches) (sym both) (longer_left it.seat.me.0.branches c.args.other.seat.me.0.branches it.real);
      counts = counts_more _ _ _ _ _ _ 18446744073709551615 it.counts c.args.other.counts c.saturating_add-pass.ensures (ap (λ m. gathered m.0) both ∙ gathered_joined it.seat.me.0 c.args.other.seat.me.0);
    }
