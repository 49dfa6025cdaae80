use Rattle.std.proofs.Common.{List, ◌≡◌, true, ℕ, ◌<◌, ◌≤◌, length, min, sym, ap, ◌∙◌, subst}
use Rattle.be_hall.specs.Hands.{rises_from, all_below}
use Rattle.be_hall.specs.Views.{gathered}
use Rattle.be_hall.specs.Passes.{about_of, emptied}
use Rattle.be_hall.proofs.InHand.{shows, some_fits, fit_all, still_marks, still_places}
use Rattle.be_hall.proofs.hall.Hall.prepare.Goals as goal

pub prepare-requires : goal.prepare-requires
prepare-requires g c =
    let it = c.args.pass.now in
    let a = about_of g.P.Parts.meaning c.args.self.now.table.shared.key in
    let s = shows g.P.Parts.machine g.P.Parts.meaning g.P.Parts.log a _ _ it.seat.me.0 it.held.parts it.tied (c.glance.ensures.sees a c.requires.1).1 in
    record {
      fitting = some_fits g.P.Parts.machine g.P.Parts.meaning g.P.Parts.log a _ it.seat.me.0 it.held.parts c.args.self.now.book.rules c.args.self.now.same_rules s;
      fits = fit_all g.P.Parts.machine g.P.Parts.meaning g.P.Parts.log a _ it.seat.me.0 it.held.parts c.args.self.now.book.rules c.args.self.now.same_rules (g.met.P.Parts.lawful _) s;
    }

pub invariant_of-pass : goal.invariant_of-pass
invariant_of-pass g c =
    let it = c.args.pass.now in
    let old = it.held.parts in
    let new = c.prepare.new.held.parts in
    let same = c.glance.ensures.same in
    let places = still_places g.P.Parts.meaning g.P.Parts.log old new c.prepare.ensures.same in
    record {
      tied = ap (λ m. m.0.marks) same.2 ∙ (it.tied ∙ still_marks g.P.Parts.meaning g.P.Parts.log old new c.prepare.ensures.same c.prepare.ensures.logs);
      out = ap (λ m. m.1) same.2 ∙ (it.out ∙ ap emptied (sym places));
      rising = ap (rises_from 0) places ∙ it.rising;
      within = subst (λ (z : ℕ × List ℕ). all_below z.0 z.1 ≡ true) (λ i. ((sym same.0 i).slots, sym places i)) it.within;
      room = subst (λ (z : ℕ × ℕ). z.0 ≤ z.1) (λ i. ((sym same.0 i).slots, sym c.prepare.ensures.room i)) it.room;
      real = subst (λ m. 0 < length m.0.branches) (sym same.2) it.real;
      counts = it.counts ∙ ap (λ m. min (gathered m.0) 18446744073709551615) (sym same.2);
    }
