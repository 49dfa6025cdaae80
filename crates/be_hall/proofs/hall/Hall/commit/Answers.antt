use Rattle.std.proofs.Common.{rules, true, refl, ℕ, ◌+◌, ◌<◌, ◌≤◌, List, length, sym, ap, ◌∙◌, subst, ◌≡◌, arith}
use native.Mathlib.Numerals.{unary_clauses}
use Rattle.be_hall.specs.Hands.{rises_from, all_below, meant}
use Rattle.be_hall.specs.Machine.{IsReady, Fits, HeldFit}
use Rattle.be_hall.specs.Views.{known}
use Rattle.be_hall.specs.Logs.{appended}
use Rattle.be_hall.specs.Passes.{about_of, emptied}
use Rattle.be_hall.proofs.InHand.{known_of, shows, some_fits, made, counts_more}
use Rattle.be_hall.proofs.hall.Hall.commit.Goals as goal

pub tick-number-requires-clause-permitted : goal.tick-number-requires-clause-permitted
tick-number-requires-clause-permitted g c =
    let held = c.args.pass.now.held.parts in
    let same = sym (ap known c.args.pass.now.tied ∙ known_of g.P.Parts.meaning g.P.Parts.log held) in
    subst (λ k. IsReady (g.P.Parts.machine c.args.self.now.table.shared.key.rules.value) k (g.P.Parts.entry_of c.args.ready)) (c.requires.seen ∙ same)
    (subst (λ r. IsReady (g.P.Parts.machine r) (g.P.Parts.seen_by c.args.ready) (g.P.Parts.entry_of c.args.ready)) (sym c.args.self.now.same_rules) c.requires.permitted)

pub overflow_add-number : goal.overflow_add-number
overflow_add-number g c = let t = c.tick-number.ensures.told _ _ c.requires.hall.1 refl in let small = t.1.below in search (small, rules)

pub perform-requires : goal.perform-requires
perform-requires g c =
    let it = c.args.pass.now in
    let a = about_of g.P.Parts.meaning c.args.self.now.table.shared.key in
    let t = c.tick-number.ensures.told a (g.P.Parts.entry_of c.args.ready) c.requires.hall.1 refl in
    let small : c.tick-number.result < 4611686018427387904 = t.1.below in
    let s = shows g.P.Parts.machine g.P.Parts.meaning g.P.Parts.log a _ _ it.seat.me.0 it.held.parts it.tied t.1.sees in
    record {
      fitting = some_fits g.P.Parts.machine g.P.Parts.meaning g.P.Parts.log a _ it.seat.me.0 it.held.parts c.args.self.now.book.rules c.args.self.now.same_rules s;
      number = (omega arith, omega arith);
      fits = simp unary_clauses (subst (λ r. HeldFit (g.P.Parts.machine r).fits c.tick-number.result (meant g.P.Parts.meaning it.held.parts)) c.args.self.now.same_rules s.fit);
      seen = c.requires.seen;
      prepared = c.requires.prepared;
      permitted = c.requires.permitted;
      above = s.above _;
      spare = c.requires.spare;
    }

pub invariant_of-pass : goal.invariant_of-pass
invariant_of-pass g c =
    let it = c.args.pass.now in
    let same = sym c.args.self.now.same_rules in
    let e = g.P.Parts.entry_of c.args.ready in
    let held' = c.perform.new.held.parts in
    let a = about_of g.P.Parts.meaning c.args.self.now.table.shared.key in
    let t = c.tick-number.ensures.told a e c.requires.hall.1 refl in
    let ready = subst (λ k. IsReady (g.P.Parts.machine c.args.self.now.book.rules) k e) c.requires.seen c.requires.permitted in
    let m = made g.P.Parts.machine g.P.Parts.meaning g.P.Parts.log a _ it.seat.me.0 c.tick-number.new.seat.me.0 it.held.parts held' e c.tick-number.result it.tied c.requires.hall.1 t.1
    (subst (λ r. IsReady (g.P.Parts.machine r) (meant g.P.Parts.meaning it.held.parts) e) same ready)
    c.perform.ensures.places
    (subst (λ r. (all : List g.row.P-Meaning.Denot) → (g.P.Parts.machine r).sound all → Fits all (meant g.P.Parts.meaning it.held.parts) → Fits ((g.P.Parts.machine r).after all e) (meant g.P.Parts.meaning held')) same c.perform.ensures.after)
    (subst (λ r. meant g.P.Parts.log held' ≡ appended ((g.P.Parts.machine r).keeper e) (c.tick-number.result + 1, e) (meant g.P.Parts.log it.held.parts)) same c.perform.ensures.logs) in
    record {
      tied = m.marks;
      out = t.0 ∙ (it.out ∙ ap emptied (sym c.perform.ensures.places));
      rising = ap (rises_from 0) c.perform.ensures.places ∙ it.rising;
      within = subst (λ (z : ℕ × List ℕ). all_below z.0 z.1 ≡ true) (λ i. ((sym c.tick-number.ensures.seat.0 i).slots, sym c.perform.ensures.places i)) it.within;
      room = subst (λ (z : ℕ × ℕ). z.0 ≤ z.1) (λ i. ((sym c.tick-number.ensures.seat.0 i).slots, sym c.perform.ensures.room i)) it.room;
      real = subst (λ bs. 0 < length bs) (sym m.makes.branches) it.real;
      counts = counts_more _ 1 _ _ 1 _ 18446744073709551615 it.counts refl c.saturating_add-pass.ensures m.more;
    }

pub returns-clause-hall : goal.returns-clause-hall
returns-clause-hall g c =
    let t = c.tick-number.ensures.told (about_of g.P.Parts.meaning c.args.self.now.table.shared.key) (g.P.Parts.entry_of c.args.ready) c.requires.hall.1 refl in
    (c.tick-number.ensures.seat.0 ∙ c.requires.hall.0, ap (λ v. v.about) t.1.is ∙ c.requires.hall.1)

pub returns-clause-made : goal.returns-clause-made
returns-clause-made g c =
    let it = c.args.pass.now in
    let same = sym c.args.self.now.same_rules in
    let e = g.P.Parts.entry_of c.args.ready in
    let held' = c.perform.new.held.parts in
    let a = about_of g.P.Parts.meaning c.args.self.now.table.shared.key in
    let t = c.tick-number.ensures.told a e c.requires.hall.1 refl in
    let ready = subst (λ k. IsReady (g.P.Parts.machine c.args.self.now.book.rules) k e) c.requires.seen c.requires.permitted in
    let m = made g.P.Parts.machine g.P.Parts.meaning g.P.Parts.log a _ it.seat.me.0 c.tick-number.new.seat.me.0 it.held.parts held' e c.tick-number.result it.tied c.requires.hall.1 t.1
    (subst (λ r. IsReady (g.P.Parts.machine r) (meant g.P.Parts.meaning it.held.parts) e) same ready)
    c.perform.ensures.places
    (subst (λ r. (all : List g.row.P-Meaning.Denot) → (g.P.Parts.machine r).sound all → Fits all (meant g.P.Parts.meaning it.held.parts) → Fits ((g.P.Parts.machine r).after all e) (meant g.P.Parts.meaning held')) same c.perform.ensures.after)
    (subst (λ r. meant g.P.Parts.log held' ≡ appended ((g.P.Parts.machine r).keeper e) (c.tick-number.result + 1, e) (meant g.P.Parts.log it.held.parts)) same c.perform.ensures.logs) in
    m.makes
