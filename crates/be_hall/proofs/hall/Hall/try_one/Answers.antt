use Rattle.std.proofs.Common.{true, ℕ, ◌<◌, ◌≤◌, ◌≡◌, List, [], ◌∷◌, ◌++◌, length, Option, Some, None, min, sym, ap, ◌∙◌, subst}
use Rattle.atomic_table.specs.Table.{rest}
use Rattle.be_facts.proofs.Numbers.{nat_lt_from}
use Rattle.be_hall.specs.Hands.{places_of, rises_from, all_below}
use Rattle.be_hall.specs.Views.{mark, gathered}
use Rattle.be_hall.specs.Passes.{emptied, marks_of}
use Rattle.be_hall.specs.Views.{HasPlace}
use Rattle.be_hall.proofs.InHand.{last_apart, emptied_snoc, places_snoc, places_many, marks_snoc, room_left}
use Rattle.be_hall.proofs.Rising.{rising_short, below_snoc}
use Rattle.be_hall.proofs.hall.Hall.try_one.Goals as goal

pub mark-requires-clause-apart : goal.mark-requires-clause-apart
mark-requires-clause-apart g c has =
    let it = c.args.pass.now in
    let h = subst (λ l. HasPlace l c.args.place) it.tied has in
    last_apart g.P.Parts.meaning g.P.Parts.log 0 it.held.parts c.args.place c.requires.above h.0 h.1 h.2

pub exchange-requires : goal.exchange-requires
exchange-requires g c = let m = c.mark.ensures.marked c.if-not-mark.false in (c.mark.ensures.seat.0 ∙ c.requires.hall.0, (Some m.0, m.1 ∙ ap (λ l. (c.args.place, Some m.0) ∷ rest l) (sym m.1)))

pub push-requires : goal.push-requires
push-requires g c =
    let it = c.args.pass.now in
    record { room = room_left _ _ _ _ _ _ _ (places_many it.held.parts) (rising_short 0 (places_of it.held.parts) c.args.place c.requires.above) c.requires.place (c.args.self.now.sized.0 ∙ c.args.self.now.book.counted) (λ i. (c.requires.hall.0 i).slots) it.room; above = c.requires.above }

abbrev some_or : {A : Type 0} → A → List (ℕ × Option A) → A
some_or d [] = d
some_or d ((k, Some x) ∷ xs) = x
some_or d ((k, None) ∷ xs) = d

pub invariant_of-pass-2 : goal.invariant_of-pass-2
invariant_of-pass-2 g c =
    let it = c.args.pass.now in
    let old = it.held.parts in
    let w = c.mark.new.seat in
    let p = c.args.place in
    let m = c.mark.ensures.marked c.if-not-mark.false in
    let x = m.0 in
    let y = c.unwrap-part.result in
    let same : x ≡ y = ap (some_or x) (sym m.1 ∙ (c.exchange.ensures.2 ∙ ap (λ o. (p, o) ∷ rest w.me.1) c.unwrap-part.ensures)) in
    let view = ap (λ (z : _). z.0) c.exchange.ensures.3 ∙ m.2 in
    let places = ap places_of c.push.ensures.parts ∙ places_snoc old p y in
    let table = c.exchange.ensures.0 ∙ c.mark.ensures.seat.0 in
    record {
      tied = ap (λ v. v.marks) view ∙ ((λ i. it.tied i ++ mark p (g.P.Parts.meaning (same i)) (g.P.Parts.log (same i)) ∷ [])
          ∙ (sym (marks_snoc g.P.Parts.meaning g.P.Parts.log old p y) ∙ ap (marks_of g.P.Parts.meaning g.P.Parts.log) (sym c.push.ensures.parts)));
      out = ap (λ z. z.1) c.exchange.ensures.3 ∙ (ap (λ l. (p, None) ∷ rest l) m.1 ∙ (ap (λ l. (p, None) ∷ l) it.out ∙ (sym (emptied_snoc (places_of old) p) ∙ ap emptied (sym places))));
      rising = ap (rises_from 0) places ∙ c.requires.above;
      within = ap (all_below c.exchange.new.seat.table_id.slots) places ∙ below_snoc c.exchange.new.seat.table_id.slots (places_of old) p (subst (λ n. all_below n (places_of old) ≡ true) (λ i. (sym table i).slots) it.within) (nat_lt_from p _ (subst (λ n. p < n) (sym ((λ i. ((table ∙ c.requires.hall.0) i).slots) ∙ (c.args.self.now.sized.0 ∙ c.args.self.now.book.counted))) c.requires.place));
      room = subst (λ (z : ℕ × ℕ). z.0 ≤ z.1) (λ i. ((sym table i).slots, sym c.push.ensures.room i)) it.room;
      real = subst (λ v. 0 < length v.branches) (sym view) it.real;
      counts = it.counts ∙ ap (λ v. min (gathered v) 18446744073709551615) (sym view);
    }
