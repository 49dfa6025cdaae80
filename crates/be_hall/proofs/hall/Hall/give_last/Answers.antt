use Rattle.std.proofs.Common.{ℕ, ◌<◌, ◌≤◌, ◌≡◌, true, ◌++◌, ◌∷◌, [], length, List, Option, Some, None, min, sym, ap, ◌∙◌, subst}
use Rattle.std.specs.Prelude.{IfSome}
use Rattle.atomic_table.specs.Table.{rest}
use Rattle.be_hall.specs.Hands.{all_below, places_of}
use Rattle.be_hall.specs.Views.{but_last, gathered}
use Rattle.be_hall.specs.Passes.{marks_of}
use Rattle.be_hall.proofs.Marked.{but_last_snoc}
use Rattle.be_hall.proofs.InHand.{last_of}
use Rattle.be_hall.proofs.hall.Hall.give_last.Goals as goal

split_off : {T : Type 0} (old new : List (ℕ × T)) (o : Option (ℕ × T)) (y : ℕ × T) → o ≡ Some y → IfSome o (λ x. old ≡ new ++ x ∷ []) → old ≡ new ++ y ∷ []
split_off old new o y is h = subst (λ z. IfSome z (λ x. old ≡ new ++ x ∷ [])) is h

pub let_go-requires-clause-same : goal.let_go-requires-clause-same
let_go-requires-clause-same g c =
    let it = c.args.pass.now in
    let y = c.unwrap-place.result in
    let new = c.pop.new.self.parts in
    let t = last_of g.P.Parts.meaning g.P.Parts.log it.seat.table_id.slots it.seat.me.0.marks it.seat.me.1 it.held.parts new y.0 y.1 (split_off it.held.parts new _ y c.unwrap-place.ensures c.pop.ensures.some) it.tied it.out it.rising it.within in
    (c.requires.hall.0, subst (λ n. y.0 < n) ((λ i. (c.requires.hall.0 i).slots) ∙ c.args.self.now.sized.0) t.below)

pub let_go-requires-clause-out : goal.let_go-requires-clause-out
let_go-requires-clause-out g c =
    let it = c.args.pass.now in
    let y = c.unwrap-place.result in
    let new = c.pop.new.self.parts in
    let t = last_of g.P.Parts.meaning g.P.Parts.log it.seat.table_id.slots it.seat.me.0.marks it.seat.me.1 it.held.parts new y.0 y.1 (split_off it.held.parts new _ y c.unwrap-place.ensures c.pop.ensures.some) it.tied it.out it.rising it.within in
    t.emptied_at ∙ ap (λ l. (y.0, None) ∷ rest l) (sym t.emptied_at)

pub let_go-requires-clause-marked : goal.let_go-requires-clause-marked
let_go-requires-clause-marked g c =
    let it = c.args.pass.now in
    let y = c.unwrap-place.result in
    let new = c.pop.new.self.parts in
    let t = last_of g.P.Parts.meaning g.P.Parts.log it.seat.table_id.slots it.seat.me.0.marks it.seat.me.1 it.held.parts new y.0 y.1 (split_off it.held.parts new _ y c.unwrap-place.ensures c.pop.ensures.some) it.tied it.out it.rising it.within in
    (marks_of g.P.Parts.meaning g.P.Parts.log new, t.marked, t.apart)

pub invariant_of-pass : goal.invariant_of-pass
invariant_of-pass g c =
    let it = c.args.pass.now in
    let y = c.unwrap-place.result in
    let new = c.pop.new.self.parts in
    let t = last_of g.P.Parts.meaning g.P.Parts.log it.seat.table_id.slots it.seat.me.0.marks it.seat.me.1 it.held.parts new y.0 y.1 (split_off it.held.parts new _ y c.unwrap-place.ensures c.pop.ensures.some) it.tied it.out it.rising it.within in
    record {
      tied = ap (λ v. v.marks) c.let_go.ensures.let_go.0 ∙ (ap but_last t.marked ∙ but_last_snoc (marks_of g.P.Parts.meaning g.P.Parts.log new) _);
      out = c.let_go.ensures.let_go.1 ∙ ap rest t.emptied_at;
      rising = t.rising;
      within = subst (λ n. all_below n (places_of new) ≡ true) (λ i. (sym c.let_go.ensures.seat.0 i).slots) t.within;
      room = subst (λ (z : ℕ × ℕ). z.0 ≤ z.1) (λ i. ((sym c.let_go.ensures.seat.0 i).slots, sym c.pop.ensures.room i)) it.room;
      real = subst (λ v. 0 < length v.branches) (sym c.let_go.ensures.let_go.0) it.real;
      counts = it.counts ∙ ap (λ v. min (gathered v) 18446744073709551615) (sym c.let_go.ensures.let_go.0);
    }
