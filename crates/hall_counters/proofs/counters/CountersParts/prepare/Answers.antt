use Rattle.std.proofs.Common.{◌<◌, ◌-◌, ℕ, inl, inr, sym, refl, ap, ◌∙◌, subst, arith, deque_len, deque_capacity}
use mathlib.Core.Option.{some-injective}
use Rattle.be_facts.proofs.Lists.{some_part, no_part}
use Rattle.be_hall.specs.Hands.{meant, part_at}
use Rattle.hall_counters.specs.declared.transfer.Count.{Count}
use Rattle.be_hall.proofs.Holding.{not_held, fits_at, meant_with, with_here, with_other, has_spare}
use Rattle.hall_counters.specs.Laws.{inside}
use Rattle.hall_counters.proofs.Moving.{positive, ready, counted_as}
use Rattle.hall_counters.proofs.counters.CountersParts.prepare.Goals.{then-source-target-via-then-source-target, then-source-target-via-else-source-target+then-source-self, then-source-target-via-else-source-target+else-source-self+then-target-self, then-count-eq0-via-then-count-eq0, then-count-eq0-via-else-count-eq0+then-count-eq0-2}
use Rattle.hall_counters.proofs.counters.CountersParts.prepare.Goals as goal

pub returns-then-source-target-clause-answer : goal.returns-then-source-target-clause-answer
returns-then-source-target-clause-answer c = λ all s f p. elim c.then-source-target.branch [
  | then-source-target-via-then-source-target w ↦ p.0 w.if-source-target.true
  | then-source-target-via-else-source-target+then-source-self w ↦ let i = inside all c.args.entry.now.source p.1 p.3 in let h = w.if-source-self.true in absurd (omega arith)
  | then-source-target-via-else-source-target+else-source-self+then-target-self w ↦ let i = inside all c.args.entry.now.target p.2 p.4 in let h = w.if-target-self.true in absurd (omega arith)
]

pub returns-in_default-clause-answer : goal.returns-in_default-clause-answer
returns-in_default-clause-answer c = (not_held (λ x. x.count) c.args.held.now.parts c.args.entry.now.source (no_part (λ x. x.count) _ (sym c.count_at.ensures ∙ c.in_default.is)), λ all s f. inl refl)

pub returns-in_default-count_at-clause-answer : goal.returns-in_default-count_at-clause-answer
returns-in_default-count_at-clause-answer c = (not_held (λ x. x.count) c.args.held.now.parts c.args.entry.now.target (no_part (λ x. x.count) _ (sym c.count_at-2.ensures ∙ c.in_default-count_at.is)), λ all s f. inr refl)

pub returns-then-count-eq0-clause-answer : goal.returns-then-count-eq0-clause-answer
returns-then-count-eq0-clause-answer c = λ all s f p.
    let x = some_part (λ y. y.count) _ _ (sym c.count_at.ensures ∙ c.in-Some.is) in
    let same = some-injective p.1 c.in-Some.count (sym p.3 ∙ (fits_at (λ y. y.count) all c.args.entry.now.source c.args.held.now.parts x.0 x.1 f ∙ ap mathlib.Core.Option.some x.2)) in
    let units = p.5 in
    let left = p.6 in
    elim c.then-count-eq0.branch [
      | then-count-eq0-via-then-count-eq0 w ↦ let h = w.if-count-eq0.true in let k = ap (λ z. z.units) same in absurd (omega arith)
      | then-count-eq0-via-else-count-eq0+then-count-eq0-2 w ↦ let h = w.if-count-eq0-2.true in let k = ap (λ z. z.left) same in absurd (omega arith)
    ]

pub make_room-requires : goal.make_room-requires
make_room-requires c = let x = some_part (λ y. y.count) _ _ (sym c.count_at.ensures ∙ c.in-Some.is) in (x.0, x.1)

pub returns-in_err-make_room-clause-same : goal.returns-in_err-make_room-clause-same
returns-in_err-make_room-clause-same c = let e = c.make_room.ensures.same in ap (meant (λ x. x.count)) e.3 ∙ meant_with (λ x. x.count) c.args.held.now.parts c.args.entry.now.source e.0 e.1 e.2 e.4

pub returns-in_err-make_room-clause-logs : goal.returns-in_err-make_room-clause-logs
returns-in_err-make_room-clause-logs c = let e = c.make_room.ensures.same in ap (meant (λ x. x.log.items)) e.3 ∙ meant_with (λ x. x.log.items) c.args.held.now.parts c.args.entry.now.source e.0 e.1 e.2 e.5

pub returns-clause-same : goal.returns-clause-same
returns-clause-same c = let e = c.make_room.ensures.same in ap (meant (λ x. x.count)) e.3 ∙ meant_with (λ x. x.count) c.args.held.now.parts c.args.entry.now.source e.0 e.1 e.2 e.4

pub returns-clause-logs : goal.returns-clause-logs
returns-clause-logs c = let e = c.make_room.ensures.same in ap (meant (λ x. x.log.items)) e.3 ∙ meant_with (λ x. x.log.items) c.args.held.now.parts c.args.entry.now.source e.0 e.1 e.2 e.5

some_spare : (n k : ℕ) → n < k → 0 < k - n
some_spare n k h = omega arith

pub returns-clause-answer : goal.returns-clause-answer
returns-clause-answer c =
    let e = c.in_ok-make_room.ensures.same in
    let old = c.args.held.now.parts in
    let source = c.args.entry.now.source in
    let x = some_part (λ y. y.count) _ _ (sym c.count_at.ensures ∙ c.in-Some.is) in
    let z = some_part (λ y. y.count) _ _ (sym c.count_at-2.ensures ∙ c.in-Some-count_at.is) in
    let apart = c.if-source-target.false in
    let new = c.make_room.new.held.parts in
    let at_y = ap (λ l. part_at l source) e.3 ∙ with_here old source e.0 e.1 e.2 in
    let at_z = ap (λ l. part_at l c.args.entry.now.target) e.3 ∙ (with_other old source c.args.entry.now.target e.1 (λ is. apart (sym is)) ∙ z.1) in
    let count = counted_as (λ y. y.count) _ e.0 e.1 c.in-Some.count e.2 (sym c.count_at.ensures ∙ c.in-Some.is) e.4 in (
      refl,
      ap (λ h. meant (λ y. y.count) h.parts) c.of-seen.ensures,
      ready (λ y. y.count) c.args.self.now.places new c.args.entry.now e.1 z.0 apart at_y at_z
          (subst (λ (k : Count). 0 < k.units) (sym count) (positive c.in-Some.count.units c.if-count-eq0.false))
          (subst (λ (k : Count). 0 < k.left) (sym count) (positive c.in-Some.count.left c.if-count-eq0-2.false)),
      has_spare (λ y. deque_capacity y.log - deque_len y.log) new source e.1 at_y (some_spare _ _ e.6),
      tt,
    )
