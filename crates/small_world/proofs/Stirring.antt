-- Whom a step doesn't stir.
use Rattle.std.proofs.Common.{◌≡◌, ◌≢◌, ℕ, ◌+◌, ◌<◌, Bool, true, false, List, length, length-set, get_or, set, sym, ap, ◌∙◌, subst, arith}
use Rattle.std.proofs.lemmas.Bool.{both_ways}
use Rattle.std.proofs.lemmas.List.{get_or-set_same, get_or-set_other}
use Rattle.be_turns.specs.Turning.{is_some}
use Rattle.be_serial.specs.Known.{Stirs}
use Rattle.small_world.specs.declared.step.Count.{Count}
use Rattle.small_world.specs.declared.step.Step.{Step}
use Rattle.small_world.specs.declared.step.Step.TheVariants.{Give, Use, Close}
use Rattle.small_world.specs.declared.world.World.{World}
use Rattle.small_world.specs.Changing.{has_else}
use Rattle.small_world.specs.Counting.{gave, used, got, emptied, changed_at, closing_place, target_of, wish_of, actor_of, taker_of, work_of, has_work, may, after_step, legal_step, passing}
use Rattle.small_world.specs.Laws.{may_wish}
use Rattle.small_world.proofs.Telling.{some_if}

-- a place that isn't marked after one was
unmarked : (l : List Bool) (i a : ℕ) → a < length l → get_or (set l i true) a false ≡ false
    → (a ≢ i) × (get_or l a false ≡ false)
unmarked l i a below clear = (apart, sym (get_or-set_other l i a true false apart) ∙ clear) where
  apart : a ≢ i
  apart is = both_ways (get_or (set l i true) a false) clear
      (ap (λ k. get_or (set l i true) k false) is
      ∙ get_or-set_same l i true false (subst (λ k. k < length l) is below))

module _ (w : World) where
  can_step_is : (all : List Count) (a : ℕ) → a < closing_place w
      → is_some (legal_step w all a) ≡ has_work w all a
  can_step_is all a l = some_if (may w all (wish_of w a)) (wish_of w a) ∙ may_wish w all a l

  work_stays : (all : List Count) (e : Step) (a : ℕ) → a ≢ actor_of w e → a ≢ taker_of w e
      → has_work w (after_step w all e) a ≡ has_work w all a
  work_stays all (Give b) a actor taker =
      has_else got (work_of w a) (changed_at gave all b) (target_of w b) a taker
      ∙ has_else gave (work_of w a) all b a actor
  work_stays all (Use b) a actor taker = has_else used (work_of w a) all b a actor
  work_stays all Close a actor taker =
      has_else emptied (work_of w a) all (closing_place w) a actor

  pub stirred : (e : Step) (old : List Bool) → length old ≡ closing_place w + 1
      → Stirs (passing w) (λ all a. legal_step w all a) (closing_place w + 1) e old
      (set (set (set old (closing_place w) true) (actor_of w e) true) (taker_of w e) true)
  stirred e old long a below clear =
      let n = closing_place w in
      let one = set old n true in
      let two = set one (actor_of w e) true in
      let long_one : length one ≡ length old = length-set old n true in
      let long_two : length two ≡ length one = length-set one (actor_of w e) true in
      let third = unmarked two (taker_of w e) a (omega arith) clear in
      let second = unmarked one (actor_of w e) a (omega arith) third.1 in
      let first = unmarked old n a (omega arith) second.1 in
      let other = first.0 in
      let before : a < n = omega arith in (
        first.1,
        λ all s p. can_step_is (after_step w all e) a before
            ∙ (work_stays all e a second.0 third.0 ∙ sym (can_step_is all a before)),
      )
