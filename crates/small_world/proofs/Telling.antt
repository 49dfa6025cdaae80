-- What counters in hand tell of all of them.
use Rattle.std.proofs.Common.{◌≡◌, ℕ, zero, suc, ◌+◌, ◌<◌, ◌≤◌, inl, inr, ⊎_elim, Bool, true, false, not, ◌&&◌, nat_lt, List, [], ◌∷◌, Some, None, option_map, if◌then◌else◌, sym, refl, ap, ◌∙◌, subst, arith}
use Rattle.std.proofs.lemmas.Bool.{and_from, lt-ltb, le-ltb, not_from_false, both_ways, false_from_ne_true, cond-true, cond-false}
use mathlib.Core.Logic.{dite}
use native.Mathlib.Decide.{dec_le}
use Rattle.be_facts.proofs.Lists.{no_part, some_part}
use Rattle.be_hall.specs.Hands.{part_at, meant, places_of, up_from}
use Rattle.be_hall.specs.Machine.{Fits, IsHeld, IsReady}
use Rattle.be_hall.proofs.Holding.{fits_at, not_held, part_held, held_part}
use Rattle.be_turns.specs.Turning.{is_some}
use Rattle.small_world.specs.declared.step.Count.{Count}
use Rattle.small_world.specs.declared.step.Step.{Step}
use Rattle.small_world.specs.declared.step.Step.TheVariants.{Give, Use, Close}
use Rattle.small_world.specs.declared.world.World.{World}
use Rattle.small_world.specs.declared.counter.Counter.{Counter}
use Rattle.small_world.specs.Counting.{closing_place, target_of, wish_of, work_of, has_work, is_idle_below, may, legal_step, passing}
use Rattle.small_world.specs.Counters.{count_of}
use Rattle.small_world.specs.InHand.{told_work}
use Rattle.small_world.specs.Changing.{has_at}
use Rattle.small_world.specs.Laws.{gives, uses, closes, idle_at, idle_from, may_wish}

pub some_if : (b : Bool) (v : Step) → is_some (if b then Some v else None) ≡ b
some_if true v = refl
some_if false v = refl

module _ (w : World) (held : List (ℕ × Counter)) where
  -- a counter that isn't in hand
  pub missing : (a : ℕ) → told_work w held a ≡ None → IsHeld (meant count_of held) a → ⊥
  missing a e =
      not_held count_of held a (no_part (λ (x : Counter). nat_lt 0 (work_of w a (count_of x)))
      (part_at held a) e)

  -- one that is
  pub found : (a : ℕ) (b : Bool) → told_work w held a ≡ Some b → IsHeld (meant count_of held) a
  found a b e =
      let x = some_part (λ (y : Counter). nat_lt 0 (work_of w a (count_of y))) (part_at held a) b e
      in part_held count_of held a x.0 x.1

  -- what it tells is so of all
  pub told : (a : ℕ) (b : Bool) (all : List Count) → told_work w held a ≡ Some b
      → Fits all (meant count_of held) → has_work w all a ≡ b
  told a b all e f =
      let x = some_part (λ (y : Counter). nat_lt 0 (work_of w a (count_of y))) (part_at held a) b e
      in has_at (work_of w a) all a (count_of x.0) (fits_at count_of all a held x.0 x.1 f) ∙ x.2

  pub is_told : (a : ℕ) → IsHeld (meant count_of held) a
      → (b : Bool) × (told_work w held a ≡ Some b)
  is_told a h =
      let x = held_part count_of held a h in (
        nat_lt 0 (work_of w a (count_of x.0)),
        ap (option_map
            (λ (y : Counter). nat_lt 0 (work_of w a (count_of y)))) x.1,
      )

  -- whoever has work has a step to make, but for the closing activity
  pub can_step : (all : List Count) (a : ℕ) (b : Bool) → a < closing_place w
      → told_work w held a ≡ Some b → Fits all (meant count_of held)
      → b ≡ is_some (legal_step w all a)
  can_step all a b below here f =
      sym (some_if (may w all (wish_of w a)) (wish_of w a)
      ∙ (may_wish w all a below ∙ told a b all here f))

  pub give_ready : (a : ℕ) (b : Bool) → a < w.producers → told_work w held a ≡ Some true
      → told_work w held (target_of w a) ≡ Some b
      → IsReady (passing w) (meant count_of held) (Give a)
  give_ready a b below here target all s f = (
    and_from (nat_lt a w.producers) (has_work w all a) (lt-ltb a w.producers below)
        (told a true all here f),
    λ p t. ⊎_elim (λ is. subst (IsHeld (meant count_of held)) (sym is) (found a true here))
        (λ is. subst (IsHeld (meant count_of held)) (sym is) (found (target_of w a) b target)) t,
  )

  pub no_giver : (a : ℕ) → w.producers ≤ a → (all : List Count) → may w all (Give a) ≡ true → ⊥
  no_giver a from all h = let g = gives w all a h in let below = g.0 in omega arith

  pub no_gift : (a : ℕ) → told_work w held a ≡ Some false → (all : List Count)
      → Fits all (meant count_of held) → may w all (Give a) ≡ true → ⊥
  no_gift a here all f h =
      both_ways (has_work w all a) (told a false all here f) (gives w all a h).1

  pub use_ready : (a : ℕ) → w.producers ≤ a → a < closing_place w → told_work w held a ≡ Some true
      → IsReady (passing w) (meant count_of held) (Use a)
  use_ready a from below here all s f = (
    and_from (not (nat_lt a w.producers) && nat_lt a (closing_place w)) (has_work w all a)
        (and_from (not (nat_lt a w.producers)) (nat_lt a (closing_place w))
        (not_from_false (nat_lt a w.producers) (le-ltb a w.producers from))
        (lt-ltb a (closing_place w) below)) (told a true all here f),
    λ p t. subst (IsHeld (meant count_of held)) (sym t) (found a true here),
  )

  pub no_user : (a : ℕ) → ((w.producers ≤ a → a < closing_place w → ⊥)) → (all : List Count)
      → may w all (Use a) ≡ true → ⊥
  no_user a out all h = let u = uses w all a h in out u.0 u.1

  pub no_use : (a : ℕ) → told_work w held a ≡ Some false → (all : List Count)
      → Fits all (meant count_of held) → may w all (Use a) ≡ true → ⊥
  no_use a here all f h = both_ways (has_work w all a) (told a false all here f) (uses w all a h).2

  -- the closing step, where the first k are without work
  pub close_ready : ((a : ℕ) → a < closing_place w → told_work w held a ≡ Some false)
      → told_work w held (closing_place w) ≡ Some true
      → IsReady (passing w) (meant count_of held) Close
  close_ready none here all s f = (
    and_from (is_idle_below w all (closing_place w)) (has_work w all (closing_place w))
        (idle_from w all (closing_place w) (λ a l. told a false all (none a l) f))
        (told (closing_place w) true all here f),
    λ p t. dite (dec_le (closing_place w) p)
        (λ last. let is : closing_place w ≡ p = omega arith in
        subst (IsHeld (meant count_of held)) is (found (closing_place w) true here))
        (λ before. found p false (none p (omega arith))),
  )

  pub not_idle : (a : ℕ) → a < closing_place w → told_work w held a ≡ Some true
      → (all : List Count) → Fits all (meant count_of held) → may w all Close ≡ true → ⊥
  not_idle a below here all f h =
      both_ways (has_work w all a) (idle_at w all (closing_place w) a (closes w all h).0 below)
      (told a true all here f)

  pub is_over : told_work w held (closing_place w) ≡ Some false → (all : List Count)
      → Fits all (meant count_of held) → may w all Close ≡ true → ⊥
  is_over here all f h =
      both_ways (has_work w all (closing_place w)) (told (closing_place w) false all here f)
      (closes w all h).1

-- what is so of an activity's wish tells what it may do
module _ (w : World) (all : List Count) (activity : ℕ) (wish : Step)
    (is : wish ≡ wish_of w activity) where
  pub legal_where : may w all wish ≡ true → legal_step w all activity ≡ Some wish
  legal_where h =
      cond-true (may w all (wish_of w activity)) (Some (wish_of w activity)) None
      (subst (λ k. may w all k ≡ true) is h) ∙ ap Some (sym is)

  pub none_where : (may w all wish ≡ true → ⊥) → legal_step w all activity ≡ None
  none_where out =
      cond-false (may w all (wish_of w activity)) (Some (wish_of w activity)) None
      (false_from_ne_true (may w all (wish_of w activity))
      (λ h. out (subst (λ k. may w all k ≡ true) (sym is) h)))

-- where all counters are in hand none is needed
pub all_in_hand : (held : List (ℕ × Counter)) (many p : ℕ) → places_of held ≡ up_from 0 many
    → p < many → IsHeld (meant count_of held) p
all_in_hand held many p e b = from_there 0 many p held e (omega arith) (omega arith) where
  firsts : (a b : ℕ) (ps qs : List ℕ) → a ∷ ps ≡ b ∷ qs → a ≡ b
  firsts a b ps qs h = cc

  rests : (a b : ℕ) (ps qs : List ℕ) → a ∷ ps ≡ b ∷ qs → ps ≡ qs
  rests a b ps qs h = cc

  no_list : (ps : List ℕ) (q : ℕ) → [] ≡ q ∷ ps → ⊥
  no_list ps q h = cc

  from_there : (k n p : ℕ) (held : List (ℕ × Counter)) → places_of held ≡ up_from k n → k ≤ p
      → p < k + n → IsHeld (meant count_of held) p
  from_there k zero p held e a b = absurd (omega arith)
  from_there k (suc n) p [] e a b = absurd (no_list (up_from (suc k) n) k e)
  from_there k (suc n) p (x ∷ xs) e a b =
      let here : x.0 ≡ k = firsts x.0 k (places_of xs) (up_from (suc k) n) e in
      let more : places_of xs ≡ up_from (suc k) n =
      rests x.0 k (places_of xs) (up_from (suc k) n) e in
      dite (dec_le p k) (λ at. inl (let same : p ≡ k = omega arith in here ∙ sym same))
      (λ past. inr (from_there (suc k) n p xs more (omega arith) (omega arith)))
