-- A planned change that is carried out pane by pane.
use Rattle.std.proofs.Common.{◌≡◌, ℕ, zero, suc, ◌+◌, ◌<◌, ◌≤◌, List, [], ◌∷◌, ◌++◌, map, length, take, get_or, Option, Some, refl, sym, ap, ◌∙◌, subst, arith}
use Rattle.std.specs.Prelude.{slice_get, slice_set}
use Rattle.std.proofs.lemmas.List.{length-map}
use Rattle.std.proofs.lemmas.Option.{same_Some}
use Rattle.be_asking.specs.declared.activity.Activity.{Activity}
use Rattle.be_changes.proofs.MadeLists.{both_left, none_left, one_left}
use Rattle.be_changes.specs.Left.{HasLeft}
use Rattle.be_changes.specs.Panes.{AreToChange, IsEachOnce, IsToChange, PanesAreLeft, PanesAreToChange, pane_places}
use Rattle.be_desk.specs.Plans.{Planned}
use Rattle.be_hall.proofs.Holding.{with_other}
use Rattle.be_hall.specs.Hands.{Hand, meant, part_at}
use Rattle.be_hall.specs.Machine.{IsHeld}
use Rattle.be_machine.specs.Touched as part
use Rattle.be_parts.specs.Changed.{HasSpansOf, IsAsBefore}
use Rattle.be_parts.specs.Kept.{Kept, Logged}
use Rattle.be_parts.specs.Parts.{hand_with, meaning_of}
use Rattle.be_parts.specs.declared.part.Part.{Part}
use Rattle.be_parts.specs.declared.part.Part.TheVariants as kinds
use Rattle.be_rules.specs.Places.{IsPart, place_of}
use Rattle.be_rules.specs.Slices.{Slice}
use Rattle.be_script.specs.Script.{Declared}
use Rattle.be_desk.specs.declared.planned.Renewed.{Renewed}
use Rattle.be_steps.specs.Steps.{LeavesAt}

-- ---- lists

module _ {A : Type 0} where
  set_else : (xs : List A) (n k : ℕ) (y : A) → (k ≡ n → ⊥) → slice_get (slice_set xs n y) k ≡ slice_get xs k
  set_else [] n k y other = refl
  set_else (x ∷ xs) zero zero y other = absurd (other refl)
  set_else (x ∷ xs) zero (suc k) y other = refl
  set_else (x ∷ xs) (suc n) zero y other = refl
  set_else (x ∷ xs) (suc n) (suc k) y other = set_else xs n k y (λ e. other (ap suc e))

  take_more : (xs : List A) (n : ℕ) (x : A) → slice_get xs n ≡ Some x → take (n + 1) xs ≡ take n xs ++ x ∷ []
  take_more [] n x at = absurd (cc)
  take_more (y ∷ ys) zero x at = ap (λ z. z ∷ []) (same_Some y x at)
  take_more (y ∷ ys) (suc n) x at = let more : suc n + 1 ≡ suc (n + 1) = omega arith in ap (λ k. take k (y ∷ ys)) more ∙ ap (λ l. y ∷ l) (take_more ys n x at)

  take_all : (xs : List A) (n : ℕ) → length xs ≤ n → take n xs ≡ xs
  take_all [] zero many = refl
  take_all [] (suc n) many = refl
  take_all (x ∷ xs) zero many = absurd (omega arith)
  take_all (x ∷ xs) (suc n) many = ap (λ l. x ∷ l) (take_all xs n (omega arith))

  map_join : {B : Type 0} (f : A → B) (xs : List A) (x : A) → map f (xs ++ x ∷ []) ≡ map f xs ++ f x ∷ []
  map_join f [] x = refl
  map_join f (y ∷ ys) x = ap (λ l. f y ∷ l) (map_join f ys x)

  -- an element of the images is that of one of them
  pub map_got : (f : A → ℕ) (xs : List A) (k p : ℕ) → slice_get (map f xs) k ≡ Some p → (x : A) × (slice_get xs k ≡ Some x) × (p ≡ f x)
  map_got f [] k p at = absurd (cc)
  map_got f (x ∷ xs) zero p at = (x, refl, sym (same_Some (f x) p at))
  map_got f (x ∷ xs) (suc k) p at = map_got f xs k p at

got_or : (xs : List ℕ) (n : ℕ) → n < length xs → slice_get xs n ≡ Some (get_or xs n 0)
got_or [] n lt = absurd (omega arith)
got_or (x ∷ xs) zero lt = refl
got_or (x ∷ xs) (suc n) lt = got_or xs n (omega arith)

-- ---- places

pub pane_apart : (d : Declared) (u v : ℕ) → place_of d (part.pane u) ≡ place_of d (part.pane v) → u ≡ v
pane_apart d u v same = omega arith

-- ---- plans

spans_else : (plan then_plan : Planned) (n k : ℕ) (old new : Slice) → IsAsBefore plan n then_plan → (k ≡ n → ⊥) → HasSpansOf plan k old new → HasSpansOf then_plan k old new
spans_else plan then_plan n k old new as_before other has =
    subst (λ (t : Planned). HasSpansOf t k old new) (sym as_before.1) (has.0, set_else plan.spans n k as_before.0 other ∙ has.1, has.2)

-- ---- one after the other

module _ (d : Declared) (parts : List (ℕ × Part)) (who : Activity) (first_plan : Planned) (places : List ℕ) (old : Hand Part) where
  -- the panes of the first n windows are changed
  pub record AreUnderWay (n : ℕ) (plan : Planned) (held : Hand Part) : Type 0 where
    pub windows : List ℕ
    pub places_are : places ≡ pane_places d windows
    pub once : IsEachOnce windows
    pub ready : AreToChange d parts held.parts who plan windows n
    pub left : HasLeft d parts who (map part.pane (take n windows)) old held
    pub spans : List (Option Renewed)
    pub plan_is : plan ≡ record first_plan { spans = spans }

  pub none_changed : PanesAreToChange d parts old.parts who first_plan places → AreUnderWay 0 first_plan old
  none_changed (windows, are, once, ready) = record { windows = windows; places_are = are; once = once; ready = ready; left = none_left d parts who old; spans = first_plan.spans; plan_is = refl }

  module _ (n : ℕ) (plan : Planned) (held : Hand Part) (is : AreUnderWay n plan held) (below : n < length places) where
    abbrev place : ℕ
    place = get_or places n 0

    this : (u : ℕ) × (slice_get is.windows n ≡ Some u) × (place ≡ place_of d (part.pane u))
    this = map_got (λ u. place_of d (part.pane u)) is.windows n place (ap (λ (l : List ℕ). slice_get l n) (sym is.places_are) ∙ got_or places n below)

    to : IsToChange d parts held.parts who plan n this.0
    to = is.ready n this.0 (omega arith) this.1

    -- the pane is one of the script's, and in hand
    pub is_held : (b : Hand Part) → b.parts ≡ parts → (x : part.Part) × IsPart d x × (place ≡ place_of d x) × IsHeld (meant meaning_of b.parts) place
    is_held b copy = (part.pane this.0, to.there, this.2, subst (λ (l : List (ℕ × Part)). IsHeld (meant meaning_of l) place) (sym copy) (subst (IsHeld (meant meaning_of parts)) (sym this.2) to.held))

    pub in_place : (k : Kept) × (part_at held.parts place ≡ Some (kinds.Pane k))
    in_place = (to.was, ap (part_at held.parts) this.2 ∙ to.at_place)

    left_there : (v : Slice) → LeavesAt d parts who place v → LeavesAt d parts who (place_of d (part.pane this.0)) v
    left_there v leaves = subst (λ p. LeavesAt d parts who p v) this.2 leaves

    -- it has its spans in the plan
    pub has_spans : (k : Kept) (v : Slice) → part_at held.parts place ≡ Some (kinds.Pane k) → LeavesAt d parts who place v → HasSpansOf plan n k.slice v
    has_spans k v here leaves =
        let same : to.was.slice ≡ k.slice = ap meaning_of (same_Some (kinds.Pane to.was) (kinds.Pane k) (sym to.at_place ∙ ap (part_at held.parts) (sym this.2) ∙ here)) in
        subst (λ (z : Slice). HasSpansOf plan n z v) same (to.leads v (left_there v leaves))

    -- and the next one is changed after it
    module _ (then_plan : Planned) (was now : Kept) (v : Slice) (here : part_at held.parts place ≡ Some (kinds.Pane was)) (leaves : LeavesAt d parts who place v) (slice : now.slice ≡ v) (log : now.log ≡ was.log) (as_before : IsAsBefore plan n then_plan) where
      abbrev later : Hand Part
      later = hand_with held place (kinds.Pane now)

      this_left : HasLeft d parts who (part.pane this.0 ∷ []) held later
      this_left = one_left d parts who held (part.pane this.0) place (kinds.Pane was) (kinds.Pane now) this.2 to.there here (ap (λ (l : Logged). Some l) log) (subst (λ (z : Slice). LeavesAt d parts who (place_of d (part.pane this.0)) z) (sym slice) (left_there v leaves))

      left_more : HasLeft d parts who (map part.pane (take (n + 1) is.windows)) old later
      left_more =
          subst (λ (xs : List part.Part). HasLeft d parts who xs old later) (sym (ap (map part.pane) (take_more is.windows n this.0 this.1) ∙ map_join part.pane (take n is.windows) this.0))
          (both_left d parts who (map part.pane (take n is.windows)) (part.pane this.0 ∷ []) old held later is.left this_left)

      ready_more : AreToChange d parts later.parts who then_plan is.windows (n + 1)
      ready_more k u more at_k =
          let r : IsToChange d parts held.parts who plan k u = is.ready k u (omega arith) at_k in
          let apart : k ≡ n → ⊥ = λ e. absurd (omega arith) in
          let other : u ≡ this.0 → ⊥ = λ e. apart (is.once k n u at_k (this.1 ∙ ap (λ z. Some z) (sym e))) in
          record {
            there = r.there;
            held = r.held;
            was = r.was;
            at_place = with_other held.parts place (place_of d (part.pane u)) (kinds.Pane now) (λ same. other (pane_apart d u this.0 (same ∙ this.2))) ∙ r.at_place;
            leads = λ z leaves_z. spans_else plan then_plan n k r.was.slice z as_before apart (r.leads z leaves_z);
          }

      pub one_changed : AreUnderWay (n + 1) then_plan later
      one_changed = record {
        windows = is.windows;
        places_are = is.places_are;
        once = is.once;
        ready = ready_more;
        left = left_more;
        spans = slice_set plan.spans n as_before.0;
        plan_is = as_before.1 ∙ ap (λ (p : Planned). record p { spans = slice_set plan.spans n as_before.0 }) is.plan_is;
      }

  pub all_changed : (n : ℕ) (plan : Planned) (held : Hand Part) → length places ≤ n → AreUnderWay n plan held → PanesAreLeft d parts who places old held
  all_changed n plan held all is =
      let many : length is.windows ≤ n = subst (λ k. k ≤ n) (ap (λ (l : List ℕ). length l) is.places_are ∙ length-map is.windows _) all in
      (is.windows, is.places_are, subst (λ (l : List ℕ). HasLeft d parts who (map part.pane l) old held) (take_all is.windows n many) is.left)

  pub plan_kept : (n : ℕ) (plan : Planned) (held : Hand Part) → AreUnderWay n plan held → (spans : List (Option Renewed)) × (plan ≡ record first_plan { spans = spans })
  plan_kept n plan held is = (is.spans, is.plan_is)
