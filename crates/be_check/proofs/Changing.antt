-- The last entry that changed a pixel's colour.
use Rattle.std.proofs.Common.{◌≡◌, ℕ, zero, suc, ◌+◌, ◌<◌, ◌≤◌, Bool, true, false}
use Rattle.std.proofs.Common.{List, [], ◌∷◌, ◌++◌, length, take, Option, Some, None, ◌⊎◌, inl, inr}
use Rattle.std.proofs.Common.{refl, sym, ap, subst, ◌∙◌, arith}
use Rattle.std.specs.Prelude.{ℤ, ◌-◌, ◌==◌, ◌&&◌, if◌then◌else◌}
use Rattle.std.specs.Option.{option_eq}
use Rattle.be_facts.proofs.Truths.{and_regroup}
use Rattle.be_color.specs.declared.colors.Rgb.{Rgb}
use Rattle.be_machine.specs.History.{state_after, state_from}
use Rattle.be_machine.specs.Pixels.{color_at}
use Rattle.be_machine.specs.State.{State, opening_state}
use Rattle.be_machine.specs.Step.{step}
use Rattle.be_machine.specs.declared.Entry.{Entry}
use Rattle.be_script.specs.Script.{Declared}
use Rattle.be_written.proofs.ScreenRows.{same_is, same_itself}
use Rattle.be_check.specs.Explaining.{if_changed, last_change, last_from, same_color}

-- ---- colours

pub color_itself : (o : Option Rgb) → same_color o o ≡ true
color_itself (Some a) = same_itself a
color_itself None = refl

pub color_is : (a b : Option Rgb) → same_color a b ≡ true → a ≡ b
color_is (Some a) (Some b) e = ap Some (same_is a b e)
color_is None None e = refl
color_is (Some a) None e = absurd (cc)
color_is None (Some b) e = absurd (cc)

pub same_if : (a b : Option Rgb) → a ≡ b → same_color a b ≡ true
same_if a b is = subst (λ o. same_color a o ≡ true) is (color_itself a)

pub other_if : (a b : Option Rgb) → ¬ (a ≡ b) → same_color a b ≡ false
other_if a b apart = by (same_color a b) refl
  where
    by : (t : Bool) → same_color a b ≡ t → t ≡ false
    by true e = absurd (apart (color_is a b e))
    by false e = refl

pub differs : (a b : Option Rgb) → same_color a b ≡ false → ¬ (b ≡ a)
differs a b e is = let odd : true ≡ false = sym (same_if a b (sym is)) ∙ e in cc

pub option_same : (a b : Option Rgb)
    → option_eq (λ (p q : Rgb). (p.red == q.red) && ((p.green == q.green) && (p.blue == q.blue)))
    a b ≡ same_color a b
option_same (Some a) (Some b) = and_regroup (a.red == b.red) (a.green == b.green) (a.blue == b.blue)
option_same None None = refl
option_same (Some a) None = refl
option_same None (Some b) = refl

-- one that stays isn't another one
pub kept_last : (o : Option Rgb) (last number : ℕ)
    → last ≡ (if same_color o o then last else number)
kept_last o last number =
    sym (ap (λ (t : Bool). if t then last else number) (color_itself o))

pub new_last : (a b : Option Rgb) (last number : ℕ) → same_color b a ≡ false
    → number ≡ (if same_color a b then last else number)
new_last a b last number other =
    sym (ap (λ (t : Bool). if t then last else number)
    (other_if a b (λ same. differs b a other same)))

module _ (d : Declared) (x y : ℤ) where
  abbrev color : State → Option Rgb
  color s = color_at s x y

  -- the state behind the first k of these
  abbrev behind : State → List Entry → ℕ → State
  behind s es k = state_from d s (take k es)

  abbrev changed : State → Entry → ℕ → ℕ → ℕ
  changed s e number last = if_changed s (step d s e) x y number last

  -- ---- one entry more

  pub last_more : (s : State) (number last : ℕ) (h : List Entry) (e : Entry)
      → last_from d x y s number last (h ++ e ∷ [])
      ≡ changed (state_from d s h) e (number + length h) (last_from d x y s number last h)
  unfolding last_from state_from
  last_more s number last [] e =
      let same : number ≡ number + 0 = omega arith in ap (λ n. changed s e n last) same
  last_more s number last (f ∷ fs) e =
      let same : number + 1 + length fs ≡ number + suc (length fs) = omega arith in
      last_more (step d s f) (number + 1) (changed s f number last) fs e
      ∙ ap (λ n. changed (state_from d (step d s f) fs) e n
      (last_from d x y (step d s f) (number + 1) (changed s f number last) fs)) same

  -- ---- it is none of these, or one that changed the colour

  -- the entry of this number changed it
  abbrev Changed : State → ℕ → List Entry → ℕ → Type 0
  Changed s number es found =
      (k : ℕ) × (found ≡ number + k)
      × ¬ (color (behind s es (suc k)) ≡ color (behind s es k))

  later : (s : State) (number : ℕ) (e : Entry) (es : List Entry) (found : ℕ)
      → Changed (step d s e) (number + 1) es found → Changed s number (e ∷ es) found
  unfolding state_from
  later s number e es found at = (suc at.0, omega (arith, at.1), at.2)

  first_by : (t : Bool) (s : State) (number last : ℕ) (e : Entry) (es : List Entry) (found : ℕ)
      → same_color (color s) (color (step d s e)) ≡ t
      → found ≡ (if t then last else number) → (found ≡ last) ⊎ Changed s number (e ∷ es) found
  unfolding state_from
  first_by true s number last e es found same is = inl is
  first_by false s number last e es found same is =
      inr (0, omega (arith, is), differs (color s) (color (step d s e)) same)

  pub which : (s : State) (number last : ℕ) (es : List Entry)
      → (last_from d x y s number last es ≡ last)
      ⊎ Changed s number es (last_from d x y s number last es)
  unfolding last_from
  which s number last [] = inl refl
  which s number last (e ∷ es) =
      let found : ℕ = last_from d x y (step d s e) (number + 1) (changed s e number last) es in
      elim (which (step d s e) (number + 1) (changed s e number last) es) [
        | inl is ↦
            first_by (same_color (color s) (color (step d s e))) s number last e es found refl is
        | inr at ↦ inr (later s number e es found at)
      ]

  -- ---- none behind it changed it

  least_by : (t : Bool) (number last : ℕ) → last < number
      → (last ≤ (if t then last else number)) × ((if t then last else number) < number + 1)
  least_by true number last lt = (omega arith, omega arith)
  least_by false number last lt = (omega arith, omega arith)

  least : (s : State) (number last : ℕ) (es : List Entry) → last < number
      → last ≤ last_from d x y s number last es
  unfolding last_from
  least s number last [] lt = omega arith
  least s number last (e ∷ es) lt =
      let here = least_by (same_color (color s) (color (step d s e))) number last lt in
      let rest = least (step d s e) (number + 1) (changed s e number last) es here.1 in
      omega (arith, here.0, rest)

  unchanged_by : (t : Bool) (s : State) (number last : ℕ) (e : Entry)
      → same_color (color s) (color (step d s e)) ≡ t → (if t then last else number) < number
      → color s ≡ color (step d s e)
  unchanged_by true s number last e same lt = color_is (color s) (color (step d s e)) same
  unchanged_by false s number last e same lt = absurd (omega arith)

  pub kept_behind : (s : State) (number last : ℕ) (es : List Entry) (k : ℕ) → last < number
      → last_from d x y s number last es < number + k → k ≤ length es
      → color (behind s es k) ≡ color (state_from d s es)
  unfolding last_from state_from
  kept_behind s number last [] zero lt found within = refl
  kept_behind s number last [] (suc k) lt found within = absurd (omega arith)
  kept_behind s number last (e ∷ es) zero lt found within =
      let here = least_by (same_color (color s) (color (step d s e))) number last lt in
      let low = least (step d s e) (number + 1) (changed s e number last) es here.1 in
      let now : changed s e number last < number = omega (arith, low, found) in
      unchanged_by (same_color (color s) (color (step d s e))) s number last e refl now
      ∙ kept_behind (step d s e) (number + 1) (changed s e number last) es 0 here.1
      (omega (arith, found)) (omega arith)
  kept_behind s number last (e ∷ es) (suc k) lt found within =
      let here = least_by (same_color (color s) (color (step d s e))) number last lt in
      kept_behind (step d s e) (number + 1) (changed s e number last) es k here.1
      (omega (arith, found)) (omega arith)

-- ---- of a whole history

pub it_changed : (d : Declared) (h : List Entry) (x y : ℤ) → 1 ≤ last_change d h x y
    → ¬ (color_at (state_after d (take (last_change d h x y) h)) x y
    ≡ color_at (state_after d (take (last_change d h x y - 1) h)) x y)
it_changed d h x y some =
    elim (which d x y (opening_state d) 1 0 h) [
      | inl none ↦ absurd (omega (arith, none, some))
      | inr at ↦ changed_at (last_change d h x y) at
    ]
  where
    changed_at : (found : ℕ) → Changed d x y (opening_state d) 1 h found
        → ¬ (color_at (state_after d (take found h)) x y
        ≡ color_at (state_after d (take (found - 1) h)) x y)
    changed_at found at same =
        let up : found ≡ suc at.0 = omega (arith, at.1) in
        let down : found - 1 ≡ at.0 = omega (arith, at.1) in
        at.2 (ap (λ n. color_at (state_after d (take n h)) x y) (sym up) ∙ same
        ∙ ap (λ n. color_at (state_after d (take n h)) x y) down)

pub none_behind : (d : Declared) (h : List Entry) (x y : ℤ) (k : ℕ) → last_change d h x y ≤ k
    → k ≤ length h → color_at (state_after d (take k h)) x y ≡ color_at (state_after d h) x y
none_behind d h x y k found within =
    kept_behind d x y (opening_state d) 1 0 h k (omega arith) (omega (arith, found)) within
