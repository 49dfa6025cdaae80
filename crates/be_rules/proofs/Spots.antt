-- Where a window owns other pixels than before, one of them can be found.
use Rattle.std.proofs.Common.{◌≡◌, ℕ, zero, suc, ◌<◌, ℤ, pos, negsuc, Bool, true, false, Option, Some, None, ◌⊎◌, inl, inr, refl, sym, ap, ◌∙◌, arith}
use Rattle.std.specs.Prelude.{◌&&◌, int_le, int_lt}
use Rattle.std.proofs.lemmas.Bool.Decides.{nat_tests}
use Rattle.be_facts.proofs.Truths.{and_second, and_first}
use Rattle.be_desk.specs.Affected.{OwnsTheSame}
use Rattle.be_geom.specs.Numbers.{is_number}
use Rattle.be_stack.specs.Owner.{owner_at, is_on_screen}
use Rattle.be_stack.specs.Windows.{Windows}

-- ---- the first so many numbers

-- one of which the first holds, or the other holds of each
some_or_all : (n : ℕ) (P Q : ℕ → Type 0) → ((i : ℕ) → P i ⊎ Q i) → ((i : ℕ) × (i < n) × P i) ⊎ ((i : ℕ) → i < n → Q i)
some_or_all zero P Q either = inr (λ i lt. absurd (omega arith))
some_or_all (suc n) P Q either = first (either 0) (some_or_all n (λ i. P (suc i)) (λ i. Q (suc i)) (λ i. either (suc i)))
  where
    later : (n : ℕ) (Q : ℕ → Type 0) → Q 0 → ((i : ℕ) → i < n → Q (suc i)) → (i : ℕ) → i < suc n → Q i
    later n Q q all zero lt = q
    later n Q q all (suc i) lt = all i (omega arith)

    first : P 0 ⊎ Q 0 → ((i : ℕ) × (i < n) × P (suc i)) ⊎ ((i : ℕ) → i < n → Q (suc i)) → ((i : ℕ) × (i < suc n) × P i) ⊎ ((i : ℕ) → i < suc n → Q i)
    first (inl p) more = inl (0, omega arith, p)
    first (inr q) (inl s) = let lt : s.0 < n = s.1 in inl (suc s.0, omega arith, s.2)
    first (inr q) (inr all) = inr (later n Q q all)

-- ---- pixels

not_both : true ≡ false → ⊥
not_both e = cc

decide : (a b : Bool) → (a ≡ b → ⊥) ⊎ (a ≡ b)
decide true true = inr refl
decide true false = inl not_both
decide false true = inl (λ e. not_both (sym e))
decide false false = inr refl

inside : (x size : ℕ) → is_on_screen size (pos x) ≡ true → x < size
inside x size on = let lt : int_lt (pos x) (pos size) ≡ true = and_second (int_le (pos 0) (pos x)) (int_lt (pos x) (pos size)) on in grind (arith, nat_tests)

off : (windows : Windows) (x y : ℤ) → (is_on_screen windows.width x && is_on_screen windows.height y) ≡ false → owner_at windows x y ≡ None
unfolding owner_at
off windows x y e = rw e refl

-- the same window owns the pixel in both, or nobody does
abbrev Stays : Windows → Windows → ℕ → ℤ → ℤ → Type 0
Stays before after u x y = is_number u (owner_at before x y) ≡ is_number u (owner_at after x y)

module _ (before after : Windows) (width : after.width ≡ before.width) (height : after.height ≡ before.height) (u : ℕ) where
  abbrev on : ℤ → ℤ → Bool
  on x y = is_on_screen before.width x && is_on_screen before.height y

  off_stays : (x y : ℤ) → on x y ≡ false → Stays before after u x y
  off_stays x y e =
      ap (is_number u) (off before x y e)
      ∙ ap (is_number u) (sym (off after x y (ap (λ n. is_on_screen n x && is_on_screen after.height y) width ∙ ap (λ n. is_on_screen before.width x && is_on_screen n y) height ∙ e)))

  abbrev RowStays : ℕ → Type 0
  RowStays y = (x : ℕ) → x < before.width → Stays before after u (pos x) (pos y)

  abbrev InRow : ℕ → Type 0
  InRow y = (x : ℕ) × (x < before.width) × (Stays before after u (pos x) (pos y) → ⊥)

  row : (y : ℕ) → InRow y ⊎ RowStays y
  row y = some_or_all before.width (λ x. Stays before after u (pos x) (pos y) → ⊥) (λ x. Stays before after u (pos x) (pos y)) (λ x. decide (is_number u (owner_at before (pos x) (pos y))) (is_number u (owner_at after (pos x) (pos y))))

  all_stay : ((y : ℕ) → y < before.height → RowStays y) → (x y : ℤ) (b : Bool) → on x y ≡ b → Stays before after u x y
  all_stay rows x y false e = off_stays x y e
  all_stay rows (pos x) (pos y) true e = rows y (inside y before.height (and_second (is_on_screen before.width (pos x)) (is_on_screen before.height (pos y)) e)) x (inside x before.width (and_first (is_on_screen before.width (pos x)) (is_on_screen before.height (pos y)) e))
  all_stay rows (pos x) (negsuc y) true e = let never : false ≡ true = and_first (int_le (pos 0) (negsuc y)) (int_lt (negsuc y) (pos before.height)) (and_second (is_on_screen before.width (pos x)) (is_on_screen before.height (negsuc y)) e) in absurd (cc)
  all_stay rows (negsuc x) y true e = let never : false ≡ true = and_first (int_le (pos 0) (negsuc x)) (int_lt (negsuc x) (pos before.width)) (and_first (is_on_screen before.width (negsuc x)) (is_on_screen before.height y) e) in absurd (cc)

  found : ((y : ℕ) × (y < before.height) × InRow y) ⊎ ((y : ℕ) → y < before.height → RowStays y) → (OwnsTheSame before after u → ⊥) → (x : ℤ) × (y : ℤ) × (Stays before after u x y → ⊥)
  found (inl at) other = (pos at.2.0, pos at.0, at.2.2)
  found (inr rows) other = absurd (other (λ x y. all_stay rows x y (on x y) refl))

  -- one that the window doesn't own in both
  pub pixel_found : (OwnsTheSame before after u → ⊥) → (x : ℤ) × (y : ℤ) × (Stays before after u x y → ⊥)
  pixel_found other = found (some_or_all before.height InRow RowStays row) other

-- whoever owns it in one of them owns it there alone
owned_once : (u : ℕ) (o p : Option ℕ) (a b : Bool) → is_number u o ≡ a → is_number u p ≡ b → (a ≡ b → ⊥) → ((o ≡ Some u) ⊎ (p ≡ Some u)) × (p ≡ o → ⊥)
owned_once u o p true true e f differ = absurd (differ refl)
owned_once u o p false false e f differ = absurd (differ refl)
owned_once u o p true false e f differ = (inl (numbered u o e), λ is. not_both (sym e ∙ ap (is_number u) (sym is) ∙ f))
  where
    numbered : (u : ℕ) (o : Option ℕ) → is_number u o ≡ true → o ≡ Some u
    numbered u (Some v) e = let is : v ≡ u = grind (arith, nat_tests) in ap Some is
    numbered u None e = absurd (cc)
owned_once u o p false true e f differ = (inr (numbered u p f), λ is. not_both (sym f ∙ ap (is_number u) is ∙ e))
  where
    numbered : (u : ℕ) (o : Option ℕ) → is_number u o ≡ true → o ≡ Some u
    numbered u (Some v) e = let is : v ≡ u = grind (arith, nat_tests) in ap Some is
    numbered u None e = absurd (cc)

pub changes_hands : (before after : Windows) → after.width ≡ before.width → after.height ≡ before.height → (u : ℕ) → (OwnsTheSame before after u → ⊥) → (x : ℤ) × (y : ℤ) × ((owner_at before x y ≡ Some u) ⊎ (owner_at after x y ≡ Some u)) × (owner_at after x y ≡ owner_at before x y → ⊥)
changes_hands before after width height u other =
    let at = pixel_found before after width height u other in
    let hands = owned_once u (owner_at before at.0 at.1) (owner_at after at.0 at.1) _ _ refl refl at.2 in
    (at.0, at.1, hands.0, hands.1)
