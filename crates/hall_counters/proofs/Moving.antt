-- Counters in hand before and after a transfer.
use Rattle.std.proofs.Common.{◌≡◌, ◌≢◌, ℕ, ◌+◌, ◌-◌, ◌<◌, ◌≤◌, ◌⊎◌, inl, inr, ⊎_elim, true, List, [], ◌∷◌, ◌++◌, length, Option, Some, option_map, sym, refl, ap, ◌∙◌, subst, arith}
use mathlib.Core.Option.{some-injective}
use lib.ListN.{get_elem?}
use Rattle.be_hall.specs.Hands.{places_of, part_at, with_part, meant, rises_from}
use Rattle.be_hall.specs.Machine.{Fits, IsHeld, HeldFit, SomeFits, IsReady}
use Rattle.be_hall.proofs.Holding.{fits_with, fits_at, same_places, held_part, part_held, fit_of, fit_with, fit_after}
use Rattle.hall_counters.specs.declared.transfer.Count.{Count}
use Rattle.hall_counters.specs.declared.transfer.Transfer.{Transfer}
use Rattle.hall_counters.specs.Counting.{gave, got, moved, counting}
use Rattle.hall_counters.specs.Laws.{moved_is}

-- what is seen of the part before is what the part after has
pub counted_as : {A B : Type 0} (f : A → B) (o : Option A) (x y : A) (k : B) → o ≡ Some x → option_map f o ≡ Some k → f y ≡ f x → f y ≡ k
counted_as f o x y k at seen is = is ∙ some_same (f x) k (sym (ap (option_map f) at) ∙ seen) where
  some_same : {C : Type 0} (a b : C) → Some a ≡ Some b → a ≡ b
  some_same a b e = cc

pub positive : (n : ℕ) → (n ≡ 0 → ⊥) → 0 < n
positive n h = omega arith

abbrev pub Fit : ℕ → Count → Type 0
Fit n c = c.units ≤ 4611686018427387904 + n

module _ {T : Type 0} (m : T → Count) where
  -- with these two counters in hand the transfer may be made
  pub ready : (places : ℕ) (held : List (ℕ × T)) (e : Transfer) (x z : T) → e.source ≢ e.target → part_at held e.source ≡ Some x → part_at held e.target ≡ Some z → 0 < (m x).units → 0 < (m x).left → IsReady (counting places) (meant m held) e
  ready places held e x z apart at_x at_z units left all s f = (
    (apart, m x, m z, fits_at m all e.source held x at_x f, fits_at m all e.target held z at_z f, units, left),
    λ p t. ⊎_elim (λ is. subst (IsHeld (meant m held)) (sym is) (part_held m held e.source x at_x)) (λ is. subst (IsHeld (meant m held)) (sym is) (part_held m held e.target z at_z)) t,
  )

  -- a transfer that may be made has its two counters in hand
  pub two : (places : ℕ) (held : List (ℕ × T)) (e : Transfer) → SomeFits (counting places) (meant m held) → IsReady (counting places) (meant m held) e
      → (x : T) × (z : T) × (part_at held e.source ≡ Some x) × (part_at held e.target ≡ Some z) × (e.source ≢ e.target) × (0 < (m x).units) × (0 < (m x).left)
  two places held e some_list may =
      let all : List Count = some_list.0 in
      let go = may all some_list.1 some_list.2 in
      let x = held_part m held e.source (go.1 e.source (inl refl)) in
      let z = held_part m held e.target (go.1 e.target (inr refl)) in
      let same : go.0.1 ≡ m x.0 = some-injective go.0.1 (m x.0) (sym go.0.3 ∙ fits_at m all e.source held x.0 x.1 some_list.2) in
      (x.0, z.0, x.1, z.1, go.0.0, subst (λ (c : Count). 0 < c.units) same go.0.5, subst (λ (c : Count). 0 < c.left) same go.0.6)

  -- what the counters mean after it
  pub goes : (all : List Count) (held : List (ℕ × T)) (e : Transfer) (x y z w : T) → rises_from 0 (places_of held) ≡ true → part_at held e.source ≡ Some x → part_at held e.target ≡ Some z → m y ≡ gave (m x) → m w ≡ got (m z)
      → Fits all (meant m held) → Fits (moved all e (get_elem? all e.source) (get_elem? all e.target)) (meant m (with_part (with_part held e.source y) e.target w))
  goes all held e x y z w rises at_x at_z give get f =
      let mid : List (ℕ × T) = with_part held e.source y in
      let one = fits_with m all 0 e.source held y rises f in
      let two = fits_with m (Rattle.std.proofs.Common.set all e.source (m y)) 0 e.target mid w (ap (rises_from 0) (same_places held e.source y) ∙ rises) one in
      subst (λ (l : List Count). Fits l (meant m (with_part mid e.target w))) (sym (moved_is all e (m x) (m z) (fits_at m all e.source held x at_x f) (fits_at m all e.target held z at_z f) ∙ (λ i. Rattle.std.proofs.Common.set (Rattle.std.proofs.Common.set all e.source (sym give i)) e.target (sym get i)))) two

  pub fit_then : (n : ℕ) (held : List (ℕ × T)) (e : Transfer) (x y z w : T) → 0 < n → part_at held e.source ≡ Some x → part_at held e.target ≡ Some z → m y ≡ gave (m x) → m w ≡ got (m z) → HeldFit Fit (n - 1) (meant m held) → HeldFit Fit n (meant m (with_part (with_part held e.source y) e.target w))
  fit_then n held e x y z w pos at_x at_z give get h =
      let a = fit_of m Fit (n - 1) held e.source x at_x h in
      let b = fit_of m Fit (n - 1) held e.target z at_z h in
      let c : (m y).units ≡ (m x).units - 1 = ap (λ (k : Count). k.units) give in
      let d : (m w).units ≡ (m z).units + 1 = ap (λ (k : Count). k.units) get in
      fit_with m Fit n (with_part held e.source y) e.target w (omega arith) (fit_with m Fit n held e.source y (omega arith) (fit_after m Fit (n - 1) n held (λ k f. omega arith) h))

  pub room_left : (n : ℕ) (held : List (ℕ × T)) (p : ℕ) (z : T) → n ≤ 4611686018427387904 → part_at held p ≡ Some z → HeldFit Fit (n - 1) (meant m held) → (m z).units + 1 < 18446744073709551616
  room_left n held p z small at h = let b = fit_of m Fit (n - 1) held p z at h in omega arith
