-- Lists of what parts mean, each with its notes.
use Rattle.std.proofs.Common.{◌≡◌, ◌≢◌, ℕ, zero, suc, ◌+◌, ◌<◌, ◌≤◌, List, [], ◌∷◌, ◌++◌, map, length, inl, inr, if◌then◌else◌, ◌==◌, eq-eqb, ne_eqb, refl, sym, ap, ◌∙◌, subst, arith}
use mathlib.Core.Logic.{dite}
use mathlib.Core.Option.{some, none, some-injective, some-ne-none}
use native.Mathlib.Decide.{ℕ_discrete}
use lib.ListN.{get_elem?}
use Rattle.be_hall.specs.Hands.{meant}
use Rattle.be_hall.specs.Machine.{AllFit, Fits, HeldFit, IsHeld}
use Rattle.be_hall.specs.Numbers.{total}
use Rattle.be_hall.proofs.Growth.{there}
use Rattle.be_noting.specs.Noting.{Noted, meanings, all_notes, seen, notes_in, with_notes, noted_at, noted_in}

-- ---- elements

module _ {A B : Type 0} (f : A → B) where
  pub at_map : (xs : List A) (p : ℕ) (x : A) → get_elem? xs p ≡ some x → get_elem? (map f xs) p ≡ some (f x)
  at_map [] p x e = absurd (some-ne-none x (sym e))
  at_map (z ∷ zs) zero x e = ap (λ y. some (f y)) (some-injective z x e)
  at_map (z ∷ zs) (suc p) x e = at_map zs p x e

  pub total_map : (g : B → ℕ) (xs : List A) → total (λ x. g (f x)) xs ≡ total g (map f xs)
  total_map g [] = refl
  total_map g (x ∷ xs) = ap (λ n. g (f x) + n) (total_map g xs)

  pub all_fit : (fits : ℕ → B → Type 0) (n : ℕ) (xs : List A) → AllFit (λ k x. fits k (f x)) n xs → AllFit fits n (map f xs)
  all_fit fits n [] a = tt
  all_fit fits n (x ∷ xs) a = (a.0, all_fit fits n xs a.1)

  pub all_fit_back : (fits : ℕ → B → Type 0) (n : ℕ) (xs : List A) → AllFit fits n (map f xs) → AllFit (λ k x. fits k (f x)) n xs
  all_fit_back fits n [] a = tt
  all_fit_back fits n (x ∷ xs) a = (a.0, all_fit_back fits n xs a.1)

  -- parts in hand, seen by f
  pub held_fit : (fits : ℕ → B → Type 0) (n : ℕ) (held : List (ℕ × A)) → HeldFit (λ k x. fits k (f x)) n held → HeldFit fits n (meant f held)
  held_fit fits n [] a = tt
  held_fit fits n (x ∷ xs) a = (a.0, held_fit fits n xs a.1)

  pub held_fit_back : (fits : ℕ → B → Type 0) (n : ℕ) (held : List (ℕ × A)) → HeldFit fits n (meant f held) → HeldFit (λ k x. fits k (f x)) n held
  held_fit_back fits n [] a = tt
  held_fit_back fits n (x ∷ xs) a = (a.0, held_fit_back fits n xs a.1)

  pub fits_map : (all : List A) (held : List (ℕ × A)) → Fits all held → Fits (map f all) (meant f held)
  fits_map all [] a = tt
  fits_map all (x ∷ xs) a = (at_map all x.0 x.1 a.0, fits_map all xs a.1)

  pub held_map : (held : List (ℕ × A)) (p : ℕ) → IsHeld held p → IsHeld (meant f held) p
  held_map [] p h = h
  held_map (x ∷ xs) p (inl e) = inl e
  held_map (x ∷ xs) p (inr h) = inr (held_map xs p h)

  pub held_map_back : (held : List (ℕ × A)) (p : ℕ) → IsHeld (meant f held) p → IsHeld held p
  held_map_back [] p h = h
  held_map_back (x ∷ xs) p (inl e) = inl e
  held_map_back (x ∷ xs) p (inr h) = inr (held_map_back xs p h)

module _ {A : Type 0} where
  pub past : (xs : List A) (p : ℕ) → length xs ≤ p → get_elem? xs p ≡ none
  past [] p le = refl
  past (x ∷ xs) zero le = absurd (omega arith)
  past (x ∷ xs) (suc p) le = past xs p (omega arith)

-- ---- meanings with notes

module _ {M N : Type 0} where
  pub meanings_with : (ms : List M) (ls : List (List N)) → meanings (with_notes ms ls) ≡ ms
  meanings_with [] ls = refl
  meanings_with (m ∷ ms) [] = ap (λ xs. m ∷ xs) (meanings_with ms [])
  meanings_with (m ∷ ms) (l ∷ ls) = ap (λ xs. m ∷ xs) (meanings_with ms ls)

  pub with_at : (ms : List M) (ls : List (List N)) (p : ℕ) (m : M) (l : List N) → get_elem? ms p ≡ some m → get_elem? ls p ≡ some l → get_elem? (with_notes ms ls) p ≡ some (record { means = m; notes = l })
  with_at [] ls p m l e f = absurd (some-ne-none m (sym e))
  with_at (y ∷ ms) [] p m l e f = absurd (some-ne-none l (sym f))
  with_at (y ∷ ms) (k ∷ ls) zero m l e f = λ i. some (record { means = some-injective y m e i; notes = some-injective k l f i })
  with_at (y ∷ ms) (k ∷ ls) (suc p) m l e f = with_at ms ls p m l e f

  pub notes_with : (ms : List M) (ls : List (List N)) (p : ℕ) (l : List N) → p < length ms → get_elem? ls p ≡ some l → get_elem? (all_notes (with_notes ms ls)) p ≡ some l
  notes_with ms ls p l lt f = let m = there ms p lt in at_map (λ y. y.notes) (with_notes ms ls) p (record { means = m.0; notes = l }) (with_at ms ls p m.0 l m.1 f)

  -- the parts in hand fit where both halves do
  pub with_fits : (ms : List M) (ls : List (List N)) (held : List (ℕ × Noted M N)) → Fits ms (seen held) → Fits ls (notes_in held) → Fits (with_notes ms ls) held
  with_fits ms ls [] a b = tt
  with_fits ms ls (x ∷ xs) a b = (with_at ms ls x.0 x.1.means x.1.notes a.0 b.0, with_fits ms ls xs a.1 b.1)

-- ---- notes by place

module _ {N : Type 0} where
  pub noted_here : (k : ℕ) (more : List N) (ls : List (List N)) (l : List N) → get_elem? ls k ≡ some l → get_elem? (noted_at k more ls) k ≡ some (l ++ more)
  noted_here k more [] l e = absurd (some-ne-none l (sym e))
  noted_here zero more (y ∷ ls) l e = ap (λ z. some (z ++ more)) (some-injective y l e)
  noted_here (suc k) more (y ∷ ls) l e = noted_here k more ls l e

  pub noted_else : (k p : ℕ) (more : List N) (ls : List (List N)) → p ≢ k → get_elem? (noted_at k more ls) p ≡ get_elem? ls p
  noted_else k p more [] n = refl
  noted_else zero zero more (y ∷ ls) n = absurd (n refl)
  noted_else zero (suc p) more (y ∷ ls) n = refl
  noted_else (suc k) zero more (y ∷ ls) n = refl
  noted_else (suc k) (suc p) more (y ∷ ls) n = noted_else k p more ls (λ e. n (ap suc e))

  pub noted_there : (k p : ℕ) (more : List N) (ls : List (List N)) (l : List N) → get_elem? ls p ≡ some l → get_elem? (noted_at k more ls) p ≡ some (if p == k then l ++ more else l)
  noted_there k p more ls l e = dite (ℕ_discrete p k)
      (λ is. subst (λ b. get_elem? (noted_at k more ls) p ≡ some (if b then l ++ more else l)) (sym (eq-eqb p k is)) (subst (λ q. get_elem? (noted_at k more ls) q ≡ some (l ++ more)) (sym is) (noted_here k more ls l (ap (get_elem? ls) (sym is) ∙ e))))
      (λ n. subst (λ b. get_elem? (noted_at k more ls) p ≡ some (if b then l ++ more else l)) (sym (ne_eqb p k n)) (noted_else k p more ls n ∙ e))

  pub noted_fits : (k : ℕ) (more : List N) (ls : List (List N)) (held : List (ℕ × List N)) → Fits ls held → Fits (noted_at k more ls) (noted_in k more held)
  noted_fits k more ls [] a = tt
  noted_fits k more ls (x ∷ xs) a = (noted_there k x.0 more ls x.1 a.0, noted_fits k more ls xs a.1)
