-- What holds of each element of a list, by its place.
use Rattle.std.proofs.Common.{◌≡◌, ℕ, zero, suc, ◌+◌, ◌<◌, get_or, Bool, true, false, List, [], ◌∷◌, drop, length, Some, None, refl, sym, ap, subst, ◌∙◌, arith}
use Rattle.std.specs.Prelude.{slice_get, ◌==◌, position}
use Rattle.std.specs.List.{list_all, position_or_len}
use Rattle.std.proofs.lemmas.Bool.Decides.{nat_tests}
use Rattle.std.proofs.lemmas.List.Sums.{position_or_len_is}
use Rattle.std.proofs.lemmas.Option.{same_Some, slice_get-get_or}
use Rattle.be_facts.proofs.Numbers.{eq_false, eq_self, eq_tells, eq_false_tells}
use Rattle.be_machine.specs.Lists.{at}
use Rattle.be_machine.proofs.Lists.{AtPlace, place_here, at_elsewhere}

-- what holds of each element and its place
abbrev pub Each : {X : Type 0} → (ℕ → X → Type 0) → List X → Type 0
Each {X} P xs = (w : ℕ) → AtPlace (P w) xs w

each_by : {X : Type 0} (P Q : ℕ → X → Type 0) (xs : List X) (v w : ℕ) (f : X → X) (b : Bool) → (w == v) ≡ b → ((u : ℕ) (x : X) → (u ≡ v → ⊥) → P u x → Q u x) → ((x : X) → slice_get xs v ≡ Some x → P v x → Q v (f x)) → Each P xs → AtPlace (Q w) (at xs v f) w
each_by P Q xs v w f true e keep change h = subst (λ u. AtPlace (Q u) (at xs v f) u) (sym (eq_tells w v e)) (place_here (P v) (Q v) xs v f change (h v))
each_by P Q xs v w f false e keep change h = λ x read. keep w x (eq_false_tells w v e) (h w x (sym (at_elsewhere xs v w f (λ same. eq_false_tells w v e (sym same))) ∙ read))

-- after a change at a place: what holds of the changed one, and of those at other places
pub each_at : {X : Type 0} (P Q : ℕ → X → Type 0) (xs : List X) (v : ℕ) (f : X → X) → ((u : ℕ) (x : X) → (u ≡ v → ⊥) → P u x → Q u x) → ((x : X) → slice_get xs v ≡ Some x → P v x → Q v (f x)) → Each P xs → Each Q (at xs v f)
each_at P Q xs v f keep change h w = each_by P Q xs v w f (w == v) refl keep change h

-- ... where the same holds of it as before
pub each_kept : {X : Type 0} (P : ℕ → X → Type 0) (xs : List X) (v : ℕ) (f : X → X) → ((x : X) → slice_get xs v ≡ Some x → P v x → P v (f x)) → Each P xs → Each P (at xs v f)
each_kept P xs v f change h = each_at P P xs v f (λ u x other k. k) change h

-- ---- places

position_some : {X : Type 0} (p : X → Bool) (xs : List X) (w : ℕ) → position_or_len p xs ≡ w → w < length xs → position p xs ≡ Some w
position_some p xs w e h = grind (arith, nat_tests)

each_or : {X : Type 0} (P : ℕ → X → Type 0) (xs : List X) (k : ℕ) (d : X) → Each P xs → k < length xs → P k (get_or xs k d)
each_or P xs k d each h = each k (get_or xs k d) (slice_get-get_or xs k d h)

-- the place where a test holds alone
pub position_is : {X : Type 0} (p : X → Bool) (xs : List X) (w : ℕ) → w < length xs → Each (λ j x. p x ≡ (w == j)) xs → position p xs ≡ Some w
position_is p [] w inside each = absurd (omega arith)
position_is p (x ∷ xs) w inside each =
    position_some p (x ∷ xs) w (position_or_len_is p (x ∷ xs) w x (omega arith) (λ k h. each_or (λ j y. p y ≡ (w == j)) (x ∷ xs) k x each (omega arith) ∙ eq_false w k (λ e. omega arith)) (λ h. each_or (λ j y. p y ≡ (w == j)) (x ∷ xs) w x each h ∙ eq_self w)) inside

-- ---- tests of all elements

pub all_pass : {X : Type 0} (p : X → Bool) (xs : List X) → Each (λ j x. p x ≡ true) xs → list_all p xs ≡ true
all_pass p [] each = refl
all_pass p (x ∷ xs) each = rw (each 0 x refl) (all_pass p xs (λ j. each (suc j)))

-- ---- the rest of a list

pub drop_read : {X : Type 0} (xs : List X) (k : ℕ) (x : X) → slice_get xs k ≡ Some x → drop k xs ≡ x ∷ drop (k + 1) xs
drop_read [] k x e = cc
drop_read (y ∷ ys) zero x e = ap (λ z. z ∷ ys) (same_Some y x e)
drop_read (y ∷ ys) (suc k) x e =
    let n : suc (k + 1) ≡ suc k + 1 = omega arith in
    drop_read ys k x e ∙ ap (λ i. x ∷ drop i (y ∷ ys)) n

pub drop_past : {X : Type 0} (xs : List X) (k : ℕ) → slice_get xs k ≡ None → drop k xs ≡ []
drop_past [] zero e = refl
drop_past [] (suc k) e = refl
drop_past (y ∷ ys) zero e = cc
drop_past (y ∷ ys) (suc k) e = drop_past ys k e
