-- Which fault of several counts.
use Rattle.std.proofs.Common.{◌≡◌, Bool, true, false, nat_lt, cond, refl, arith, Option, Some, None, Result, Ok, Err, ap, ◌∙◌, sym}
use Rattle.std.proofs.lemmas.Bool.{ltb-true, ltb-false}
use Rattle.std.specs.Result.{result_err}
use Rattle.be_command.specs.declared.fault.Fault.{Fault}
use Rattle.be_command.specs.Faults.{rank_of, first_of, first_fault, both, said_as}

three : (f g h : Fault) (t u v : Bool) → nat_lt (rank_of g.reason) (rank_of f.reason) ≡ t → nat_lt (rank_of h.reason) (rank_of g.reason) ≡ u → nat_lt (rank_of h.reason) (rank_of f.reason) ≡ v →
    first_of (cond t g f) h ≡ first_of f (cond u h g)
three f g h true true true t u v = ap (λ b. cond b h g) u ∙ sym (ap (λ b. cond b h f) v)
three f g h true true false t u v = absurd (omega (arith, ltb-true _ _ t, ltb-true _ _ u, ltb-false _ _ v))
three f g h true false v' t u v = ap (λ b. cond b h g) u ∙ sym (ap (λ b. cond b g f) t)
three f g h false true v' t u v = refl
three f g h false false true t u v = absurd (omega (arith, ltb-false _ _ t, ltb-false _ _ u, ltb-true _ _ v))
three f g h false false false t u v = ap (λ b. cond b h f) v ∙ sym (ap (λ b. cond b g f) t)

-- in whatever order parts are joined, the same fault counts
pub first_fault-assoc : (f g h : Option Fault) → first_fault (first_fault f g) h ≡ first_fault f (first_fault g h)
first_fault-assoc None g h = refl
first_fault-assoc (Some f) None h = refl
first_fault-assoc (Some f) (Some g) None = refl
first_fault-assoc (Some f) (Some g) (Some h) = ap Some (three f g h _ _ _ refl refl refl)

-- the fault of two parts is the one of theirs that counts
pub err-both : {A B : Type 0} (a : Result A Fault) (b : Result B Fault) → result_err (both a b) ≡ first_fault (result_err a) (result_err b)
err-both (Ok a) (Ok b) = refl
err-both (Ok a) (Err g) = refl
err-both (Err f) (Ok b) = refl
err-both (Err f) (Err g) = refl

pub err-said_as : {A B : Type 0} (f : A → B) (a : Result A Fault) → result_err (said_as f a) ≡ result_err a
err-said_as f (Ok a) = refl
err-said_as f (Err g) = refl

-- what two parts say together each of them says
pub ok-both : {A B : Type 0} (a : Result A Fault) (b : Result B Fault) (x : A × B) → both a b ≡ Ok x → (a ≡ Ok x.0) × (b ≡ Ok x.1)
ok-both {A} {B} (Ok a) (Ok b) x e = let h : (a, b) ≡ x = (cc) in (ap (λ (y : A × B). Ok y.0) h, ap (λ (y : A × B). Ok y.1) h)
ok-both (Ok a) (Err g) x e = (cc)
ok-both (Err f) (Ok b) x e = (cc)
ok-both (Err f) (Err g) x e = (cc)

pub ok-said_as : {A B : Type 0} (f : A → B) (a : Result A Fault) (y : B) → said_as f a ≡ Ok y → (x : A) × ((a ≡ Ok x) × (f x ≡ y))
ok-said_as f (Ok a) y e = (a, (refl, (cc)))
ok-said_as f (Err g) y e = (cc)
