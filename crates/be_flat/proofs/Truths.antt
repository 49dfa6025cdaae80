-- Truth values, and what tests of them tell.
use Rattle.std.proofs.Common.{◌≡◌, ℕ, Bool, true, false, cond, Result, Ok, Err, refl}
use Rattle.be_flat.specs.declared.fault.FlatError.{FlatError}
use Rattle.be_flat.specs.declared.fault.FlatError.TheVariants.{BadByte}

abbrev done : {A : Type 0} → A → Result A FlatError
done x = Ok x

pub ok_is : {A : Type 0} (x y : A) → done x ≡ done y → x ≡ y
ok_is x y e = cc

-- a test that did not fail, where it passes and where it doesn't
pub guard_ok : {A : Type 0} (b : Bool) (d : FlatError) (x y : A) → cond b (Ok x) (Err d) ≡ Ok y → (b ≡ true) × (x ≡ y)
guard_ok true d x y e = (refl, cc)
guard_ok false d x y e = absurd cc

pub is_free : {A : Type 0} (b : Bool) (d : FlatError) (x y : A) → cond b (Err d) (Ok x) ≡ Ok y → (b ≡ false) × (x ≡ y)
is_free true d x y h = absurd cc
is_free false d x y h = (refl, ok_is x y h)

-- a test that failed
pub guard_bad : {A : Type 0} (b : Bool) (d c : FlatError) (x : A) → cond b (Ok x) (Err d) ≡ Err c → (b ≡ false) × (d ≡ c)
guard_bad true d c x e = absurd (cc e)
guard_bad false d c x e = (refl, cc)

pub same_place : (at place : ℕ) → BadByte at ≡ BadByte place → at ≡ place
same_place at place e = cc
