-- Cases of a test, and of what may be there.
use Rattle.std.proofs.Common.{◌≡◌, Bool, true, false, Option, Some, None, refl}
use Rattle.std.specs.Prelude.{if◌then◌else◌}
use Rattle.std.specs.Option.{option_map_or}

pub by_test : {X : Type 0} (P : X → Type 0) (b : Bool) (x y : X) → P x → P y → P (if b then x else y)
by_test P true x y h k = h
by_test P false x y h k = k

-- ... where it matters which
pub by_outcome : {X : Type 0} (P : X → Type 0) (b : Bool) (x y : X) → (b ≡ true → P x) → (b ≡ false → P y) → P (if b then x else y)
by_outcome P true x y h k = h refl
by_outcome P false x y h k = k refl

pub by_option : {X Y : Type 0} (P : Y → Type 0) (f : X → Y) (y : Y) (o : Option X) → P y → ((x : X) → P (f x)) → P (option_map_or f o y)
by_option P f y (Some x) h k = k x
by_option P f y None h k = h

-- neither of two is a third
pub neither : {X : Type 0} (b : Bool) (x y z : X) (P : Type 0) → (x ≡ z → ⊥) → (y ≡ z → ⊥) → (if b then x else y) ≡ z → P
neither true x y z P h k e = absurd (h e)
neither false x y z P h k e = absurd (k e)
