-- What an answer that was found says of where it was looked for.
use Rattle.std.proofs.Common.{◌≡◌, ℕ, ◌<◌, get_or, Bool, true, false, length, Option, Some, None, refl, sym, ap, ◌∙◌}
use Rattle.std.specs.Prelude.{slice_get, option_map, option_and_then, if◌then◌else◌}
use Rattle.std.proofs.lemmas.List.Quantifiers.{position-Some}
use Rattle.std.proofs.lemmas.Option.{same_Some, slice_get-get_or}
use Rattle.be_facts.proofs.Numbers.{eq_tells}
use Rattle.be_machine.specs.Lists.{with_both}
use Rattle.be_machine.specs.Program.{is_locked_by, locked_by}
use Rattle.be_machine.specs.State.{State, Looper, free, locked, handling}

-- ---- options

pub record IsMapped {X Y : Type 0} (f : X → Y) (o : Option X) (y : Y) : Type 0 where
  pub from : X
  pub read : o ≡ Some from
  pub is : f from ≡ y

pub mapped : {X Y : Type 0} (f : X → Y) (o : Option X) (y : Y) → option_map f o ≡ Some y → IsMapped f o y
mapped f (Some x) y e = record { from = x; read = refl; is = same_Some (f x) y e }
mapped f None y e = cc

pub record IsChained {X Y : Type 0} (f : X → Option Y) (o : Option X) (y : Y) : Type 0 where
  pub from : X
  pub read : o ≡ Some from
  pub is : f from ≡ Some y

pub chained : {X Y : Type 0} (f : X → Option Y) (o : Option X) (y : Y) → option_and_then f o ≡ Some y → IsChained f o y
chained f (Some x) y e = record { from = x; read = refl; is = e }
chained f None y e = cc

pub record IsJoined {X Y Z : Type 0} (f : X → Y → Option Z) (a : Option X) (b : Option Y) (z : Z) : Type 0 where
  pub first : X
  pub second : Y
  pub read_first : a ≡ Some first
  pub read_second : b ≡ Some second
  pub is : f first second ≡ Some z

pub joined : {X Y Z : Type 0} (f : X → Y → Option Z) (a : Option X) (b : Option Y) (z : Z) → with_both f a b ≡ Some z → IsJoined f a b z
joined f (Some x) (Some y) z e = record { first = x; second = y; read_first = refl; read_second = refl; is = e }
joined f (Some x) None z e = cc
joined f None b z e = cc

pub record IsTested {X : Type 0} (b : Bool) (x y : X) : Type 0 where
  pub passes : b ≡ true
  pub is : x ≡ y

pub tested : {X : Type 0} (b : Bool) (x y : X) → (if b then Some x else None) ≡ Some y → IsTested b x y
tested true x y e = record { passes = refl; is = same_Some x y e }
tested false x y e = cc

pub untested : {X : Type 0} (b : Bool) (x y : X) → (if b then None else Some x) ≡ Some y → (b ≡ false) × (x ≡ y)
untested true x y e = cc
untested false x y e = (refl, same_Some x y e)

-- ---- locks

locks_it : (m : ℕ) (l : Looper) → is_locked_by m l ≡ true → l ≡ locked m
locks_it m (locked n) e = ap locked (sym (eq_tells m n e))
locks_it m free e = cc
locks_it m (handling hand stage) e = cc

-- the looper that an application has locked
pub locked_there : (s : State) (m v : ℕ) → locked_by s m ≡ Some v → slice_get s.loopers v ≡ Some (locked m)
locked_there s m v e =
    let found : (v < length s.loopers) × (is_locked_by m (get_or s.loopers v free) ≡ true) × ((k : ℕ) → k < v → is_locked_by m (get_or s.loopers k free) ≡ false) = position-Some (is_locked_by m) s.loopers v free e in
    slice_get-get_or s.loopers v free found.0 ∙ ap Some (locks_it m (get_or s.loopers v free) found.1)
