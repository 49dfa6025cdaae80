-- A name is added unless a fault is due or there is no memory.
use Rattle.std.proofs.Common.{◌≡◌, ℕ, ◌||◌, Bool, true, false, not, cond, List, Option, Some, None, Result, Ok, Err, refl}
use Rattle.std.specs.List.{list_any}
use Rattle.std.specs.Prelude.{is_ok, nat_le, length}
use Rattle.std.specs.Result.{IfErr, OnOk}
use Rattle.std.specs.Str.{bytes_eq}
use Rattle.be_command.specs.declared.fault.NameFault.{NameFault}
use Rattle.be_command.specs.declared.fault.NameFault.TheVariants as refused
use Rattle.be_command.specs.Names.{IsNumbered, name_fault}
use Rattle.be_lex.specs.Names.{is_name, is_reserved_name}

named_part : (named reserved there full : Bool) →
    cond (not named) (Some refused.BadName) (cond (reserved || there) (Some refused.NameTaken) (cond full (Some refused.TooMany) None)) ≡ None → named ≡ true
named_part true reserved there full e = refl
named_part false reserved there full e = (cc)

-- without a fault it is a name
pub is_name_then : (most : ℕ) (names : List (List ℕ)) (name : List ℕ) → name_fault most names name ≡ None → is_name name ≡ true
is_name_then most names name e =
    named_part (is_name name) (is_reserved_name name) (list_any (λ other. bytes_eq other name) names) (nat_le most (length names)) e

-- and only memory can be missing
pub memory_alone : (number : Result ℕ NameFault) (due : Option NameFault) (names : List (List ℕ)) → IsNumbered number due names → due ≡ None →
    IfErr number (λ fault. fault ≡ refused.NoMemory)
memory_alone (Ok number) due names told none = tt
memory_alone (Err refused.BadName) due names told none = (cc)
memory_alone (Err refused.NameTaken) due names told none = (cc)
memory_alone (Err refused.TooMany) due names told none = (cc)
memory_alone (Err refused.NoMemory) due names told none = refl

pub ok_as : {A B E F : Type 0} (r : Result A E) (m : Result B F) (P : Type 0) → is_ok r ≡ is_ok m → OnOk m P → OnOk r P
ok_as (Ok x) (Ok y) P same p = p
ok_as (Ok x) (Err f) P same p = (cc)
ok_as (Err e) m P same p = tt
