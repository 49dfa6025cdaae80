-- Words that are numbers within a range.
use Rattle.std.proofs.Common.{◌≡◌, ℕ, ℤ, Bool, true, false, cond, List, Option, Some, None, Result, Ok, Err, refl, subst}
use Rattle.be_geom.specs.Points.{between}
use Rattle.be_lex.specs.Numbers.{is_number, number_of}
use Rattle.be_command.specs.declared.fault.Reason.{Reason}
use Rattle.be_command.specs.declared.fault.Reason.TheVariants.{Shape, Range}
use Rattle.be_command.specs.Kinds.{numbered}
use Rattle.be_command.specs.Places.{judged}

abbrev tested : Bool → Bool → ℤ → Result ℤ Reason
tested number inside m = cond number (cond inside (Ok m) (Err Range)) (Err Shape)

within : (number inside : Bool) (low high m n : ℤ) → between low m high ≡ inside → tested number inside m ≡ Ok n → between low n high ≡ true
within true true low high m n same e = let h : m ≡ n = (cc) in subst (λ (z : ℤ). between low z high ≡ true) h same
within true false low high m n same e = (cc)
within false inside low high m n same e = (cc)

-- a number that was read lies in its range
pub numbered_within : (low high : ℤ) (word : Option (List ℕ)) (n : ℤ) → judged (numbered low high) word ≡ Ok n → between low n high ≡ true
numbered_within low high None n e = (cc)
numbered_within low high (Some word) n e = within (is_number word) (between low (number_of word) high) low high (number_of word) n refl e
