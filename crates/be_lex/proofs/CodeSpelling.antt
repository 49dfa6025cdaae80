-- The letters of a code.
use Rattle.std.proofs.Common.{◌≡◌, ℕ, zero, suc, ◌<◌, ◌==◌, Bool, true, false, cond, List, [], ◌∷◌, length, get_or, Some, None, refl, sym, ap, arith}
use Rattle.std.specs.Prelude.{unwrap_or}
use Rattle.std.specs.List.{list_all}
use Rattle.std.specs.Int.{w32, from_be_bytes}
use Rattle.std.proofs.lemmas.Bool.{and_parts, eqb-true}
use Rattle.std.proofs.lemmas.Bool.Decides.{nat_tests}
use Rattle.std.proofs.lemmas.Nat.{be_bytes_4}
use Rattle.be_lex.specs.Codes.{is_code_byte, is_code, code_of, code_text}

small : (b : ℕ) → is_code_byte b ≡ true → b < 256
small b h = grind (arith, nat_tests)

all_small : (word : List ℕ) → list_all is_code_byte word ≡ true → (i : ℕ) → get_or word i 0 < 256
all_small [] h i = omega arith
all_small (b ∷ word) h zero = small b (and_parts (is_code_byte b) (list_all is_code_byte word) h).0
all_small (b ∷ word) h (suc i) = all_small word (and_parts (is_code_byte b) (list_all is_code_byte word) h).1 i

coded_text : (coded : Bool) (word : List ℕ) (code : ℕ) → is_code word ≡ coded → cond coded (Some (from_be_bytes w32 word)) None ≡ Some code → code_text code ≡ word
unfolding is_code code_text
coded_text true word code e h =
    let parts = and_parts (length word == 4) (list_all is_code_byte word) e in
    let same : code ≡ from_be_bytes w32 word = ap (λ o. unwrap_or o 0) (sym h) in
    be_bytes_4 word code (eqb-true (length word) 4 parts.0) (all_small word parts.1) same
coded_text false word code e h = absurd cc

-- a code is written as the word that it was read from
pub code_text-code_of : (word : List ℕ) (code : ℕ) → code_of word ≡ Some code → code_text code ≡ word
unfolding code_of
code_text-code_of word code h = coded_text (is_code word) word code refl h
