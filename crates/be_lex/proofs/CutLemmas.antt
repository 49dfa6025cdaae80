-- What stands before and behind the first of a byte.
use Rattle.std.proofs.Common.{◌≡◌, ℕ, suc, ◌+◌, ◌-◌, ◌<◌, ◌≤◌, Bool, true, false, not, cond, eqb, List, [], ◌∷◌, length, take, drop, refl, sym, ap, ◌∙◌, arith}
use Rattle.std.specs.Prelude.{Some, None}
use Rattle.std.specs.List.{list_any, position_or_len}
use Rattle.std.proofs.lemmas.List.{take_all, drop-drop}
use Rattle.be_lex.specs.Words.{cut_at}

abbrev is_byte : ℕ → ℕ → Bool
is_byte byte b = eqb b byte

abbrev first_place : ℕ → List ℕ → ℕ
first_place byte word = position_or_len (is_byte byte) word

-- one more byte in front
step_none : (v : Bool) (byte b : ℕ) (word : List ℕ) → is_byte byte b ≡ v → (length (drop (first_place byte word) word) < 1 → list_any (is_byte byte) word ≡ false)
    → length (drop (cond (not v) (1 + first_place byte word) 0) (b ∷ word)) < 1 → list_any (is_byte byte) (b ∷ word) ≡ false
step_none true byte b word h same none = absurd (omega arith)
step_none false byte b word h same none =
    let e : 1 + first_place byte word ≡ suc (first_place byte word) = omega arith in
    rw h (same (rw e at none))

step_some : (v : Bool) (byte b : ℕ) (word : List ℕ) → is_byte byte b ≡ v → (1 ≤ length (drop (first_place byte word) word) → list_any (is_byte byte) word ≡ true)
    → 1 ≤ length (drop (cond (not v) (1 + first_place byte word) 0) (b ∷ word)) → list_any (is_byte byte) (b ∷ word) ≡ true
step_some true byte b word h same some = rw h refl
step_some false byte b word h same some =
    let e : 1 + first_place byte word ≡ suc (first_place byte word) = omega arith in
    rw h (same (rw e at some))

-- a byte stands in a word where its first place leaves something of it
any_none : (byte : ℕ) (word : List ℕ) → length (drop (first_place byte word) word) < 1 → list_any (is_byte byte) word ≡ false
any_none byte [] none = refl
any_none byte (b ∷ word) none = step_none (is_byte byte b) byte b word refl (any_none byte word) none

any_some : (byte : ℕ) (word : List ℕ) → 1 ≤ length (drop (first_place byte word) word) → list_any (is_byte byte) word ≡ true
any_some byte [] some = absurd (omega arith)
any_some byte (b ∷ word) some = step_some (is_byte byte b) byte b word refl (any_some byte word) some

pub cut_at-none : (byte : ℕ) (word : List ℕ) (n : ℕ) (behind : List ℕ) → n ≡ first_place byte word → behind ≡ drop n word → length behind < 1 → None ≡ cut_at byte word
cut_at-none byte word n behind e behind-is none = rw (any_none byte word (rw (behind-is, e) at none)) refl

pub cut_at-some : (byte : ℕ) (word : List ℕ) (n : ℕ) (before behind : List ℕ) → n ≡ first_place byte word → before ≡ take n word → behind ≡ drop n word → 1 ≤ length behind
    → Some (before, take (length behind - 1) (drop 1 behind)) ≡ cut_at byte word
cut_at-some byte word n before [] e before-is behind-is some = absurd (omega arith)
cut_at-some byte word n before (b ∷ behind) e before-is behind-is some =
    let rest : take (length (b ∷ behind) - 1) behind ≡ drop (n + 1) word = take_all _ _ (omega arith) ∙ (ap (drop 1) behind-is ∙ drop-drop 1 n word) in
    let there : 1 ≤ length (drop (first_place byte word) word) = rw (sym e, sym behind-is) some in
    rw (any_some byte word there, rest, before-is, e) refl
