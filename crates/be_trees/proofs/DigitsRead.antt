-- Which texts are read as bytes.
use Rattle.std.proofs.Common.{◌≡◌, ◌≢◌, ℕ, ◌/◌, ◌%◌, ◌==◌, ◌&&◌, Bool, true, false, eqb, List, []}
use Rattle.std.proofs.Common.{◌∷◌, ◌++◌, length, Option, Some, None, Ok, refl, sym, ap, ◌∙◌}
use Rattle.std.proofs.Common.{arith, eq-eqb}
use Rattle.std.specs.Prelude.{option_and_then}
use Rattle.std.specs.List.{list_all}
use Rattle.std.specs.Result.{result_ok}
use Rattle.std.proofs.lemmas.Bool.{and_parts}
use Rattle.std.proofs.lemmas.Bool.Decides.{nat_tests}
use Rattle.std.proofs.lemmas.List.{append_cancel_right}
use Rattle.hex.specs.Hex.{decode_of, decode_sized}
use Rattle.be_lex.specs.Hex.{is_hex_digit, hex_bytes}
use Rattle.be_lex.specs.Lines.{lines_of}
use Rattle.be_trees.specs.Reading.{bytes_in, one_line, tree_of_bytes, tree_of_text}
use Rattle.be_trees.proofs.OneLine.{line_of_digits, no_line, only_line}

sized : (digits : List ℕ) → decode_sized digits (length digits / 2) ≡ decode_of digits
sized digits = rw (eq-eqb (length digits / 2) (length digits / 2) refl) refl

pub digits_read : (digits : List ℕ) → list_all is_hex_digit digits ≡ true
    → bytes_in digits ≡ result_ok (decode_of digits)
unfolding hex_bytes
digits_read digits h = rw (h, sized digits) refl

pub others_refused : (text : List ℕ) → list_all is_hex_digit text ≡ false → bytes_in text ≡ None
unfolding hex_bytes
others_refused text h = rw h refl

-- ---- with a line feed behind them

no_digits : (b : Bool) (text : List ℕ) → list_all is_hex_digit text ≡ b
    → one_line (lines_of (text ++ 10 ∷ [])) ≡ None → list_all is_hex_digit text ≡ false
no_digits true text h e = let some = sym (line_of_digits text h) ∙ e in absurd cc
no_digits false text h e = h

by_line : (o : Option (List ℕ)) (text : List ℕ) → one_line (lines_of (text ++ 10 ∷ [])) ≡ o
    → option_and_then bytes_in o ≡ bytes_in text
by_line (Some digits) text e =
    ap bytes_in (sym (append_cancel_right text digits (10 ∷ [])
    (only_line (text ++ 10 ∷ []) digits e)))
by_line None text e =
    sym (others_refused text (no_digits (list_all is_hex_digit text) text refl e))

pub bytes_in_line : (text : List ℕ)
    → option_and_then bytes_in (one_line (lines_of (text ++ 10 ∷ []))) ≡ bytes_in text
bytes_in_line text = by_line (one_line (lines_of (text ++ 10 ∷ []))) text refl

-- ---- digits, two for each byte

not_odd : (n : ℕ) → eqb (n % 2) 0 ≡ false → n % 2 ≡ 1
not_odd n h = grind (arith, nat_tests)

odd_refused : (digits : List ℕ) → length digits % 2 ≡ 1
    → result_ok (decode_of digits) ≡ None
odd_refused digits odd = rw (eq-eqb (length digits % 2) 1 odd) refl

by_tests : (b c : Bool) (text : List ℕ) → list_all is_hex_digit text ≡ b
    → eqb (length text % 2) 0 ≡ c → (b && c) ≡ false → bytes_in text ≡ None
by_tests true true text h even e = absurd cc
by_tests true false text h odd e =
    digits_read text h ∙ odd_refused text (not_odd (length text) odd)
by_tests false c text h even e = others_refused text h

pub no_pairs : (text : List ℕ)
    → (list_all is_hex_digit text && (length text % 2 == 0)) ≡ false → None ≡ bytes_in text
no_pairs text h =
    sym (by_tests (list_all is_hex_digit text) (eqb (length text % 2) 0) text refl refl h)

pub pairs_read : (digits bytes : List ℕ)
    → (list_all is_hex_digit digits && (length digits % 2 == 0)) ≡ true
    → decode_of digits ≡ Ok bytes → Some bytes ≡ bytes_in digits
pairs_read digits bytes h e =
    let parts = and_parts (list_all is_hex_digit digits) (length digits % 2 == 0) h in
    sym (digits_read digits parts.0 ∙ ap result_ok e)

-- ---- a text and its line

pub line_read : (text line : List ℕ) (bytes : List ℕ) → text ≡ line ++ 10 ∷ []
    → Some bytes ≡ bytes_in line → tree_of_bytes bytes ≡ tree_of_text text
line_read text line bytes is read =
    ap (option_and_then tree_of_bytes) (read ∙ sym (bytes_in_line line)
    ∙ ap (λ (l : List ℕ). option_and_then bytes_in (one_line (lines_of l))) (sym is))

pub line_refused : (text line : List ℕ) → text ≡ line ++ 10 ∷ [] → None ≡ bytes_in line
    → None ≡ tree_of_text text
line_refused text line is refused =
    ap (option_and_then tree_of_bytes) (refused ∙ sym (bytes_in_line line)
    ∙ ap (λ (l : List ℕ). option_and_then bytes_in (one_line (lines_of l))) (sym is))

pub no_line_read : (text : List ℕ) → ((line : List ℕ) → text ≢ line ++ 10 ∷ [])
    → None ≡ tree_of_text text
no_line_read text other =
    sym (ap (λ (o : Option (List ℕ)). option_and_then tree_of_bytes (option_and_then bytes_in o))
    (no_line text other))
