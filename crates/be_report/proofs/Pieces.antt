-- Text that is cut into pieces.
use Rattle.std.proofs.Common.{◌≡◌, ℕ, ◌+◌, ◌-◌, ◌≤◌, List, [], ◌∷◌, ◌++◌, take, drop, codes, ap, refl, sym, ◌∙◌, arith, append_assoc}
use Rattle.std.proofs.Math.Seq.{take-add}
use Rattle.std.proofs.lemmas.List.{take-append-drop}
use Rattle.be_written.specs.Lines.{line_of}

-- the front of a text, up to a further place
pub take_on : (i j : ℕ) (l : List ℕ) → i ≤ j → take j l ≡ take i l ++ take (j - i) (drop i l)
take_on i j l le = let on : j ≡ i + (j - i) = omega arith in ap (λ n. take n l) on ∙ take-add i (j - i) l

-- a text around a part of it
pub around : (i j : ℕ) (l : List ℕ) → i ≤ j → l ≡ take i l ++ (take (j - i) (drop i l) ++ drop j l)
around i j l le = sym (take-append-drop j l) ∙ ap (λ front. front ++ drop j l) (take_on i j l le) ∙ append_assoc (take i l) (take (j - i) (drop i l)) (drop j l)

-- the parts of a report, one after the other
pub report_parts : (history traces screen : List ℕ) (first one two three four new : List ℕ) → first ≡ [] → one ≡ first ++ history → two ≡ one ++ traces → three ≡ two ++ screen → four ≡ three ++ codes "end"
    → new ≡ four ++ 10 ∷ [] → new ≡ history ++ traces ++ screen ++ line_of (codes "end" ∷ [])
unfolding line_of
report_parts history traces screen first one two three four new a b c d e f =
    let pages : new ≡ (((([] ++ history) ++ traces) ++ screen) ++ codes "end") ++ 10 ∷ [] = rw (f, e, d, c, b, a) refl in
    pages ∙ simp append_assoc
