-- A line, piece by piece.
use Rattle.std.proofs.Common.{◌≡◌, ℕ, List, [], ◌∷◌, ◌++◌, refl, ◌∙◌, append_assoc}
use Rattle.be_written.specs.Lines.{line_of}

row : (old w v n : List ℕ)
    → (((((old ++ w) ++ 32 ∷ []) ++ v) ++ 32 ∷ []) ++ n) ++ 10 ∷ []
    ≡ old ++ ((w ++ 32 ∷ (v ++ 32 ∷ n)) ++ 10 ∷ [])
row old w v n = simp append_assoc

pub line_written : (w v n old one two three four five new : List ℕ)
    → one ≡ old ++ w → two ≡ one ++ 32 ∷ [] → three ≡ two ++ v → four ≡ three ++ 32 ∷ []
    → five ≡ four ++ n → new ≡ five ++ 10 ∷ [] → new ≡ old ++ line_of (w ∷ v ∷ n ∷ [])
unfolding line_of
line_written w v n old one two three four five new a b c d e f =
    let pages : new ≡ (((((old ++ w) ++ 32 ∷ []) ++ v) ++ 32 ∷ []) ++ n) ++ 10 ∷ [] =
    rw (f, e, d, c, b, a) refl in
    pages ∙ row old w v n
