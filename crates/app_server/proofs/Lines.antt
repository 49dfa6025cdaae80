-- Lines of some words, as they are put together.
use Rattle.std.proofs.Common.{◌≡◌, ℕ, List, [], ◌∷◌, ◌++◌, codes}
use Rattle.std.proofs.lemmas.List.{append_assoc}
use Rattle.be_written.specs.Lines.{line_of}

off_words : (a b : List ℕ)
    → line_of (a ∷ b ∷ codes "off" ∷ []) ≡ ((a ++ 32 ∷ []) ++ b) ++ (codes " off" ++ 10 ∷ [])
unfolding line_of
off_words a b = simp append_assoc

pub off_written : (one two three new a b : List ℕ) → one ≡ a → two ≡ one ++ 32 ∷ []
    → three ≡ two ++ b → new ≡ three ++ (codes " off" ++ 10 ∷ [])
    → new ≡ line_of (a ∷ b ∷ codes "off" ∷ [])
off_written one two three new a b e f g h = let line = off_words a b in cc

four_words : (a b c d : List ℕ)
    → line_of (a ∷ b ∷ c ∷ d ∷ [])
    ≡ ((((((a ++ 32 ∷ []) ++ b) ++ 32 ∷ []) ++ c) ++ 32 ∷ []) ++ d) ++ 10 ∷ []
unfolding line_of
four_words a b c d = simp append_assoc

pub four_written : (one two three four five six seven new a b c d : List ℕ) → one ≡ a
    → two ≡ one ++ 32 ∷ [] → three ≡ two ++ b → four ≡ three ++ 32 ∷ [] → five ≡ four ++ c
    → six ≡ five ++ 32 ∷ [] → seven ≡ six ++ d → new ≡ seven ++ 10 ∷ []
    → new ≡ line_of (a ∷ b ∷ c ∷ d ∷ [])
four_written one two three four five six seven new a b c d e f g h k l m n =
    let line = four_words a b c d in cc
