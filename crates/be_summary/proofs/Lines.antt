-- A line of a word and a number, as it is put together.
use Rattle.std.proofs.Common.{◌≡◌, ℕ, List, [], ◌∷◌, ◌++◌, sym, ap, ◌∙◌}
use Rattle.std.proofs.lemmas.List.{append_assoc}
use Rattle.be_written.specs.Lines.{line_of}

two_words : (word number : List ℕ)
    → line_of (word ∷ number ∷ []) ≡ ((word ++ 32 ∷ []) ++ number) ++ 10 ∷ []
unfolding line_of
two_words word number = ap (λ l. l ++ 10 ∷ []) (sym (append_assoc word (32 ∷ []) number))

pub line_written : (old one two three new word number : List ℕ) → one ≡ old ++ word
    → two ≡ one ++ 32 ∷ [] → three ≡ two ++ number → new ≡ three ++ 10 ∷ []
    → new ≡ old ++ line_of (word ∷ number ∷ [])
line_written old one two three new word number first space second end =
    let front : two ≡ old ++ (word ++ 32 ∷ []) =
    space ∙ ap (λ l. l ++ 32 ∷ []) first ∙ append_assoc old word (32 ∷ []) in
    let both : three ≡ old ++ ((word ++ 32 ∷ []) ++ number) =
    second ∙ ap (λ l. l ++ number) front ∙ append_assoc old (word ++ 32 ∷ []) number in
    end ∙ ap (λ l. l ++ 10 ∷ []) both
    ∙ append_assoc old ((word ++ 32 ∷ []) ++ number) (10 ∷ [])
    ∙ ap (λ l. old ++ l) (sym (two_words word number))
