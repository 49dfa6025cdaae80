-- Cells that are told strip by strip.
use Rattle.std.proofs.Common.{◌≡◌, ℕ, zero, suc, ◌+◌, List, [], ◌∷◌, ◌++◌, length, take}
use Rattle.std.proofs.Common.{Some, None, refl, sym, ap, ◌∙◌, arith}
use Rattle.std.specs.Prelude.{slice_get}
use Rattle.std.proofs.lemmas.Option.{same_Some}
use Rattle.be_span.specs.declared.Cell.{Cell}
use Rattle.be_written.specs.Screens.{AreCellsOf}

nothing : (n : ℕ) → let none : List Cell = [] in take n none ≡ none
nothing zero = refl
nothing (suc n) = refl

-- those up to the end of a strip are those before it, and the strip's
pub take_strip : (cells : List Cell) (from : ℕ) (strip : List Cell) → AreCellsOf cells from strip
    → take (from + length strip) cells ≡ take from cells ++ strip
take_strip [] zero [] told = refl
take_strip [] zero (s ∷ ss) told = let no : None ≡ Some s = told 0 (omega arith) in absurd (cc)
take_strip (c ∷ cs) zero [] told = refl
take_strip (c ∷ cs) zero (s ∷ ss) told =
    let here : c ≡ s = same_Some c s (told 0 (omega arith)) in
    let count : 0 + length (s ∷ ss) ≡ suc (0 + length ss) = omega arith in
    let rest : AreCellsOf cs 0 ss =
    λ k lt.
    let next : 0 + suc k ≡ suc (0 + k) = omega arith in
    ap (slice_get (c ∷ cs)) (sym next) ∙ told (suc k) (omega arith) in
    ap (λ (n : ℕ). take n (c ∷ cs)) count ∙ ap (λ (x : Cell). x ∷ take (0 + length ss) cs) here
    ∙ ap (λ (l : List Cell). s ∷ l) (take_strip cs 0 ss rest)
take_strip [] (suc n) [] told =
    nothing (suc n + 0) ∙ sym (ap (λ (l : List Cell). l ++ []) (nothing (suc n)))
take_strip [] (suc n) (s ∷ ss) told =
    let no : None ≡ Some s = told 0 (omega arith) in absurd (cc)
take_strip (c ∷ cs) (suc n) strip told =
    let count : suc n + length strip ≡ suc (n + length strip) = omega arith in
    let rest : AreCellsOf cs n strip =
    λ k lt.
    let next : suc n + k ≡ suc (n + k) = omega arith in
    ap (slice_get (c ∷ cs)) (sym next) ∙ told k lt in
    ap (λ (m : ℕ). take m (c ∷ cs)) count ∙ ap (λ (l : List Cell). c ∷ l)
    (take_strip cs n strip rest)
