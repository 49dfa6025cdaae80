-- The parts of the opening, with what was noted there.
use Rattle.std.proofs.Common.{◌≡◌, ℕ, ◌+◌, List, [], ◌∷◌, map, refl, ap}
use Rattle.be_hall.specs.Machine.{AllFit}
use Rattle.be_hall.specs.Numbers.{total}
use Rattle.be_noting.specs.Noting.{meanings}
use Rattle.be_parts.specs.Parts.{meaning_of}
use Rattle.be_parts.specs.declared.part.Part.{Part}
use Rattle.be_rules.specs.Rules.{SliceFits}
use Rattle.be_rules.specs.Shares.{share}
use Rattle.be_rules.specs.Slices.{Slice}
use Rattle.be_script.specs.Script.{Declared}
use Rattle.be_jotted.specs.Jotting.{noted_machine}
use Rattle.be_noted.specs.Noting.{noted_of}

pub means_of : (xs : List Part) → meanings (map noted_of xs) ≡ map meaning_of xs
means_of [] = refl
means_of (x ∷ xs) = ap (λ (l : List Slice). meaning_of x ∷ l) (means_of xs)

pub budgets_of : (d : Declared) (xs : List Part)
    → total (noted_machine d).budget (map noted_of xs) ≡ total (share d) (map meaning_of xs)
budgets_of d [] = refl
budgets_of d (x ∷ xs) = ap (λ (n : ℕ). share d (meaning_of x) + n) (budgets_of d xs)

pub fits_of : (d : Declared) (n : ℕ) (xs : List Part) → AllFit SliceFits n (map meaning_of xs)
    → AllFit (noted_machine d).fits n (map noted_of xs)
fits_of d n [] fits = tt
fits_of d n (x ∷ xs) fits = (fits.0, fits_of d n xs fits.1)
