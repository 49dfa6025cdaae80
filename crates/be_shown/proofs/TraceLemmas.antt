-- What is told of each runner is what was noted in its part.
use Rattle.std.proofs.Common.{◌≡◌, ℕ, zero, suc, ◌+◌, List, [], ◌∷◌, map, length}
use Rattle.std.proofs.Common.{refl, ap, ◌∙◌}
use Rattle.std.specs.Option.{option_map_or}
use Rattle.std.specs.Prelude.{slice_get, slice_index_or}
use Rattle.be_machine.specs.Activities.{Runner, app, looper}
use Rattle.be_parts.specs.Parts.{notes_of}
use Rattle.be_parts.specs.declared.part.Part.{Part}
use Rattle.be_script.specs.Script.{Declared}
use Rattle.be_shown.specs.Traces.{ToldTraces, noted_in, told_there}

at_place : (parts : List Part) (p : ℕ)
    → slice_index_or (map notes_of parts) p [] ≡ option_map_or notes_of (slice_get parts p) []
at_place [] p = refl
at_place (x ∷ xs) zero = refl
at_place (x ∷ xs) (suc p) = at_place xs p

-- where the texts lie as their parts do
module _ (d : Declared) (it : ToldTraces) (parts : List Part) (apps : it.apps ≡ length d.apps)
    (notes : it.notes ≡ map notes_of parts) where
  at_its_place : (p : ℕ)
      → slice_index_or it.notes p [] ≡ option_map_or notes_of (slice_get parts p) []
  at_its_place p =
      ap (λ (texts : List (List ℕ)). slice_index_or texts p []) notes ∙ at_place parts p

  pub told_are : (who : Runner) → told_there it who ≡ noted_in d parts who
  told_are (app m) = at_its_place (2 + m)
  told_are (looper w) =
      ap (λ (n : ℕ). slice_index_or it.notes (2 + n + w) []) apps
      ∙ at_its_place (2 + length d.apps + w)
