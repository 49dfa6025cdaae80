-- Parts in hand, with what was noted there and without.
use Rattle.std.proofs.Common.{◌≡◌, ℕ, List, [], ◌∷◌, refl, sym, ap, ◌∙◌, subst}
use Rattle.be_hall.specs.Hands.{meant}
use Rattle.be_hall.specs.Machine.{Fits, HeldFit, IsHeld, IsReady, SomeFits}
use Rattle.be_machine.specs.declared.Entry.{Entry}
use Rattle.be_noting.proofs.InHand.{fits_seen, held_fit_noted, held_fit_seen, held_noted, held_seen}
use Rattle.be_noting.proofs.InHand.{meant_twice, ready_noted, ready_seen, some_seen}
use Rattle.be_noting.specs.Noting.{Noted, meanings, notes_in, seen}
use Rattle.be_parts.specs.Parts.{meaning_of, notes_of}
use Rattle.be_parts.specs.declared.part.Part.{Part}
use Rattle.be_rules.specs.Rules.{SliceFits, world_machine}
use Rattle.be_rules.specs.Slices.{Slice}
use Rattle.be_script.specs.Script.{Declared}
use Rattle.be_jotted.specs.Jotting.{noted_machine, told_of}
use Rattle.be_noted.specs.Noting.{noted_of}

pub seen_is : (parts : List (ℕ × Part)) → seen (meant noted_of parts) ≡ meant meaning_of parts
seen_is parts = meant_twice (λ (y : Noted Slice ℕ). y.means) noted_of parts

pub notes_are : (parts : List (ℕ × Part)) → notes_in (meant noted_of parts) ≡ meant notes_of parts
notes_are parts = meant_twice (λ (y : Noted Slice ℕ). y.notes) noted_of parts

-- ---- the same meanings and the same notes

abbrev both : List (ℕ × Slice) → List (ℕ × List ℕ) → List (ℕ × Noted Slice ℕ)
both [] ns = []
both (m ∷ ms) [] = []
both (m ∷ ms) (n ∷ ns) = (m.0, record { means = m.1; notes = n.1 }) ∷ both ms ns

both_are : (parts : List (ℕ × Part))
    → both (meant meaning_of parts) (meant notes_of parts) ≡ meant noted_of parts
both_are [] = refl
both_are (x ∷ xs) =
    ap (λ (l : List (ℕ × Noted Slice ℕ)). (x.0, noted_of x.1) ∷ l) (both_are xs)

pub noted_same : (new old : List (ℕ × Part)) → meant meaning_of new ≡ meant meaning_of old
    → meant notes_of new ≡ meant notes_of old → meant noted_of new ≡ meant noted_of old
noted_same new old means notes =
    sym (both_are new) ∙ (λ i. both (means i) (notes i)) ∙ both_are old

-- ---- what is known of them

module _ (d : Declared) (parts : List (ℕ × Part)) where
  pub fits_alone : (all : List (Noted Slice ℕ)) → Fits all (meant noted_of parts)
      → Fits (meanings all) (meant meaning_of parts)
  fits_alone all fits =
      subst (Fits (meanings all)) (seen_is parts)
      (fits_seen (world_machine d) (told_of d) (meant noted_of parts) all fits)

  pub some_alone : SomeFits (noted_machine d) (meant noted_of parts)
      → SomeFits (world_machine d) (meant meaning_of parts)
  some_alone some =
      subst (SomeFits (world_machine d)) (seen_is parts)
      (some_seen (world_machine d) (told_of d) (meant noted_of parts) some)

  pub fit_alone : (n : ℕ) → HeldFit (noted_machine d).fits n (meant noted_of parts)
      → HeldFit SliceFits n (meant meaning_of parts)
  fit_alone n fit =
      subst (HeldFit SliceFits n) (seen_is parts)
      (held_fit_seen (world_machine d) (told_of d) (meant noted_of parts) n fit)

  pub fit_noted : (n : ℕ) → HeldFit SliceFits n (meant meaning_of parts)
      → HeldFit (noted_machine d).fits n (meant noted_of parts)
  fit_noted n fit =
      held_fit_noted (world_machine d) (told_of d) (meant noted_of parts) n
      (subst (HeldFit SliceFits n) (sym (seen_is parts)) fit)

  pub held_alone : (p : ℕ) → IsHeld (meant noted_of parts) p → IsHeld (meant meaning_of parts) p
  held_alone p held =
      subst (λ h. IsHeld h p) (seen_is parts)
      (held_seen (world_machine d) (told_of d) (meant noted_of parts) p held)

  pub held_with : (p : ℕ) → IsHeld (meant meaning_of parts) p → IsHeld (meant noted_of parts) p
  held_with p held =
      held_noted (world_machine d) (told_of d) (meant noted_of parts) p
      (subst (λ h. IsHeld h p) (sym (seen_is parts)) held)

  pub ready_with : (e : Entry) → IsReady (world_machine d) (meant meaning_of parts) e
      → IsReady (noted_machine d) (meant noted_of parts) e
  ready_with e ready =
      ready_noted (world_machine d) (told_of d) (meant noted_of parts) e
      (subst (λ h. IsReady (world_machine d) h e) (sym (seen_is parts)) ready)

  pub ready_alone : SomeFits (noted_machine d) (meant noted_of parts) → (e : Entry)
      → IsReady (noted_machine d) (meant noted_of parts) e
      → IsReady (world_machine d) (meant meaning_of parts) e
  ready_alone some e ready =
      subst (λ h. IsReady (world_machine d) h e) (seen_is parts)
      (ready_seen (world_machine d) (told_of d) (meant noted_of parts) some e ready)

  -- a list with these parts, read without the notes
  pub fits_back : (all : List Slice) → Fits all (seen (meant noted_of parts))
      → Fits all (meant meaning_of parts)
  fits_back all fits = subst (Fits all) (seen_is parts) fits
