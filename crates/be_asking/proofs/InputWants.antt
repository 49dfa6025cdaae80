-- What the input wants, and who closes.
use Rattle.std.proofs.Common.{◌≡◌, ℕ, Bool, List, Option, Some, None, refl, ap, ◌∙◌}
use Rattle.std.specs.Prelude.{slice_get, option_map}
use Rattle.std.proofs.lemmas.Option.{same_Some}
use Rattle.be_asking.proofs.InHand.{input_read, is_held}
use Rattle.be_asking.specs.declared.want.Want.TheVariants as want
use Rattle.be_asking.specs.declared.want.Wanted.TheVariants.{Wants, Nothing}
use Rattle.be_asking.specs.Wants.{IsWanted}
use Rattle.be_hall.specs.Hands.{meant, part_at}
use Rattle.be_hall.specs.Machine.{Fits}
use Rattle.be_machine.specs.Activities.{input, closing}
use Rattle.be_machine.specs.State.{State}
use Rattle.be_machine.specs.Touched as part
use Rattle.be_machine.specs.Wants.{uses, want_of}
use Rattle.be_parts.specs.declared.part.Part.{Part}
use Rattle.be_parts.specs.Parts.{meaning_of}
use Rattle.be_rules.proofs.Lawfully.{state, back}
use Rattle.be_rules.specs.Places.{place_of}
use Rattle.be_rules.specs.Rules.{IsSound}
use Rattle.be_rules.specs.Slices.{Slice, input_in, state_of}
use Rattle.be_script.specs.declared.InputLine.{InputLine}
use Rattle.be_script.specs.Script.{Declared}
use denote.Bor.{Bor}

module _ (d : Declared) (parts : List (ℕ × Part)) (y : Part) (at : part_at parts (place_of d part.input) ≡ Some y) where
  module _ (n : ℕ) (used : option_map (λ (known : ℕ × Bool). known.0) (input_in (meaning_of y)) ≡ Some n) where
    wants_next : (all : List Slice) → IsSound d all → Fits all (meant meaning_of parts) → (o : Option InputLine) → slice_get d.input n ≡ o → want_of d (state_of d all) input ≡ option_map uses o
    unfolding want_of
    wants_next all sound fits o next =
        let s : State = state d all sound in
        let is : s.events ≡ n = same_Some s.events n (ap (option_map (λ (known : ℕ × Bool). known.0)) (input_read d parts all sound fits y at) ∙ used) in
        ap (λ t. want_of d t input) (back d all sound) ∙ ap (λ k. option_map uses (slice_get d.input k)) is ∙ ap (option_map uses) next

    pub input_uses : (number : ℕ) (line : Bor InputLine) → slice_get d.input n ≡ Some line.now → IsWanted d (meant meaning_of parts) number input (Wants (want.Uses line))
    input_uses number line next all sound fits = (wants_next all sound fits (Some line.now) next, is_held parts (place_of d part.input) y at)

    pub input_ends : (number : ℕ) → slice_get d.input n ≡ None → IsWanted d (meant meaning_of parts) number input Nothing
    input_ends number past all sound fits = (wants_next all sound fits None past, is_held parts (place_of d part.input) y at)

  pub closing_stops : (number : ℕ) → IsWanted d (meant meaning_of parts) number closing (Wants want.Stops)
  unfolding want_of
  closing_stops number all sound fits = (refl, is_held parts (place_of d part.input) y at)
