-- What a looper wants, by its part.
use Rattle.std.proofs.Common.{◌≡◌, ℕ, ◌<◌, List, [], length, Option, Some, None, refl, sym, ap, ◌∙◌, subst}
use Rattle.std.specs.Prelude.{slice_get, option_map, option_and_then, unwrap_or}
use Rattle.std.specs.Option.{option_map_or}
use Rattle.be_facts.proofs.Lists.{element}
use Rattle.be_asking.proofs.InHand.{looper_read, buffer_read, is_held}
use Rattle.be_asking.specs.declared.want.Want.{Want}
use Rattle.be_asking.specs.declared.want.Wanted.TheVariants.{Wants}
use Rattle.be_asking.specs.Loopers.{IsTold, looper_by}
use Rattle.be_asking.specs.Wants.{IsWanted, IsWantIn, want_in}
use Rattle.be_hall.specs.Hands.{meant, part_at}
use Rattle.be_link.specs.Queues.{Buffer, empty_buffer}
use Rattle.be_looper.specs.Duties.{Hand}
use Rattle.be_machine.specs.Activities.{runner, looper}
use Rattle.be_machine.specs.Program.{buffered, hand_in}
use Rattle.be_machine.specs.State.{State, Looper, free, locked, handling, in_body, beginning, in_update, ending}
use Rattle.be_machine.specs.Touched as part
use Rattle.be_machine.specs.Wants.{looper_want, want_of}
use Rattle.be_message.specs.Messages.{Message}
use Rattle.be_parts.specs.declared.part.Part.{Part}
use Rattle.be_parts.specs.Loopers.{buffer_of}
use Rattle.be_parts.specs.Parts.{meaning_of}
use Rattle.be_rules.proofs.Lawfully.{state, back, whole}
use Rattle.be_rules.specs.Places.{place_of}
use Rattle.be_rules.specs.Slices.{looper_in, buffer_in}
use Rattle.be_script.specs.Script.{Declared}

by_count : (d : Declared) (s : State) (w : ℕ) (l : Looper) → looper_want d s w l ≡ looper_by d w (buffered s (looper w)) l
by_count d s w (handling hand (in_body place)) = refl
by_count d s w (handling hand beginning) = refl
by_count d s w (handling hand (in_update views place)) = refl
by_count d s w (handling hand ending) = refl
by_count d s w (locked m) = refl
by_count d s w free = refl

counted : (o : Option Buffer) → option_map_or (λ (b : Buffer). length b.commands) o 0 ≡ length (unwrap_or o empty_buffer).commands
counted (Some b) = refl
counted None = refl

module _ (d : Declared) (parts : List (ℕ × Part)) (w : ℕ) (y : Part) (lt : w < length d.windows) (at : part_at parts (place_of d (part.looper w)) ≡ Some y) (want : Want) where
  wanted_by : (s : State) (l : Looper) → slice_get s.loopers w ≡ Some l → buffered s (looper w) ≡ length (buffer_of (meaning_of y)).commands → IsTold d w (Some l) (length (buffer_of (meaning_of y)).commands) want → IsWantIn d s (runner (looper w)) want
  unfolding want_of
  wanted_by s l read full told =
      ap (option_map (looper_want d s w)) read
      ∙ ap Some (by_count d s w l ∙ ap (λ n. looper_by d w n l) full ∙ sym told
      ∙ ap (λ o. want_in (option_map (λ (hand : Hand Message). hand.letter.body) (option_and_then hand_in o)) want) (sym read))

  pub looper_wants : (number : ℕ) → IsTold d w (looper_in (meaning_of y)) (length (buffer_of (meaning_of y)).commands) want → IsWanted d (meant meaning_of parts) number (runner (looper w)) (Wants want)
  looper_wants number told all sound fits =
      let s : State = state d all sound in
      let l = element s.loopers w (subst (λ n. w < n) (sym (whole d all sound).parts.loopers) lt) in
      let full : buffered s (looper w) ≡ length (buffer_of (meaning_of y)).commands = ap (λ (o : Option Buffer). option_map_or (λ b. length b.commands) o 0) (buffer_read d parts all sound fits y w lt at) ∙ counted (buffer_in (meaning_of y)) in
      let there : looper_in (meaning_of y) ≡ Some l.0 = sym (looper_read d parts all sound fits y w lt at) ∙ l.1 in (
        subst (λ t. IsWantIn d t (runner (looper w)) want) (sym (back d all sound)) (wanted_by s l.0 l.1 full (subst (λ o. IsTold d w o (length (buffer_of (meaning_of y)).commands) want) there told)),
        is_held parts (place_of d (part.looper w)) y at,
      )
