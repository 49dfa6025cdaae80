-- A letter that a looper takes.
use Rattle.std.proofs.Common.{◌≡◌, ℕ, ◌+◌, List, [], ◌∷◌, Some, sym, ap, ◌∙◌}
use Rattle.std.specs.Prelude.{option_map, option_and_then, option_to_list, slice_get, if◌then◌else◌}
use Rattle.std.specs.Option.{option_map_or}
use Rattle.be_asking.proofs.InHand.{port_read}
use Rattle.be_asking.specs.declared.activity.Activity.TheVariants as who
use Rattle.be_asking.specs.declared.activity.Runner.TheVariants as by
use Rattle.be_asking.specs.declared.want.Want.TheVariants as want
use Rattle.be_hall.specs.Hands.{meant, part_at}
use Rattle.be_hall.specs.Machine.{Fits}
use Rattle.be_looper.specs.Duties.{Hand, in_hand}
use Rattle.be_machine.specs.Port.{letter_route}
use Rattle.be_machine.specs.State.{State}
use Rattle.be_machine.specs.Touched as part
use Rattle.be_machine.specs.Traces.{take_trace, took}
use Rattle.be_message.specs.Messages.{Message}
use Rattle.be_parts.specs.Parts.{meaning_of}
use Rattle.be_parts.specs.Stands.{PortIs}
use Rattle.be_parts.specs.declared.part.Part.{Part}
use Rattle.be_parts.specs.declared.part.Part.TheVariants as kinds
use Rattle.be_port.specs.Laws.{TakesAsPort}
use Rattle.be_port.specs.Ports.{Letter, Port, front}
use Rattle.be_port.specs.Queues.{Queue}
use Rattle.be_port.specs.declared.letter.Letter as held
use Rattle.be_ready.proofs.Fronts.{port_there, port_of}
use Rattle.be_rules.proofs.Lawfully.{back}
use Rattle.be_rules.specs.Places.{place_of}
use Rattle.be_rules.specs.Rules.{IsSound}
use Rattle.be_rules.specs.Slices.{Slice, port, state_of}
use Rattle.be_script.specs.Script.{Declared}
use Rattle.be_steps.specs.Steps.{IsAllowed}
use Rattle.be_steps.specs.Taking.{IsFrontMessage}
use Rattle.be_written.specs.declared.note.Note.TheVariants as note
use Rattle.be_written.specs.declared.said.Said.TheVariants as spoken
use Rattle.be_noted.proofs.Makers.{SaysOfEach, trace_is}
use Rattle.std.specs.Borrow.{Bor}
use Rattle.be_facts.proofs.Numbers.{eq_self}
use Rattle.be_handler.specs.declared.Route.{Route}

-- ---- before

-- the letter in front of window w's port, with the number that it has when it is taken
record HasFront (d : Declared) (s : State) (w : ℕ) (front_letter : held.Letter) : Type 0 where
  pub port : Port Message
  pub is_port : slice_get s.ports w ≡ Some port
  pub letter : Letter Message
  pub is_front : front port ≡ Some letter
  pub number : port.taken + 1 ≡ front_letter.number
  pub sender : letter.sender ≡ front_letter.sender
  pub hop : letter.hop ≡ front_letter.hop
  pub target : letter.target ≡ front_letter.target

module _ (d : Declared) (parts : List (ℕ × Part)) (w : ℕ) (allowed : IsAllowed d parts (who.Runner (by.Looper w)) (want.Takes w)) where
  module _ (k : Slice) (at : part_at parts (place_of d (part.port w)) ≡ Some (kinds.Port k)) (q : Queue) (stands : PortIs k q) (law : TakesAsPort) (letter : held.Letter) (first : slice_get q.letters 0 ≡ Some letter) where
    on_front : (all : List Slice) → IsSound d all → Fits all (meant meaning_of parts) → HasFront d (state_of d all) w letter
    on_front all sound fits =
        let machine = port_of k q stands in
        let taken = law q machine.0 machine.2 letter first in record {
          port = machine.0;
          is_port = ap (λ (t : State). slice_get t.ports w) (back d all sound) ∙ port_read d parts all sound fits (kinds.Port k) w (port_there d parts w allowed).reachable.there at ∙ machine.1;
          letter = taken.0;
          is_front = taken.1;
          number = sym taken.3;
          sender = sym taken.2.carried.sender;
          hop = sym taken.2.carried.hop;
          target = sym taken.2.carried.target;
        }

    module _ (message : Message) (route : Route) (front_is : IsFrontMessage d parts w message route) (said : Bor Message) (says : said.now ≡ message) where
      -- what is noted of the letter
      pub says_taken : SaysOfEach d parts (by.Looper w) (note.Took letter.number (record { sender = letter.sender; hop = letter.hop; target = letter.target; route = route; message = spoken.Whole said }))
      says_taken e number all sound fits =
          let s : State = state_of d all in
          let f : HasFront d s w letter = on_front all sound fits in
          let front_at : option_and_then front (slice_get s.ports w) ≡ Some f.letter = ap (option_and_then front) f.is_port ∙ f.is_front in
          let carried = front_is all sound fits f.letter front_at in
          let hand : Hand Message = in_hand f.letter (letter_route d w f.letter) in (
            hand,
            (
              record { sender = f.sender; hop = f.hop; target = f.target; route = carried.1; message = says ∙ sym carried.0 },
              trace_is d parts (who.Runner (by.Looper w)) (want.Takes w) allowed e number all sound fits
                  ∙ ap (λ b. if b then option_map_or (take_trace d w) (slice_get s.ports w) [] else []) (eq_self w)
                  ∙ ap (λ o. option_map_or (take_trace d w) o []) f.is_port
                  ∙ ap (λ o. option_to_list (option_map (λ letter. took (f.port.taken + 1) (in_hand letter (letter_route d w letter))) o)) f.is_front
                  ∙ ap (λ n. took n hand ∷ []) f.number,
            ),
          )
