-- What a window's parts in hand tell of what is on its way.
use Rattle.std.proofs.Common.{◌≡◌, ℕ, Bool, true, false, List, [], ◌∷◌, length, Option, Some, None, refl, sym, ap, ◌∙◌}
use Rattle.std.specs.Prelude.{◌==◌, ◌&&◌, ◌↔◌, IsTrue, is_none, not, slice_get}
use Rattle.std.specs.Borrow.{Bor}
use Rattle.std.specs.Option.{is_some, option_copied}
use Rattle.be_facts.proofs.Numbers.{suc_is_not_zero}
use Rattle.be_hall.specs.Hands.{meant, part_at}
use Rattle.be_hall.specs.Machine.{Fits}
use Rattle.be_link.specs.Queues.{is_flushed}
use Rattle.be_looper.specs.declared.Owner.TheVariants as owners
use Rattle.be_pane.specs.Owed.{IsOwed}
use Rattle.be_pane.specs.declared.pane.Pane.{Pane}
use Rattle.be_port.specs.Ports.{queue_of}
use Rattle.be_port.specs.Queues.{Queue}
use Rattle.be_port.proofs.LawLemmas.{same_length}
use Rattle.be_port.specs.declared.letter.Letter as code
use Rattle.be_script.specs.Script.{Declared}
use Rattle.be_machine.specs.Closing.{is_free}
use Rattle.be_machine.specs.State.{Looper, State}
use Rattle.be_machine.specs.Touched as part
use Rattle.be_parts.specs.Kept.{Kept}
use Rattle.be_parts.specs.Parts.{meaning_of}
use Rattle.be_parts.specs.Stands.{PaneIs, PortIs}
use Rattle.be_parts.specs.declared.part.Part.{Part}
use Rattle.be_parts.specs.declared.part.Part.TheVariants as kinds
use Rattle.be_rules.specs.Places.{place_of}
use Rattle.be_rules.specs.Rules.{IsSound}
use Rattle.be_rules.specs.Slices.{Slice, desk, input, cell, looper, port, link, pane, state_of}
use Rattle.be_rules.proofs.Lawfully.{back}
use Rattle.be_update.specs.Laws.{ListedAsDirty, OwedAsTheMachine}
use Rattle.be_asking.specs.Finding.{IsMissing, IsReachable}
use Rattle.be_asking.specs.Stopping.{IsLost, Tells, is_empty_link, is_empty_port, is_idle, is_quiet, passes}
use Rattle.be_asking.proofs.InHand.{buffer_read, link_read, looper_read, port_read}
use Rattle.be_asking.proofs.TwinWants.{owes_told}

-- ---- a port

pub port_empty : (slice : Slice) (q : Queue) → PortIs slice q → is_empty_port slice ≡ (length q.letters == 0)
port_empty (port w (Some p)) q stands = ap (λ n. n == 0) (sym (same_length q.letters (queue_of p) stands.letters))
port_empty (port w None) q stands = absurd stands
port_empty (desk x) q stands = absurd stands
port_empty (input k b) q stands = absurd stands
port_empty (cell m a) q stands = absurd stands
port_empty (looper w l b) q stands = absurd stands
port_empty (link w l) q stands = absurd stands
port_empty (pane w x) q stands = absurd stands

front_by : (xs : List code.Letter) (o : Option code.Letter) → o ≡ slice_get xs 0 → is_none o ≡ (length xs == 0)
front_by [] o e = ap is_none e
front_by (x ∷ xs) o e = ap is_none e ∙ sym (suc_is_not_zero (length xs))

copied_none : (o : Option (Bor code.Letter)) (b : Bool) → is_some o ≡ not b → b ≡ is_none (option_copied o)
copied_none (Some x) true e = absurd (cc)
copied_none (Some x) false e = refl
copied_none None true e = refl
copied_none None false e = absurd (cc)

pub front_empty : (slice : Slice) (q : Queue) (o : Option (Bor code.Letter)) (b : Bool) → PortIs slice q → is_some o ≡ not b → option_copied o ≡ slice_get q.letters 0 → b ≡ is_empty_port slice
front_empty slice q o b stands told front = copied_none o b told ∙ front_by q.letters (option_copied o) front ∙ sym (port_empty slice q stands)

-- ---- all of a window

module _ (d : Declared) (parts : List (ℕ × Part)) (w : ℕ) (r : IsReachable d parts (part.looper w)) where
  pub reach_port : IsReachable d parts (part.port w)
  reach_port = record { limits = r.limits; fitting = r.fitting; there = r.there }

  pub reach_link : IsReachable d parts (part.link w)
  reach_link = record { limits = r.limits; fitting = r.fitting; there = r.there }

  pub reach_pane : IsReachable d parts (part.pane w)
  reach_pane = record { limits = r.limits; fitting = r.fitting; there = r.there }

  pub no_looper : (place : ℕ) → IsMissing d parts (part.looper w) place → IsLost d parts place
  no_looper place gone = record { of = part.looper w; there = r.there; missing = gone }

  pub no_port : (place : ℕ) → IsMissing d parts (part.port w) place → IsLost d parts place
  no_port place gone = record { of = part.port w; there = r.there; missing = gone }

  pub no_link : (place : ℕ) → IsMissing d parts (part.link w) place → IsLost d parts place
  no_link place gone = record { of = part.link w; there = r.there; missing = gone }

  pub no_pane : (place : ℕ) → IsMissing d parts (part.pane w) place → IsLost d parts place
  no_pane place gone = record { of = part.pane w; there = r.there; missing = gone }

  module _ (l k : Kept) (q c : Slice) (at_looper : part_at parts (place_of d (part.looper w)) ≡ Some (kinds.Looper l)) (at_port : part_at parts (place_of d (part.port w)) ≡ Some (kinds.Port q))
      (at_link : part_at parts (place_of d (part.link w)) ≡ Some (kinds.Link c)) (at_pane : part_at parts (place_of d (part.pane w)) ≡ Some (kinds.Pane k)) where
    idle_is : (all : List Slice) (sound : IsSound d all) → Fits all (meant meaning_of parts) → (passes is_free (slice_get (state_of d all).loopers w) && passes is_flushed (slice_get (state_of d all).buffers w)) ≡ is_idle l.slice
    idle_is all sound fits =
        ap (λ (s : State). passes is_free (slice_get s.loopers w) && passes is_flushed (slice_get s.buffers w)) (back d all sound)
        ∙ (λ i. passes is_free (looper_read d parts all sound fits (kinds.Looper l) w r.there at_looper i) && passes is_flushed (buffer_read d parts all sound fits (kinds.Looper l) w r.there at_looper i))

    letters_are : (all : List Slice) (sound : IsSound d all) → Fits all (meant meaning_of parts) → passes (λ p. length (queue_of p) == 0) (slice_get (state_of d all).ports w) ≡ is_empty_port q
    letters_are all sound fits =
        ap (λ (s : State). passes (λ p. length (queue_of p) == 0) (slice_get s.ports w)) (back d all sound)
        ∙ ap (passes (λ p. length (queue_of p) == 0)) (port_read d parts all sound fits (kinds.Port q) w r.there at_port)

    commands_are : (all : List Slice) (sound : IsSound d all) → Fits all (meant meaning_of parts) → passes (λ link. length link == 0) (slice_get (state_of d all).links w) ≡ is_empty_link c
    commands_are all sound fits =
        ap (λ (s : State). passes (λ link. length link == 0) (slice_get s.links w)) (back d all sound)
        ∙ ap (passes (λ link. length link == 0)) (link_read d parts all sound fits (kinds.Link c) w r.there at_link)

    pub window_told : (p : Pane) → PaneIs k.slice p → OwedAsTheMachine → ListedAsDirty → (idle_now no_letter no_command owed : Bool) → idle_now ≡ is_idle l.slice → no_letter ≡ is_empty_port q → no_command ≡ is_empty_link c → (IsTrue owed ↔ IsOwed p)
        → Tells d parts (is_quiet w) (idle_now && no_letter && no_command && not owed)
    window_told p stands law listed idle_now no_letter no_command owed one two three four all sound fits =
        λ i. (idle_is all sound fits ∙ sym one) i && (letters_are all sound fits ∙ sym two) i && (commands_are all sound fits ∙ sym three) i && not (owes_told d parts w (kinds.Pane k) p r.there at_pane stands law listed owed four all sound fits i)
