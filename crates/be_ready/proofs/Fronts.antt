-- The letter in front of a port, and the machine's.
use Rattle.std.proofs.Common.{◌≡◌, ℕ, ◌+◌, ◌<◌, List, length, Option, Some, None, get_or, inl, inr, refl, sym, ap, ◌∙◌, subst, arith}
use Rattle.std.specs.Borrow.{Bor}
use Rattle.std.specs.Prelude.{IsSome, option_copied, option_map, option_and_then, slice_get, slice_index_or, if◌then◌else◌}
use Rattle.std.proofs.lemmas.List.FromFn.{get_or-map-range_with_len, length-map-range_with_len}
use Rattle.std.proofs.lemmas.Option.{same_Some}
use Rattle.be_asking.proofs.InHand.{port_read}
use Rattle.be_asking.specs.declared.activity.Activity.TheVariants as who
use Rattle.be_asking.specs.declared.activity.Runner.TheVariants as by
use Rattle.be_asking.specs.declared.want.Want.TheVariants as want
use Rattle.be_flat.specs.Grammar.{Spells}
use Rattle.be_hall.specs.Hands.{meant, part_at}
use Rattle.be_hall.specs.Machine.{Fits}
use Rattle.be_handler.specs.Routes.{Chain, route_of}
use Rattle.be_handler.specs.declared.Route.{Route}
use Rattle.be_handler.specs.declared.Route.TheVariants.{Handler}
use Rattle.be_machine.specs.declared.Act.{Act}
use Rattle.be_machine.specs.declared.Act.TheVariants.{Take}
use Rattle.be_machine.specs.Legal.{want_act}
use Rattle.be_machine.specs.Lists.{with_both}
use Rattle.be_machine.specs.Port.{letter_route, take_act}
use Rattle.be_machine.specs.State.{Looper, State, free, handling, locked}
use Rattle.be_machine.specs.Touched as part
use Rattle.be_message.specs.Messages.{Message}
use Rattle.be_message.specs.declared.target.Target.TheVariants.{Window}
use Rattle.be_parts.specs.Parts.{meaning_of}
use Rattle.be_parts.specs.Stands.{PortIs}
use Rattle.be_parts.specs.declared.part.Part.{Part}
use Rattle.be_parts.specs.declared.part.Part.TheVariants as kinds
use Rattle.be_port.specs.Laws.{EmptyAsPort, TakesAsPort}
use Rattle.be_port.specs.Ports.{Letter, Port, front}
use Rattle.be_port.specs.Queues.{Queue}
use Rattle.be_port.specs.StandsFor.{LetterStandsFor, PortStandsFor}
use Rattle.be_port.specs.declared.letter.Letter as held
use Rattle.be_ready.specs.Chains.{chains_of}
use Rattle.be_rules.proofs.Lawfully.{back, state}
use Rattle.be_rules.specs.Places.{place_of}
use Rattle.be_rules.specs.Rules.{IsSound}
use Rattle.be_rules.specs.Slices.{Slice, cell, desk, input, link, looper, pane, port, port_in, state_of}
use Rattle.be_script.specs.Script.{Declared}
use Rattle.be_script.specs.Windows.{chain_of}
use Rattle.be_steps.proofs.Making.{granted_now, now, so, fits_now, there, all}
use Rattle.be_steps.specs.Steps.{IsAllowed}
use Rattle.be_steps.specs.Taking.{IsFrontMessage}
use Rattle.be_steps.specs.There.{IsThere}

-- a letter that is lent is there where none that isn't is told
pub is_there : (o : Option (Bor held.Letter)) (x : Option held.Letter) → option_copied o ≡ x → (x ≡ None → ⊥) → IsSome o
is_there (Some l) x is some = cc
is_there None x is some = absurd (some (sym is))

-- what is taken is there
front_by : (p : Port Message) (o : Option (Letter Message)) (act : Act) → front p ≡ o → option_map (λ letter. Take (p.taken + 1)) o ≡ Some act → front p ≡ None → ⊥
front_by p (Some first) act is e none = absurd (cc)
front_by p None act is e none = absurd (cc)

taken_by : (o : Option Looper) (q : Option (Port Message)) (act : Act) → with_both take_act o q ≡ Some act → option_and_then front q ≡ None → ⊥
taken_by (Some free) (Some p) act e none = front_by p (front p) act refl e none
taken_by (Some free) None act e none = absurd (cc)
taken_by (Some (locked m)) (Some p) act e none = absurd (cc)
taken_by (Some (locked m)) None act e none = absurd (cc)
taken_by (Some (handling hand stage)) (Some p) act e none = absurd (cc)
taken_by (Some (handling hand stage)) None act e none = absurd (cc)
taken_by None (Some p) act e none = absurd (cc)
taken_by None None act e none = absurd (cc)

-- the machine's port
pub port_of : (k : Slice) (q : Queue) → PortIs k q → (p : Port Message) × (port_in k ≡ Some p) × PortStandsFor q p
port_of (port w (Some p)) q stands = (p, refl, stands)
port_of (port w None) q stands = absurd stands
port_of (desk x) q stands = absurd stands
port_of (input n b) q stands = absurd stands
port_of (cell m a) q stands = absurd stands
port_of (looper w l b) q stands = absurd stands
port_of (link w l) q stands = absurd stands
port_of (pane w x) q stands = absurd stands

-- a window's chain among those of all
module _ (d : Declared) (chains : List Chain) (are : chains ≡ chains_of d) (w : ℕ) (there : w < length d.windows) where
  pub chain_there : w < length chains
  chain_there = subst (λ n. w < n) (sym (ap length are ∙ length-map-range_with_len (chain_of d) 0 (length d.windows))) there

  pub chain_is : (chain : Chain) → chain ≡ slice_index_or chains w chain → chain ≡ chain_of d w
  chain_is chain e =
      let at : 0 + w ≡ w = omega arith in
      e ∙ ap (λ l. get_or l w chain) are ∙ get_or-map-range_with_len (chain_of d) 0 (length d.windows) w w chain there at

-- a letter that stands for another one has its way
way_by : (d : Declared) (w what : ℕ) (l : held.Letter) (m : Letter Message) → LetterStandsFor l m → what ≡ m.body.what
    → (if l.notice then Handler Window else route_of (chain_of d w) what l.target) ≡ letter_route d w m
way_by d w what l m stands is = λ i. if stands.notice i then Handler Window else route_of (chain_of d w) (is i) (stands.carried.target i)

module _ (d : Declared) (parts : List (ℕ × Part)) (w : ℕ) (allowed : IsAllowed d parts (who.Runner (by.Looper w)) (want.Takes w)) where
  abbrev s : State
  s = now d parts (who.Runner (by.Looper w)) (want.Takes w) allowed

  pub port_there : IsThere d parts (part.port w)
  port_there = there d parts (who.Runner (by.Looper w)) (want.Takes w) allowed (part.port w) (inr (inl refl))

  pub window_there : w < length d.windows
  window_there = port_there.reachable.there

  not_empty : option_and_then front (slice_get s.ports w) ≡ None → ⊥
  unfolding want_act
  not_empty = taken_by (slice_get s.loopers w) (slice_get s.ports w) allowed.act (granted_now d parts (who.Runner (by.Looper w)) (want.Takes w) allowed)

  module _ (k : Slice) (at : part_at parts (place_of d (part.port w)) ≡ Some (kinds.Port k)) (q : Queue) (stands : PortIs k q) where
    abbrev machine : (p : Port Message) × (port_in k ≡ Some p) × PortStandsFor q p
    machine = port_of k q stands

    -- in each list the port is this one
    port_is : (l : List Slice) (sound : IsSound d l) → Fits l (meant meaning_of parts) → slice_get (state d l sound).ports w ≡ Some machine.0
    port_is l sound fits = port_read d parts l sound fits (kinds.Port k) w port_there.reachable.there at ∙ machine.1

    pub some_letter : EmptyAsPort → slice_get q.letters 0 ≡ None → ⊥
    some_letter law none =
        not_empty
        (ap (option_and_then front)
        (port_is (all d parts (who.Runner (by.Looper w)) (want.Takes w) allowed) (so d parts (who.Runner (by.Looper w)) (want.Takes w) allowed) (fits_now d parts (who.Runner (by.Looper w)) (want.Takes w) allowed))
        ∙ (law q machine.0 machine.2 none).0)

    module _ (law : TakesAsPort) (letter : held.Letter) (first : slice_get q.letters 0 ≡ Some letter) where
      abbrev of : Letter Message
      of = (law q machine.0 machine.2 letter first).0

      abbrev of_is : front machine.0 ≡ Some of
      of_is = (law q machine.0 machine.2 letter first).1

      abbrev stands_for : LetterStandsFor letter of
      stands_for = (law q machine.0 machine.2 letter first).2

      pub spelled : (m : Message) × Spells letter.bytes m
      spelled = (of.body, stands_for.carried.body)

      pub in_front : (message : Message) (what : ℕ) (route : Route) → ((m : Message) → Spells letter.bytes m → message ≡ m) → what ≡ message.what
          → route ≡ (if letter.notice then Handler Window else route_of (chain_of d w) what letter.target) → IsFrontMessage d parts w message route
      in_front message what route is word way l sound fits front_letter front_is =
          let port_now : slice_get (state_of d l).ports w ≡ Some machine.0 = ap (λ (t : State). slice_get t.ports w) (back d l sound) ∙ port_is l sound fits in
          let same : of ≡ front_letter = same_Some of front_letter (sym of_is ∙ ap (option_and_then front) (sym port_now) ∙ front_is) in
          let body : message ≡ of.body = is of.body stands_for.carried.body in
          subst (λ (x : Letter Message). (x.body ≡ message) × (letter_route d w x ≡ route)) same
          (sym body, sym (way ∙ way_by d w what letter of stands_for (word ∙ ap (λ (m : Message). m.what) body)))
