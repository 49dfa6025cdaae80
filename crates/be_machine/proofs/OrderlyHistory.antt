-- Every legal history is in turn at each window, and even where it ends in Stop.
use Rattle.std.proofs.Common.{◌≡◌, ℕ, ◌<◌, ◌≤◌, true, List, [], ◌∷◌, ◌++◌, length, refl, sym, ap, subst, ◌∙◌, arith, length-drop}
use Rattle.std.specs.Prelude.{◌==◌, flat_map}
use Rattle.std.specs.List.{list_all}
use Rattle.be_facts.proofs.Truths.{and_first, and_second}
use Rattle.be_facts.proofs.Lists.{all_at}
use Rattle.be_facts.proofs.Numbers.{eq_tells}
use Rattle.be_link.specs.Queues.{Numbered, is_flushed}
use Rattle.be_message.specs.Messages.{Message}
use Rattle.be_port.specs.Ports.{Port, queue_of}
use Rattle.be_script.specs.Limits.{IsWithinLimits}
use Rattle.be_script.specs.Script.{Declared}
use Rattle.be_machine.specs.Activities.{activity_of}
use Rattle.be_machine.specs.Closing.{all_quiet}
use Rattle.be_machine.specs.declared.Act.TheVariants as act
use Rattle.be_machine.specs.declared.Entry.{Entry}
use Rattle.be_machine.specs.Happenings.{Happening, of_act, happenings_at}
use Rattle.be_machine.specs.History.{AreLegalFrom, IsLegalHistory, state_from, state_after}
use Rattle.be_machine.specs.Orderly.{Tally, first_tally, tally_from, EndsInStop, IsEven, tally_of}
use Rattle.be_machine.specs.State.{State, opening_state}
use Rattle.be_machine.specs.Step.{step}
use Rattle.be_machine.proofs.HasParts.{HasParts, parts_from}
use Rattle.be_machine.proofs.Lists.{IsThere, there}
use Rattle.be_machine.proofs.Opening.{parts_opening, tallied_opening}
use Rattle.be_machine.proofs.OrderlyEntries.{legal_goes}
use Rattle.be_machine.proofs.Resting.{IsAtRest, at_rest}
use Rattle.be_machine.proofs.Tallied.{OfPort, OfBuffer, OfLink, IsTallied, GoesOn, nothing_happens, in_turn_append, tally_append}

-- ---- entry by entry

abbrev says : Declared → ℕ → Entry → List Happening
says d w e = of_act w (activity_of d e.actor) e.act

history_goes : (d : Declared) (s : State) (w : ℕ) (t : Tally) (h : List Entry) → IsWithinLimits d → IsTallied s w t → AreLegalFrom d s h → GoesOn (state_from d s h) w t (flat_map (says d w) h)
unfolding AreLegalFrom state_from
history_goes d s w t [] limits is legal = nothing_happens s w t is
history_goes d s w t (e ∷ es) limits is legal =
    let now : GoesOn (step d s e) w t (says d w e) = legal_goes d s e w t limits legal.0 is in
    let later : GoesOn (state_from d (step d s e) es) w (tally_from t (says d w e)) (flat_map (says d w) es) = history_goes d (step d s e) w (tally_from t (says d w e)) es limits now.tallied legal.1 in
    record {
      in_turn = in_turn_append t (says d w e) (flat_map (says d w) es) now.in_turn later.in_turn;
      tallied = subst (IsTallied (state_from d (step d s e) es) w) (sym (tally_append t (says d w e) (flat_map (says d w) es))) later.tallied;
    }

pub goes_from_opening : (d : Declared) (h : List Entry) (w : ℕ) → IsWithinLimits d → IsLegalHistory d h → GoesOn (state_after d h) w first_tally (happenings_at d w h)
unfolding happenings_at
goes_from_opening d h w limits legal = history_goes d (opening_state d) w first_tally h limits (tallied_opening d w) legal

-- ---- histories in two pieces

pub record IsSplit (d : Declared) (s : State) (xs ys : List Entry) : Type 0 where
  pub first : AreLegalFrom d s xs
  pub second : AreLegalFrom d (state_from d s xs) ys
  pub after : state_from d s (xs ++ ys) ≡ state_from d (state_from d s xs) ys

pub split : (d : Declared) (s : State) (xs ys : List Entry) → AreLegalFrom d s (xs ++ ys) → IsSplit d s xs ys
unfolding AreLegalFrom state_from
split d s [] ys legal = record { first = tt; second = legal; after = refl }
split d s (x ∷ xs) ys legal = let rest : IsSplit d (step d s x) xs ys = split d (step d s x) xs ys legal.1 in record { first = (legal.0, rest.first); second = rest.second; after = rest.after }

-- a history that ends in Stop had come to rest before it
pub record Ends (d : Declared) (h : List Entry) : Type 0 where
  pub before : List Entry
  pub last : Entry
  pub is : h ≡ before ++ last ∷ []
  pub legal : IsLegalHistory d before
  pub stop : last.act ≡ act.Stop
  pub rest : IsAtRest d (state_after d before) last
  pub after : state_after d h ≡ step d (state_after d before) last

pub ends : (d : Declared) (h : List Entry) → IsLegalHistory d h → EndsInStop h → Ends d h
unfolding AreLegalFrom state_from
ends d h legal stop =
    let cut : IsSplit d (opening_state d) stop.before (stop.last ∷ []) = split d (opening_state d) stop.before (stop.last ∷ []) (subst (AreLegalFrom d (opening_state d)) stop.split legal) in
    record {
      before = stop.before;
      last = stop.last;
      is = stop.split;
      legal = cut.first;
      stop = stop.stop;
      rest = at_rest d (state_after d stop.before) stop.last cut.second.0 stop.stop;
      after = ap (state_from d (opening_state d)) stop.split ∙ cut.after;
    }

-- ---- nothing is left over

empty_queue : (p : Port Message) → length (queue_of p) ≡ 0 → p.taken ≤ length p.arrived → p.taken ≡ length p.arrived
empty_queue p empty within = omega (arith, length-drop p.taken p.arrived)

-- the parts of each window are empty at rest
record IsEmptyAt (s : State) (w : ℕ) : Type 0 where
  port : IsThere s.ports w
  buffer : IsThere s.buffers w
  link : IsThere s.links w
  no_letter : length (queue_of port.element) ≡ 0
  no_command : length buffer.element.commands ≡ 0
  none_waits : length link.element ≡ 0

record IsQuiet (s : State) : Type 0 where
  ports : list_all (λ p. length (queue_of p) == 0) s.ports ≡ true
  buffers : list_all is_flushed s.buffers ≡ true
  links : list_all (λ link. length link == 0) s.links ≡ true

quiet : (s : State) → all_quiet s ≡ true → IsQuiet s
quiet s h = record { ports = search (and_first, and_second); buffers = search (and_first, and_second); links = search (and_first, and_second) }

empty_at : (d : Declared) (s : State) (w : ℕ) → HasParts d s → all_quiet s ≡ true → w < length d.windows → IsEmptyAt s w
empty_at d s w parts h inside =
    let q : IsQuiet s = quiet s h in
    let port : IsThere s.ports w = there s.ports w (omega (arith, parts.ports)) in
    let buffer : IsThere s.buffers w = there s.buffers w (omega (arith, parts.buffers)) in
    let link : IsThere s.links w = there s.links w (omega (arith, parts.links)) in
    record {
      port = port;
      buffer = buffer;
      link = link;
      no_letter = eq_tells _ 0 (all_at (λ (p : Port Message). length (queue_of p) == 0) s.ports w port.element q.ports port.read);
      no_command = eq_tells _ 0 (all_at is_flushed s.buffers w buffer.element q.buffers buffer.read);
      none_waits = eq_tells _ 0 (all_at (λ (link : List Numbered). length link == 0) s.links w link.element q.links link.read);
    }

even_at : (s : State) (w : ℕ) (t : Tally) → IsEmptyAt s w → IsTallied s w t → IsEven t
even_at s w t at h =
    let port : OfPort t at.port.element = h.port at.port.element at.port.read in
    let buffer : OfBuffer t at.buffer.element = h.buffer at.buffer.element at.buffer.read in
    let link : OfLink t at.link.element = h.link at.link.element at.link.read in
    let all : at.port.element.taken ≡ length at.port.element.arrived = empty_queue at.port.element at.no_letter (omega (arith, port.arrived_are, port.taken_are, port.within)) in
    record {
      letters = omega (arith, port.arrived_are, port.taken_are, all);
      commands = omega (arith, buffer.waiting, link.waiting, at.no_command, at.none_waits);
    }

says_nothing : (d : Declared) (w : ℕ) (t : Tally) (h : List Entry) (e : Entry) → e.act ≡ act.Stop → tally_from t (flat_map (says d w) (h ++ e ∷ [])) ≡ tally_from t (flat_map (says d w) h)
says_nothing d w t [] e is = ap (λ a. tally_from t (of_act w (activity_of d e.actor) a ++ [])) is
says_nothing d w t (x ∷ h) e is =
    tally_append t (says d w x) (flat_map (says d w) (h ++ e ∷ []))
    ∙ says_nothing d w (tally_from t (says d w x)) h e is
    ∙ sym (tally_append t (says d w x) (flat_map (says d w) h))

pub even : (d : Declared) (h : List Entry) → IsWithinLimits d → IsLegalHistory d h → EndsInStop h → (w : ℕ) → w < length d.windows → IsEven (tally_of d w h)
unfolding happenings_at
even d h limits legal stop w inside =
    let end : Ends d h = ends d h legal stop in
    let goes : GoesOn (state_after d end.before) w first_tally (happenings_at d w end.before) = goes_from_opening d end.before w limits end.legal in
    let parts : HasParts d (state_after d end.before) = parts_from d (opening_state d) end.before end.legal (parts_opening d) in
    let at_end : IsEven (tally_of d w end.before) = even_at (state_after d end.before) w (tally_of d w end.before) (empty_at d (state_after d end.before) w parts end.rest.quiet inside) goes.tallied in
    subst IsEven (sym (ap (λ x. tally_from first_tally (flat_map (says d w) x)) end.is ∙ says_nothing d w first_tally end.before end.last end.stop)) at_end
