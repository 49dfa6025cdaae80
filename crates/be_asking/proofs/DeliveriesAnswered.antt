-- What the ports in hand answer to the messages of a delivery.
use Rattle.std.proofs.Common.{◌≡◌, ℕ, ◌*◌, ◌≤◌, true, false, List, Option, Some, None, refl, sym, ap, ◌∙◌, subst}
use Rattle.std.specs.Prelude.{◌==◌, option_map, option_and_then, slice_get}
use Rattle.std.specs.Option.{option_map_or}
use Rattle.std.proofs.lemmas.Option.{same_Some}
use Rattle.be_facts.proofs.Numbers.{eq_false_tells, eq_tells}
use Rattle.be_hall.specs.Hands.{meant, part_at}
use Rattle.be_hall.specs.Machine.{Fits}
use Rattle.be_input.specs.declared.Delivery as code
use Rattle.be_input.specs.declared.Post as sent
use Rattle.be_input.specs.Deliveries.{Post}
use Rattle.be_input.specs.Seen.{seen_delivery, seen_post}
use Rattle.be_message.specs.Messages.{Message}
use Rattle.be_port.specs.Laws.{AnswersAsPort}
use Rattle.be_port.specs.Ports.{Letter, Port, judged, posted}
use Rattle.be_port.specs.Queues.{Queue, answer}
use Rattle.be_port.specs.StandsFor.{PortStandsFor}
use Rattle.be_port.specs.declared.Posted.{Posted}
use Rattle.be_script.specs.Script.{Declared}
use Rattle.be_machine.specs.Input.{input_letter, outcome_in, ports_with}
use Rattle.be_machine.specs.Lists.{at}
use Rattle.be_machine.specs.State.{State}
use Rattle.be_machine.specs.Touched as part
use Rattle.be_machine.proofs.Lists.{at_here, at_elsewhere}
use Rattle.be_parts.specs.Parts.{meaning_of}
use Rattle.be_parts.specs.Stands.{PortIs}
use Rattle.be_parts.specs.declared.part.Part as parts
use Rattle.be_parts.specs.declared.part.Part.TheVariants as kinds
use Rattle.be_rules.specs.Places.{place_of}
use Rattle.be_rules.specs.Rules.{IsSound}
use Rattle.be_rules.specs.Slices.{Slice, desk, input, cell, looper, port, link, pane, port_in, state_of}
use Rattle.be_rules.proofs.Lawfully.{back}
use Rattle.be_asking.specs.Using.{Answers, AnswersBehind, IsFirst, IsPostable, IsSecond}
use Rattle.be_asking.proofs.InHand.{port_read}
use Rattle.be_asking.proofs.Small.{small, small_port}

-- ---- one port

judged_in : AnswersAsPort → (slice : Slice) (q : Queue) → PortIs slice q → option_map (λ (p : Port Message). judged p 0) (port_in slice) ≡ Some (answer q 0)
judged_in answers (port v (Some p)) q stands = ap (λ a. Some a) (sym (answers q p stands 0))
judged_in answers (port v None) q stands = absurd stands
judged_in answers (desk x) q stands = absurd stands
judged_in answers (input k b) q stands = absurd stands
judged_in answers (cell m a) q stands = absurd stands
judged_in answers (looper v l b) q stands = absurd stands
judged_in answers (link v l) q stands = absurd stands
judged_in answers (pane v x) q stands = absurd stands

-- so it answers whatever letter came before
abbrev pub IsBehind : Queue → Posted → Type 0
IsBehind q x = (p : Port Message) → PortStandsFor q p → (letter : Letter Message) → letter.hop ≡ 0 → letter.notice ≡ false → x ≡ judged (posted letter p) 0

some_at : (ports : List (Port Message)) (w : ℕ) (p : Port Message) (post : Post) → slice_get ports w ≡ Some p → post.window ≡ w → slice_get (ports_with ports (Some post)) w ≡ Some (posted (input_letter post) p)
some_at ports w p post read same = subst (λ v. slice_get (at ports v (posted (input_letter post))) w ≡ Some (posted (input_letter post) p)) (sym same) (at_here ports w (posted (input_letter post)) p read)

judged_behind : (slice : Slice) (q : Queue) (x : Posted) → PortIs slice q → IsBehind q x → (ports : List (Port Message)) (w : ℕ) → slice_get ports w ≡ port_in slice → (post : Post) → post.window ≡ w → option_map (λ (p : Port Message). judged p 0) (slice_get (ports_with ports (Some post)) w) ≡ Some x
judged_behind (port v (Some p)) q x stands behind ports w read post same =
    ap (option_map (λ (p : Port Message). judged p 0)) (some_at ports w p post read same) ∙ ap (λ a. Some a) (sym (behind p stands (input_letter post) refl refl))
judged_behind (port v None) q x stands behind ports w read post same = absurd stands
judged_behind (desk y) q x stands behind ports w read post same = absurd stands
judged_behind (input k b) q x stands behind ports w read post same = absurd stands
judged_behind (cell m a) q x stands behind ports w read post same = absurd stands
judged_behind (looper v l b) q x stands behind ports w read post same = absurd stands
judged_behind (link v l) q x stands behind ports w read post same = absurd stands
judged_behind (pane v y) q x stands behind ports w read post same = absurd stands

module _ (d : Declared) (inhand : List (ℕ × parts.Part)) (w : ℕ) (r : IsPostable d inhand w) (k : Slice) (there : part_at inhand (place_of d (part.port w)) ≡ Some (kinds.Port k)) (q : Queue) (stands : PortIs k q) where
  pub few_letters : q.last ≤ 2 * 4611686018427387904
  few_letters = small_port 4611686018427387904 k q (small 4611686018427387904 inhand (place_of d (part.port w)) (kinds.Port k) r.small there) stands

  pub answers_now : AnswersAsPort → Answers d inhand w (answer q 0)
  answers_now law all sound fits =
      ap (λ (s : State). option_map (λ (p : Port Message). judged p 0) (slice_get s.ports w)) (back d all sound)
      ∙ ap (option_map (λ (p : Port Message). judged p 0)) (port_read d inhand all sound fits (kinds.Port k) w r.port.there there)
      ∙ judged_in law k q stands

  pub answers_behind : (x : Posted) → IsBehind q x → AnswersBehind d inhand w x
  answers_behind x behind all sound fits post same =
      judged_behind k q x stands behind (state_of d all).ports w (ap (λ (s : State). slice_get s.ports w) (back d all sound) ∙ port_read d inhand all sound fits (kinds.Port k) w r.port.there there) post same

-- ---- both messages

paired : (o : Option (Port Message)) (w : ℕ) (x : Posted) → option_map (λ (p : Port Message). judged p 0) o ≡ Some x → option_map {U = ℕ × Posted} (λ (p : Port Message). (w, judged p 0)) o ≡ Some (w, x)
paired (Some p) w x e = ap (λ a. Some (w, a)) (same_Some (judged p 0) x e)
paired None w x e = absurd (cc)

module _ (d : Declared) (inhand : List (ℕ × parts.Part)) (delivery : code.Delivery) where
  pub first_none : delivery.first ≡ None → IsFirst d inhand (seen_delivery delivery) None
  first_none e all sound fits = ap (λ (o : Option sent.Post). option_and_then (outcome_in (state_of d all).ports) (option_map seen_post o)) e

  pub first_some : (post : sent.Post) (x : Posted) → delivery.first ≡ Some post → Answers d inhand post.window x → IsFirst d inhand (seen_delivery delivery) (Some (post.window, x))
  first_some post x e answers all sound fits =
      ap (λ (o : Option sent.Post). option_and_then (outcome_in (state_of d all).ports) (option_map seen_post o)) e
      ∙ paired (slice_get (state_of d all).ports post.window) post.window x (answers all sound fits)

  abbrev ports_then : List (Port Message) → Option sent.Post → List (Port Message)
  ports_then ports o = ports_with ports (option_map seen_post o)

  pub second_none : delivery.second ≡ None → IsSecond d inhand (seen_delivery delivery) None
  second_none e all sound fits = ap (λ (o : Option sent.Post). option_and_then (outcome_in (ports_then (state_of d all).ports delivery.first)) (option_map seen_post o)) e

  second_by : (post : sent.Post) (x : Posted) → delivery.second ≡ Some post → ((all : List Slice) → IsSound d all → Fits all (meant meaning_of inhand) → option_map (λ (p : Port Message). judged p 0) (slice_get (ports_then (state_of d all).ports delivery.first) post.window) ≡ Some x) → IsSecond d inhand (seen_delivery delivery) (Some (post.window, x))
  second_by post x e answers all sound fits =
      ap (λ (o : Option sent.Post). option_and_then (outcome_in (ports_then (state_of d all).ports delivery.first)) (option_map seen_post o)) e
      ∙ paired (slice_get (ports_then (state_of d all).ports delivery.first) post.window) post.window x (answers all sound fits)

  -- to the port of the first
  pub second_behind : (post : sent.Post) (x : Posted) → delivery.second ≡ Some post → option_map_or (λ (p : sent.Post). p.window == post.window) delivery.first false ≡ true → AnswersBehind d inhand post.window x → IsSecond d inhand (seen_delivery delivery) (Some (post.window, x))
  second_behind post x e same answers = second_by post x e (λ all sound fits. by (state_of d all).ports delivery.first same (answers all sound fits))
    where
      by : (ports : List (Port Message)) (o : Option sent.Post) → option_map_or (λ (p : sent.Post). p.window == post.window) o false ≡ true → ((first : Post) → first.window ≡ post.window → option_map (λ (p : Port Message). judged p 0) (slice_get (ports_with ports (Some first)) post.window) ≡ Some x) → option_map (λ (p : Port Message). judged p 0) (slice_get (ports_then ports o) post.window) ≡ Some x
      by ports (Some first) is told = told (seen_post first) (eq_tells first.window post.window is)
      by ports None is told = absurd (cc)

  -- to another
  pub second_beside : (post : sent.Post) (x : Posted) → delivery.second ≡ Some post → option_map_or (λ (p : sent.Post). p.window == post.window) delivery.first false ≡ false → Answers d inhand post.window x → IsSecond d inhand (seen_delivery delivery) (Some (post.window, x))
  second_beside post x e other answers = second_by post x e (λ all sound fits. ap (option_map (λ (p : Port Message). judged p 0)) (by (state_of d all).ports delivery.first other) ∙ answers all sound fits)
    where
      by : (ports : List (Port Message)) (o : Option sent.Post) → option_map_or (λ (p : sent.Post). p.window == post.window) o false ≡ false → slice_get (ports_then ports o) post.window ≡ slice_get ports post.window
      by ports (Some first) apart = at_elsewhere ports first.window post.window (posted (input_letter (seen_post first))) (eq_false_tells first.window post.window apart)
      by ports None apart = refl
