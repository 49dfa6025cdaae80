-- A runner that wants to post, to send or to forward.
use Rattle.std.proofs.Common.{◌≡◌, ℕ, ◌+◌, ◌*◌, ◌≤◌, true, List, [], ◌∷◌, Option, Some, None, inl, inr, refl, sym, ap, ◌∙◌, subst, arith}
use Rattle.std.specs.Prelude.{option_map, option_and_then, nat_le}
use Rattle.std.specs.Option.{option_map_or}
use Rattle.std.proofs.lemmas.Bool.Decides.{nat_tests}
use Rattle.std.proofs.lemmas.Option.{same_Some}
use Rattle.std.specs.Borrow.{Bor}
use Rattle.be_actor.specs.declared.Wish.TheVariants as wish
use Rattle.be_hall.specs.Hands.{meant, part_at}
use Rattle.be_hall.specs.Machine.{IsHeld}
use Rattle.be_message.specs.Messages.{Message}
use Rattle.be_message.specs.declared.text.Text.{Text}
use Rattle.be_port.specs.Laws.{AnswersAsPort}
use Rattle.be_port.specs.Ports.{Port, judged}
use Rattle.be_port.specs.Queues.{Queue, answer}
use Rattle.be_script.specs.Script.{Declared}
use Rattle.be_machine.specs.Activities as machine
use Rattle.be_machine.specs.declared.Act.TheVariants as act
use Rattle.be_machine.specs.Legal.{want_act, wish_act}
use Rattle.be_machine.specs.Port.{post_act}
use Rattle.be_machine.specs.Program.{hand_in, hop_of}
use Rattle.be_machine.specs.State.{Looper, State}
use Rattle.be_machine.specs.Touched as part
use Rattle.be_machine.specs.Touched.{own_part}
use Rattle.be_machine.specs.Wants as wants
use Rattle.be_parts.specs.Kept.{Kept}
use Rattle.be_parts.specs.Parts.{meaning_of}
use Rattle.be_parts.specs.Stands.{PortIs}
use Rattle.be_parts.specs.declared.part.Part as parts
use Rattle.be_parts.specs.declared.part.Part.TheVariants as kinds
use Rattle.be_rules.specs.Found.{NeedsPart, OwnHeld}
use Rattle.be_rules.specs.Places.{place_of}
use Rattle.be_rules.specs.Slices.{Slice, desk, input, cell, looper, port, link, pane, port_in}
use Rattle.be_rules.specs.Sure.{IsAmong, Seen, in_hand, parts_by, parts_for, seen_in}
use Rattle.be_rules.proofs.Lawfully.{back}
use Rattle.be_asking.specs.Acts.{HasHop, IsSameHop, hop_behind, post_window}
use Rattle.be_asking.specs.Deeds.{IsAsked, MayAct}
use Rattle.be_asking.specs.Finding.{IsMissing, IsReachable}
use Rattle.be_asking.specs.Wants.{message_of, runner_in, wish_in}
use Rattle.be_asking.specs.declared.activity.Activity.TheVariants as who
use Rattle.be_asking.specs.declared.activity.Runner.{Runner}
use Rattle.be_asking.specs.declared.activity.Runner.TheVariants as by
use Rattle.be_asking.specs.declared.want.Request.{Request}
use Rattle.be_asking.specs.declared.want.Request.TheVariants as request
use Rattle.be_asking.specs.declared.want.Want.TheVariants as want
use Rattle.be_asking.proofs.Asked.{fits, here, may, missing, own, port_is, reach, s, sound}
use Rattle.be_asking.proofs.InHand.{looper_read}
use Rattle.be_asking.proofs.Small.{small, small_port}

-- ---- hops

-- that of a looper's messages, by its part
pub looper_hop : (d : Declared) (inhand : List (ℕ × parts.Part)) (w : ℕ) (k : Kept) (hop : ℕ) → IsReachable d inhand (part.looper w) → part_at inhand (place_of d (part.looper w)) ≡ Some (kinds.Looper k) → IsSameHop hop (hop_behind k.slice) → HasHop d inhand (by.Looper w) hop
looper_hop d inhand w k hop r at same all sound fits =
    subst (IsSameHop hop)
    (ap (λ (o : Option Looper). option_map_or (λ hand. hand.letter.hop + 1) (option_and_then hand_in o) 0) (sym (looper_read d inhand all sound fits (kinds.Looper k) w r.there at))
    ∙ ap (λ (t : State). hop_of t (machine.looper w)) (sym (back d all sound)))
    same

pub deep : (n : ℕ) → 8 ≤ n → nat_le 8 n ≡ true
deep n le = grind (arith, nat_tests)

pub same_answer : (p : Port Message) (h k : ℕ) → IsSameHop h k → judged p h ≡ judged p k
unfolding judged
same_answer p h k (inl is) = ap (judged p) is
same_answer p h k (inr both) = rw (deep h both.0, deep k both.1) refl

-- ---- where it is posted

module _ (r : machine.Runner) (now : Option Message) (w : ℕ) where
  posts_act : (q : Request) → post_window q ≡ Some w → (t : State) → wish_act t r (wish_in now q) ≡ post_act t w (hop_of t r)
  unfolding wish_act
  posts_act (request.Post v target draft) e t = ap (λ n. post_act t n (hop_of t r)) (same_Some v w e)
  posts_act (request.Send v target draft) e t = ap (λ n. post_act t n (hop_of t r)) (same_Some v w e)
  posts_act (request.Forward v target) e t = ap (λ n. post_act t n (hop_of t r)) (same_Some v w e)
  posts_act (request.Note text) e t = absurd (cc)
  posts_act (request.Reply draft) e t = absurd (cc)
  posts_act request.Claim e t = absurd (cc)
  posts_act (request.Lock v) e t = absurd (cc)
  posts_act request.Unlock e t = absurd (cc)
  posts_act request.Flush e t = absurd (cc)
  posts_act request.SyncDone e t = absurd (cc)
  posts_act (request.Draw command) e t = absurd (cc)

  pub posts_parts : (q : Request) → post_window q ≡ Some w → (x : Seen) → parts_for x r (wish_in now q) ≡ part.port w ∷ []
  posts_parts (request.Post v target draft) e x = ap (λ n. part.port n ∷ []) (same_Some v w e)
  posts_parts (request.Send v target draft) e x = ap (λ n. part.port n ∷ []) (same_Some v w e)
  posts_parts (request.Forward v target) e x = ap (λ n. part.port n ∷ []) (same_Some v w e)
  posts_parts (request.Note text) e x = absurd (cc)
  posts_parts (request.Reply draft) e x = absurd (cc)
  posts_parts request.Claim e x = absurd (cc)
  posts_parts (request.Lock v) e x = absurd (cc)
  posts_parts request.Unlock e x = absurd (cc)
  posts_parts request.Flush e x = absurd (cc)
  posts_parts request.SyncDone e x = absurd (cc)
  posts_parts (request.Draw command) e x = absurd (cc)

judged_by : AnswersAsPort → (slice : Slice) (q : Queue) (w hop : ℕ) → PortIs slice q → option_map (λ (p : Port Message). act.Post w (judged p hop)) (port_in slice) ≡ Some (act.Post w (answer q hop))
judged_by answers (port v (Some p)) q w hop stands = ap (λ a. Some (act.Post w a)) (sym (answers q p stands hop))
judged_by answers (port v None) q w hop stands = absurd stands
judged_by answers (desk x) q w hop stands = absurd stands
judged_by answers (input k b) q w hop stands = absurd stands
judged_by answers (cell m a) q w hop stands = absurd stands
judged_by answers (looper v l b) q w hop stands = absurd stands
judged_by answers (link v l) q w hop stands = absurd stands
judged_by answers (pane v x) q w hop stands = absurd stands

-- the runner's own part is in hand
pub own_held : (d : Declared) (held : List (ℕ × Slice)) (all : List Slice) (r : Runner) → OwnHeld d held all (machine.runner (runner_in r)) → IsHeld held (place_of d (own_part (runner_in r)))
own_held d held all (by.App m) h = h.0
own_held d held all (by.Looper w) h = h

-- ---- what is answered

module _ (d : Declared) (inhand : List (ℕ × parts.Part)) (a : ℕ) (r : Runner) (q : Request) (w : ℕ) (asked : IsAsked d inhand a (who.Runner r) (want.Asks r q)) (window : post_window q ≡ Some w) where
  abbrev now : State
  now = s d inhand a _ _ asked

  abbrev message : Option Message
  message = message_of now (machine.runner (runner_in r))

  abbrev wanted : wants.Want
  wanted = wants.asks (runner_in r) (wish_in message q)

  among : (x : Seen) → IsAmong (part.port w) (parts_by x wanted)
  among x = inr (subst (IsAmong (part.port w)) (sym (posts_parts (runner_in r) message w q window x)) (inl refl))

  pub reach_own : IsReachable d inhand (own_part (runner_in r))
  reach_own = reach d inhand a _ _ asked (own_part (runner_in r)) (inl refl)

  pub needs_own_part : (place : ℕ) → IsMissing d inhand (own_part (runner_in r)) place → NeedsPart d (meant meaning_of inhand) a place
  needs_own_part place gone = missing d inhand a _ _ asked (own_part (runner_in r)) place gone (inl refl)

  pub reach_port : IsReachable d inhand (part.port w)
  reach_port = reach d inhand a _ _ asked (part.port w) (among (seen_in now))

  pub needs_port : (place : ℕ) → IsMissing d inhand (part.port w) place → NeedsPart d (meant meaning_of inhand) a place
  needs_port place gone = missing d inhand a _ _ asked (part.port w) place gone (among (in_hand d (meant meaning_of inhand)))

  module _ (k : Slice) (at : part_at inhand (place_of d (part.port w)) ≡ Some (kinds.Port k)) (queue : Queue) (stands : PortIs k queue) where
    pub few_arrived : queue.last ≤ 2 * 4611686018427387904
    few_arrived = small_port 4611686018427387904 k queue (small 4611686018427387904 inhand (place_of d (part.port w)) (kinds.Port k) asked.small at) stands

    there : (p : part.Part) → IsAmong p (parts_by (seen_in now) wanted) → IsHeld (meant meaning_of inhand) (place_of d p)
    there p (inl is) = subst (λ x. IsHeld (meant meaning_of inhand) (place_of d x)) (sym is) (own_held d (meant meaning_of inhand) asked.fitting.0 r (own d inhand a _ _ asked))
    there p (inr later) = at_port (subst (IsAmong p) (posts_parts (runner_in r) message w q window (seen_in now)) later)
      where
        at_port : IsAmong p (part.port w ∷ []) → IsHeld (meant meaning_of inhand) (place_of d p)
        at_port (inl is) = subst (λ x. IsHeld (meant meaning_of inhand) (place_of d x)) (sym is) (here d inhand a _ _ asked (part.port w) (kinds.Port k) at)
        at_port (inr nobody) = absurd nobody

    acts : AnswersAsPort → (hop : ℕ) → IsSameHop hop (hop_of now (runner_in r)) → want_act d now wanted ≡ Some (act.Post w (answer queue hop))
    unfolding want_act
    acts answers hop same =
        posts_act (runner_in r) message w q window now
        ∙ ap (option_map (λ (p : Port Message). act.Post w (judged p (hop_of now (runner_in r))))) (port_is d inhand a _ _ asked w (kinds.Port k) reach_port.there at)
        ∙ same_judged (port_in k)
        ∙ judged_by answers k queue w hop stands
      where
        same_judged : (o : Option (Port Message)) → option_map (λ (p : Port Message). act.Post w (judged p (hop_of now (runner_in r)))) o ≡ option_map (λ (p : Port Message). act.Post w (judged p hop)) o
        same_judged (Some p) = ap (λ x. Some (act.Post w x)) (sym (same_answer p hop (hop_of now (runner_in r)) same))
        same_judged None = refl

    pub posts : AnswersAsPort → (hop : ℕ) → HasHop d inhand r hop → MayAct d (meant meaning_of inhand) a (act.Post w (answer queue hop))
    posts answers hop has =
        may d inhand a _ _ asked (act.Post w (answer queue hop)) (λ p far. absurd far) there
        (acts answers hop (subst (λ (t : State). IsSameHop hop (hop_of t (runner_in r))) (back d asked.fitting.0 (sound d inhand a _ _ asked)) (has asked.fitting.0 (sound d inhand a _ _ asked) (fits d inhand a _ _ asked))))

-- ---- notes

module _ (d : Declared) (inhand : List (ℕ × parts.Part)) (a : ℕ) (r : Runner) (text : Bor Text) (asked : IsAsked d inhand a (who.Runner r) (want.Asks r (request.Note text))) where
  alone : (p : part.Part) → IsAmong p (parts_by (seen_in (s d inhand a _ _ asked)) (wants.asks (runner_in r) (wish.Note text.now))) → IsHeld (meant meaning_of inhand) (place_of d p)
  alone p (inl is) = subst (λ x. IsHeld (meant meaning_of inhand) (place_of d x)) (sym is) (own_held d (meant meaning_of inhand) asked.fitting.0 r (own d inhand a _ _ asked))
  alone p (inr nobody) = absurd nobody

  noted : want_act d (s d inhand a _ _ asked) (wants.asks (runner_in r) (wish.Note text.now)) ≡ Some (act.Note text.now)
  unfolding want_act wish_act
  noted = refl

  pub notes : MayAct d (meant meaning_of inhand) a (act.Note text.now)
  notes = may d inhand a _ _ asked (act.Note text.now) (λ p far. absurd far) alone noted
