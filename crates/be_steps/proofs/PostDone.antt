-- A post as a step.
use Rattle.std.proofs.Common.{◌≡◌, ℕ, ◌*◌, ◌<◌, ◌≤◌, length, arith, Bool, false, List, [], ◌∷◌, Option, Some, inl, inr, ⊎_elim, refl, sym, ap, ◌∙◌, subst}
use Rattle.std.specs.Prelude.{Result, Ok, Err, is_ok, option_map, slice_get}
use Rattle.std.specs.Option.{option_map_or}
use Rattle.std.proofs.lemmas.Option.{same_Some}
use Rattle.be_actor.specs.declared.Place.{Place}
use Rattle.be_actor.specs.declared.Wish.{Wish}
use Rattle.be_asking.proofs.PostsAnswered.{posts_parts, same_answer}
use Rattle.be_asking.specs.Acts.{post_window}
use Rattle.be_asking.specs.Wants.{activity_in, message_of, runner_in, wish_in}
use Rattle.be_asking.specs.declared.activity.Activity.TheVariants as who
use Rattle.be_asking.specs.declared.activity.Runner.{Runner}
use Rattle.be_asking.specs.declared.activity.Runner.TheVariants.{App, Looper}
use Rattle.be_asking.specs.declared.want.Request.{Request}
use Rattle.be_asking.specs.declared.want.Request.TheVariants as request
use Rattle.be_asking.specs.declared.want.Want.TheVariants as want
use Rattle.be_hall.proofs.Holding.{with_other}
use Rattle.be_hall.specs.Hands.{Hand, part_at, with_part}
use Rattle.be_machine.proofs.Lists as lists
use Rattle.be_machine.specs.Activities as machine
use Rattle.be_machine.specs.Program.{hop_of, moved_on}
use Rattle.be_machine.specs.State.{State}
use Rattle.be_machine.specs.Step.{granted, is_accepted_wish, met}
use Rattle.be_machine.specs.Touched.{TouchesBy, own_part}
use Rattle.be_machine.specs.Touched as part
use Rattle.be_message.specs.Messages.{Message}
use Rattle.be_parts.specs.Kept.{Kept}
use Rattle.be_parts.specs.Parts.{hand_with}
use Rattle.be_parts.specs.Ports.{HasPosted, IsAnswered, letters_of}
use Rattle.be_parts.specs.declared.part.Part.{Part}
use Rattle.be_parts.specs.declared.part.Part.TheVariants as kinds
use Rattle.be_port.specs.Answers.{posted_as}
use Rattle.be_port.specs.Ports.{Letter, Port, is_accepted, judged, posted}
use Rattle.be_port.specs.declared.fault.PostFault.{PostFault}
use Rattle.be_port.specs.declared.fault.PostFault.TheVariants as post
use Rattle.be_port.specs.declared.letter.Letter as held
use Rattle.be_rules.proofs.Lawfully.{back}
use Rattle.be_rules.specs.Places.{place_of}
use Rattle.be_rules.specs.Slices.{Slice, port, slice_of}
use Rattle.be_rules.specs.Sure.{IsAmong, seen_in}
use Rattle.be_script.specs.Script.{Declared}
use Rattle.be_steps.proofs.Apart.{apart}
use Rattle.be_steps.proofs.Gone.{own_is, own_made, own_means, own_there}
use Rattle.be_steps.proofs.Leaving.{left_is}
use Rattle.be_steps.proofs.Making.{all, done, fits_now, now, read, settled_now, so, then_is, there}
use Rattle.be_steps.proofs.Moved.{asks, own_right, settled_past}
use Rattle.be_steps.proofs.Posted.{accepts, granted_own, granted_port, same_posted, wished_is}
use Rattle.be_asking.proofs.Small.{small}
use Rattle.be_rules.specs.Rules.{SliceFits}
use Rattle.be_steps.specs.Going.{HasGoneFrom, HasOwn, IsPast, own_kind, settled_in}
use Rattle.be_steps.specs.Idle.{IsIdleAtSend}
use Rattle.be_steps.specs.Letters.{IsWishedLetter, Stands, wished_letter}
use Rattle.be_steps.specs.Made.{AreMade}
use Rattle.be_steps.specs.Steps.{IsAllowed, IsDone, LeavesAt}
use Rattle.be_steps.specs.There.{IsThere}

-- ---- small things

own_not_port : (r : Runner) (w : ℕ) → own_part (runner_in r) ≡ part.port w → ⊥
own_not_port (App m) w e = absurd (cc)
own_not_port (Looper v) w e = absurd (cc)

moved_ports : (d : Declared) (r : Runner) (accepted : Bool) (wish : Wish) (t : State) → (moved_on d (runner_in r) accepted wish t).ports ≡ t.ports
unfolding moved_on
moved_ports d (App m) accepted wish t = refl
moved_ports d (Looper w) accepted wish t = refl

is_answered : (answer : Result ℕ PostFault) → is_ok answer ≡ is_accepted (posted_as answer)
is_answered (Ok n) = refl
is_answered (Err (post.BadPort letter)) = refl
is_answered (Err (post.TooDeep letter)) = refl
is_answered (Err (post.WouldBlock len letter)) = refl

touches_port : (s : State) (r : machine.Runner) (now : Option Message) (w : ℕ) (q : Request) (x : part.Part) → post_window q ≡ Some w → TouchesBy s r (wish_in now q) x → x ≡ part.port w
touches_port s r now w (request.Post v target draft) x window t = t ∙ ap part.port (same_Some v w window)
touches_port s r now w (request.Send v target draft) x window t = t ∙ ap part.port (same_Some v w window)
touches_port s r now w (request.Forward v target) x window t = t ∙ ap part.port (same_Some v w window)
touches_port s r now w (request.Note text) x window t = absurd (cc)
touches_port s r now w (request.Reply draft) x window t = absurd (cc)
touches_port s r now w request.Claim x window t = absurd (cc)
touches_port s r now w (request.Lock v) x window t = absurd (cc)
touches_port s r now w request.Unlock x window t = absurd (cc)
touches_port s r now w request.Flush x window t = absurd (cc)
touches_port s r now w request.SyncDone x window t = absurd (cc)
touches_port s r now w (request.Draw command) x window t = absurd (cc)

-- an application that waits for nothing, among other parts
idle_moved : (d : Declared) (parts others : List (ℕ × Part)) (r : Runner) → part_at others (place_of d (own_part (runner_in r))) ≡ part_at parts (place_of d (own_part (runner_in r))) → (q : Request) → IsIdleAtSend d parts r q → IsIdleAtSend d others r q
idle_moved d parts others r same (request.Send u target draft) idle = λ k at. idle k (sym same ∙ at)
idle_moved d parts others r same (request.Note text) idle = tt
idle_moved d parts others r same (request.Post u target draft) idle = tt
idle_moved d parts others r same (request.Forward u target) idle = tt
idle_moved d parts others r same (request.Reply draft) idle = tt
idle_moved d parts others r same request.Claim idle = tt
idle_moved d parts others r same (request.Lock u) idle = tt
idle_moved d parts others r same request.Unlock idle = tt
idle_moved d parts others r same request.Flush idle = tt
idle_moved d parts others r same request.SyncDone idle = tt
idle_moved d parts others r same (request.Draw command) idle = tt

-- ---- the step

module _ (d : Declared) (old : Hand Part) (runner : Runner) (request : Request) (w : ℕ) (allowed : IsAllowed d old.parts (who.Runner runner) (want.Asks runner request)) (window : post_window request ≡ Some w) where
  abbrev s : State
  s = now d old.parts (who.Runner runner) (want.Asks runner request) allowed

  abbrev message : Option Message
  message = message_of s (activity_in (who.Runner runner))

  abbrev wish : Wish
  wish = asks d old.parts runner request allowed

  abbrev later : State
  later = then_is d old.parts (who.Runner runner) (want.Asks runner request) allowed

  abbrev own : part.Part
  own = own_part (runner_in runner)

  abbrev accepted : Bool
  accepted = is_accepted_wish s (runner_in runner) wish

  pub port_there : IsThere d old.parts (part.port w)
  port_there = there d old.parts (who.Runner runner) (want.Asks runner request) allowed (part.port w) (inr (subst (IsAmong (part.port w)) (sym (posts_parts (runner_in runner) message w request window (seen_in s))) (inl refl)))

  got : lists.IsThere s.ports w
  got = lists.there s.ports w (subst (λ n. w < n) (sym (settled_now d old.parts (who.Runner runner) (want.Asks runner request) allowed).parts.ports) port_there.reachable.there)

  before : (k : Slice) → part_at old.parts (place_of d (part.port w)) ≡ Some (kinds.Port k) → k ≡ port w (Some got.element)
  before k at = sym (read d old.parts (who.Runner runner) (want.Asks runner request) allowed (part.port w) (kinds.Port k) port_there.reachable.there at) ∙ ap (port w) got.read

  module _ (letter : held.Letter) (wished : IsWishedLetter d old.parts runner request letter) where
    letter_is : (m : Letter Message) × (wished_letter s (runner_in runner) wish ≡ Some m) × Stands letter m
    letter_is =
        subst (λ (t : State). (m : Letter Message) × (wished_letter t (runner_in runner) (wish_in (message_of t (machine.runner (runner_in runner))) request) ≡ Some m) × Stands letter m)
        (back d (all d old.parts (who.Runner runner) (want.Asks runner request) allowed) (so d old.parts (who.Runner runner) (want.Asks runner request) allowed))
        (wished (all d old.parts (who.Runner runner) (want.Asks runner request) allowed) (so d old.parts (who.Runner runner) (want.Asks runner request) allowed) (fits_now d old.parts (who.Runner runner) (want.Asks runner request) allowed))

    abbrev m : Letter Message
    m = letter_is.0

    abbrev means : Letter Message
    means = record m { hop = letter.hop }

    port_later : slice_of later (part.port w) ≡ port w (Some (posted means got.element))
    unfolding met
    port_later = ap (port w) (
        ap (λ (ports : List (Port Message)). slice_get ports w) (moved_ports d runner accepted wish (granted s (runner_in runner) wish))
        ∙ granted_port s (runner_in runner) message w request m window letter_is.1
        ∙ ap (option_map (posted m)) got.read
        ∙ ap (λ (p : Port Message). Some p) (sym (same_posted m letter.hop got.element letter_is.2.hop)))

    -- what the port is told
    pub has_posted : (k v : Slice) → part_at old.parts (place_of d (part.port w)) ≡ Some (kinds.Port k) → LeavesAt d old.parts (who.Runner runner) (place_of d (part.port w)) v → HasPosted letter k v
    has_posted k v at leaves = record {
      window = w;
      of = got.element;
      means = means;
      carries = letter_is.2.carries;
      ordinary = (wished_is s (runner_in runner) message w request m window letter_is.1).0;
      before = before k at;
      after_is = left_is d old.parts (who.Runner runner) (want.Asks runner request) allowed (part.port w) port_there.reachable.there v leaves ∙ port_later;
    }

    -- its answer is the machine's
    pub accepted_is : (k : Slice) (answer : Result ℕ PostFault) → part_at old.parts (place_of d (part.port w)) ≡ Some (kinds.Port k) → IsAnswered letter.hop k answer → is_ok answer ≡ accepted
    accepted_is k answer at answered =
        is_answered answer
        ∙ ap is_accepted (answered w got.element (before k at) ∙ same_answer got.element letter.hop m.hop letter_is.2.hop ∙ ap (judged got.element) (wished_is s (runner_in runner) message w request m window letter_is.1).1)
        ∙ ap (λ o. option_map_or (λ (p : Port Message). is_accepted (judged p (hop_of s (runner_in runner)))) o false) (sym got.read)
        ∙ sym (accepts s (runner_in runner) message w request window)

    own_apart : place_of d own ≡ place_of d (part.port w) → ⊥
    own_apart = apart d own (part.port w) (own_there d old.parts runner request allowed).reachable.there port_there.reachable.there (own_not_port runner w)

    pub post_done : (k v : Slice) (ok : Bool) (place : Place) (mid new : Hand Part) → part_at old.parts (place_of d (part.port w)) ≡ Some (kinds.Port k) → LeavesAt d old.parts (who.Runner runner) (place_of d (part.port w)) v
        → ok ≡ accepted → mid ≡ hand_with old (place_of d (part.port w)) (kinds.Port v)
        → ((k : Kept) → part_at mid.parts (place_of d own) ≡ Some (own_kind runner k) → (now : Option Message) → IsPast d runner (settled_in request ok runner k.slice) ok (wish_in now request) place)
        → HasGoneFrom d runner (settled_in request ok runner) place mid new → IsDone d (who.Runner runner) old new
    post_done k v ok place mid new at leaves same is past gone =
        let own_at : part_at old.parts (place_of d own) ≡ Some (own_kind runner gone.0) = sym (with_other old.parts (place_of d (part.port w)) (place_of d own) (kinds.Port v) own_apart) ∙ ap (λ (h : Hand Part). part_at h.parts (place_of d own)) (sym is) ∙ gone.2 in
        done d old.parts (who.Runner runner) (want.Asks runner request) allowed old new ((part.port w, kinds.Port v) ∷ (own, own_kind runner gone.1) ∷ [])
        refl (ap (λ (h : Hand Part). h.room) gone.3 ∙ ap (λ (h : Hand Part). h.room) is)
        (kinds.Port k, at, refl, subst (λ (h : Hand Part). AreMade d ((own, own_kind runner gone.1) ∷ []) h.parts new.parts) is (own_made d runner (settled_in request ok runner) place mid new gone)) (
          inr (port_there.reachable.there, sym (left_is d old.parts (who.Runner runner) (want.Asks runner request) allowed (part.port w) port_there.reachable.there v leaves)),
          (
            inr (
              (own_there d old.parts runner request allowed).reachable.there,
              own_right d old.parts runner request allowed (settled_in request ok runner gone.0.slice) gone.1.slice ok place
                  (granted_own s runner message request w m window letter_is.1
                  ∙ ap (λ b. settled_in request b runner (slice_of s own)) (sym same)
                  ∙ ap (settled_in request ok runner) (own_is d old.parts runner request allowed gone.0 own_at))
                  (sym same) (past gone.0 gone.2 message) gone.4 ∙ sym (own_means runner gone.1),
            ),
            tt,
          ),
        )
        (λ x touched. ⊎_elim (λ here. inr (inl here)) (λ later. inl (touches_port s (runner_in runner) message w request x window later)) touched)

  -- ---- by the place that the code has

  module _ (letter : held.Letter) (wished : IsWishedLetter d old.parts runner request letter) (pp : ℕ) (spot : pp ≡ place_of d (part.port w)) where
    at_place : (y : Part) → part_at old.parts pp ≡ Some y → part_at old.parts (place_of d (part.port w)) ≡ Some y
    at_place y at = ap (part_at old.parts) (sym spot) ∙ at

    pub few_letters : (k : Slice) → part_at old.parts pp ≡ Some (kinds.Port k) → letters_of k < 18446744073709551615
    few_letters k at =
        let fits : SliceFits 4611686018427387904 k = small 4611686018427387904 old.parts pp (kinds.Port k) allowed.asked.small at in
        few_by k (before k (at_place (kinds.Port k) at)) fits
      where
        few_by : (k : Slice) → k ≡ port w (Some got.element) → SliceFits 4611686018427387904 k → letters_of k < 18446744073709551615
        few_by k is fits =
            let few : length got.element.arrived ≤ 2 * 4611686018427387904 = subst (SliceFits 4611686018427387904) is fits in
            subst (λ (x : Slice). letters_of x < 18446744073709551615) (sym is) (omega (arith, few))

    pub posted_next : (k v : Slice) (b : Hand Part) → b ≡ old → part_at old.parts pp ≡ Some (kinds.Port k) → LeavesAt d b.parts (who.Runner runner) pp v → HasPosted letter k v
    posted_next k v b is at leaves = has_posted letter wished k v (at_place (kinds.Port k) at) (subst (λ n. LeavesAt d old.parts (who.Runner runner) n v) spot (subst (λ (h : Hand Part). LeavesAt d h.parts (who.Runner runner) pp v) is leaves))

    -- the runner's part stays where the port is changed
    stays : (v : Slice) → part_at (with_part old.parts pp (kinds.Port v)) (place_of d own) ≡ part_at old.parts (place_of d own)
    stays v = with_other old.parts pp (place_of d own) (kinds.Port v) (λ same. own_apart letter wished (same ∙ spot))

    pub own_stays : (v : Slice) → HasOwn d old.parts runner → HasOwn d (with_part old.parts pp (kinds.Port v)) runner
    own_stays v has = (has.0, stays v ∙ has.1)

    pub idle_stays : (v : Slice) (q : Request) → IsIdleAtSend d old.parts runner q → IsIdleAtSend d (with_part old.parts pp (kinds.Port v)) runner q
    idle_stays v q idle = idle_moved d old.parts (with_part old.parts pp (kinds.Port v)) runner (stays v) q idle

    pub post_step : (k v z : Slice) (b : Hand Part) (answer : Result ℕ PostFault) (ok : Bool) (place : Place) (new : Hand Part) → b ≡ old → part_at old.parts pp ≡ Some (kinds.Port k) → LeavesAt d b.parts (who.Runner runner) pp v → z ≡ v
        → IsAnswered letter.hop k answer → ok ≡ is_ok answer
        → ((k : Kept) → part_at (with_part old.parts pp (kinds.Port z)) (place_of d own) ≡ Some (own_kind runner k) → (now : Option Message) → IsPast d runner k.slice ok (wish_in now request) place)
        → HasGoneFrom d runner (settled_in request ok runner) place (hand_with old pp (kinds.Port z)) new → IsDone d (who.Runner runner) old new
    post_step k v z b answer ok place new copy at leaves same answered okay past gone =
        let here = at_place (kinds.Port k) at in
        let told : LeavesAt d old.parts (who.Runner runner) (place_of d (part.port w)) z = subst (λ n. LeavesAt d old.parts (who.Runner runner) n z) spot (subst (λ (h : Hand Part). LeavesAt d h.parts (who.Runner runner) pp z) copy (subst (LeavesAt d b.parts (who.Runner runner) pp) (sym same) leaves)) in
        post_done letter wished k z ok place (hand_with old pp (kinds.Port z)) new here told (okay ∙ accepted_is letter wished k answer here answered) (ap (λ n. hand_with old n (kinds.Port z)) spot)
        (λ l there now. settled_past d runner request ok (wish_in now request) l.slice place (past l there now)) gone
