-- A letter that comes into a looper's hand.
use Rattle.std.proofs.Common.{◌≡◌, ℕ, ◌+◌, [], ◌∷◌, Option, Some, None, inl, inr, ⊎_elim, refl, sym, ap, ◌∙◌, subst}
use Rattle.std.specs.Prelude.{option_map, option_and_then, slice_get}
use Rattle.std.specs.Option.{option_map_or}
use Rattle.std.proofs.lemmas.Option.{same_Some}
use Rattle.be_asking.specs.declared.activity.Activity.TheVariants as who
use Rattle.be_asking.specs.declared.activity.Runner.TheVariants as by
use Rattle.be_asking.specs.declared.want.Want.TheVariants as want
use Rattle.be_hall.proofs.Holding.{with_other}
use Rattle.be_hall.specs.Hands.{Hand, part_at, with_part}
use Rattle.be_handler.specs.declared.Route.{Route}
use Rattle.be_looper.specs.Duties.{in_hand}
use Rattle.be_machine.specs.declared.Act.{Act}
use Rattle.be_machine.specs.declared.Act.TheVariants.{Take}
use Rattle.be_machine.specs.Legal.{want_act}
use Rattle.be_machine.specs.Lists.{with_both}
use Rattle.be_machine.specs.Port.{first_stage, letter_route, take_act, with_letter_in_hand}
use Rattle.be_machine.specs.State.{Looper, State, free, handling, locked}
use Rattle.be_machine.specs.Step.{met}
use Rattle.be_machine.specs.Touched as part
use Rattle.be_message.specs.Messages.{Message}
use Rattle.be_parts.specs.Effects.{looper_with}
use Rattle.be_parts.specs.Kept.{Kept, Logged}
use Rattle.be_parts.specs.Loopers.{begun_with}
use Rattle.be_parts.specs.Parts.{hand_with}
use Rattle.be_parts.specs.Ports.{HasTaken, IsFront}
use Rattle.be_parts.specs.Stages.{letter_of}
use Rattle.be_parts.specs.declared.part.Part.{Part}
use Rattle.be_parts.specs.declared.part.Part.TheVariants as kinds
use Rattle.be_port.specs.Ports.{Letter, Port, front, without_front}
use Rattle.be_port.specs.StandsFor.{LetterStandsFor}
use Rattle.be_port.specs.declared.letter.Letter as held
use Rattle.be_rules.proofs.Lawfully.{back}
use Rattle.be_rules.specs.Places.{place_of}
use Rattle.be_rules.specs.Slices.{Slice, looper, looper_in, port, port_in, slice_of}
use Rattle.be_script.specs.Script.{Declared}
use Rattle.be_steps.proofs.Apart.{apart}
use Rattle.be_steps.proofs.Leaving.{left_is}
use Rattle.be_steps.proofs.Making.{all, done, fits_now, granted_now, now, read, so, then_is, there}
use Rattle.be_steps.proofs.Moved.{at_map}
use Rattle.be_steps.specs.Steps.{IsAllowed, IsDone, LeavesAt}
use Rattle.be_steps.specs.Taking.{IsFrontMessage}
use Rattle.be_steps.specs.There.{IsThere}

-- a free looper, and a letter in front of its port
record CanTake (o : Option Looper) (q : Option (Port Message)) : Type 0 where
  is_free : o ≡ Some free
  of : Port Message
  port_is : q ≡ Some of
  first : Letter Message
  first_is : front of ≡ Some first

with_front : (p : Port Message) (o : Option (Letter Message)) (act : Act) → front p ≡ o → option_map (λ letter. Take (p.taken + 1)) o ≡ Some act → CanTake (Some free) (Some p)
with_front p (Some first) act is e = record { is_free = refl; of = p; port_is = refl; first = first; first_is = is }
with_front p None act is e = absurd (cc)

can_take : (o : Option Looper) (q : Option (Port Message)) (act : Act) → with_both take_act o q ≡ Some act → CanTake o q
can_take (Some free) (Some p) act e = with_front p (front p) act refl e
can_take (Some free) None act e = absurd (cc)
can_take (Some (locked m)) (Some p) act e = absurd (cc)
can_take (Some (locked m)) None act e = absurd (cc)
can_take (Some (handling hand stage)) (Some p) act e = absurd (cc)
can_take (Some (handling hand stage)) None act e = absurd (cc)
can_take None (Some p) act e = absurd (cc)
can_take None None act e = absurd (cc)

-- the letter in hand is the machine's
same_letter : (l : held.Letter) (m : Letter Message) (message : Message) → LetterStandsFor l m → m.body ≡ message → letter_of l message l.duty ≡ m
same_letter l m message stands is = λ i. record {
  sender = stands.carried.sender i;
  target = stands.carried.target i;
  hop = stands.carried.hop i;
  duty = stands.carried.duty i;
  notice = stands.notice i;
  body = sym is i;
}

module _ (d : Declared) (old : Hand Part) (w : ℕ) (allowed : IsAllowed d old.parts (who.Runner (by.Looper w)) (want.Takes w)) where
  abbrev s : State
  s = now d old.parts (who.Runner (by.Looper w)) (want.Takes w) allowed

  abbrev later : State
  later = then_is d old.parts (who.Runner (by.Looper w)) (want.Takes w) allowed

  pub looper_there : IsThere d old.parts (part.looper w)
  looper_there = there d old.parts (who.Runner (by.Looper w)) (want.Takes w) allowed (part.looper w) (inl refl)

  pub port_there : IsThere d old.parts (part.port w)
  port_there = there d old.parts (who.Runner (by.Looper w)) (want.Takes w) allowed (part.port w) (inr (inl refl))

  got : CanTake (slice_get s.loopers w) (slice_get s.ports w)
  unfolding want_act
  got = can_take (slice_get s.loopers w) (slice_get s.ports w) allowed.act (granted_now d old.parts (who.Runner (by.Looper w)) (want.Takes w) allowed)

  abbrev in_its_hand : Looper
  in_its_hand = handling (in_hand got.first (letter_route d w got.first)) (first_stage got.first)

  front_is : option_and_then front (slice_get s.ports w) ≡ Some got.first
  front_is = ap (option_and_then front) got.port_is ∙ got.first_is

  later_is : later ≡ with_letter_in_hand d s w got.first
  unfolding met
  later_is = ap (λ o. option_map_or (with_letter_in_hand d s w) o s) front_is

  port_later : slice_of later (part.port w) ≡ port w (Some (without_front got.of))
  port_later =
      ap (λ (t : State). slice_of t (part.port w)) later_is
      ∙ ap (port w) (at_map s.ports w without_front ∙ ap (option_map without_front) got.port_is)

  looper_later : slice_of later (part.looper w) ≡ looper w (Some in_its_hand) (slice_get s.buffers w)
  looper_later =
      ap (λ (t : State). slice_of t (part.looper w)) later_is
      ∙ ap (λ o. looper w o (slice_get s.buffers w)) (at_map s.loopers w (λ _. in_its_hand) ∙ ap (option_map (λ _. in_its_hand)) got.is_free)

  port_is : (k : Slice) → part_at old.parts (place_of d (part.port w)) ≡ Some (kinds.Port k) → k ≡ port w (Some got.of)
  port_is k at = sym (read d old.parts (who.Runner (by.Looper w)) (want.Takes w) allowed (part.port w) (kinds.Port k) port_there.reachable.there at) ∙ ap (port w) got.port_is

  looper_is : (k : Kept) → part_at old.parts (place_of d (part.looper w)) ≡ Some (kinds.Looper k) → k.slice ≡ looper w (Some free) (slice_get s.buffers w)
  looper_is k at =
      sym (read d old.parts (who.Runner (by.Looper w)) (want.Takes w) allowed (part.looper w) (kinds.Looper k) looper_there.reachable.there at)
      ∙ ap (λ o. looper w o (slice_get s.buffers w)) got.is_free

  places_differ : place_of d (part.looper w) ≡ place_of d (part.port w) → ⊥
  places_differ = apart d (part.looper w) (part.port w) looper_there.reachable.there port_there.reachable.there (λ e. absurd (cc))

  has_taken : (k v : Slice) → part_at old.parts (place_of d (part.port w)) ≡ Some (kinds.Port k) → LeavesAt d old.parts (who.Runner (by.Looper w)) (place_of d (part.port w)) v → HasTaken k v
  has_taken k v at leaves = record {
    window = w;
    of = got.of;
    first = got.first;
    is_first = got.first_is;
    before = port_is k at;
    after_is = left_is d old.parts (who.Runner (by.Looper w)) (want.Takes w) allowed (part.port w) port_there.reachable.there v leaves ∙ port_later;
  }

  -- the letter that was taken stands for the machine's
  stands : (k : Slice) (letter : held.Letter) → part_at old.parts (place_of d (part.port w)) ≡ Some (kinds.Port k) → IsFront letter k → LetterStandsFor letter got.first
  stands k letter at f =
      let same : f.1 ≡ got.of = same_Some f.1 got.of (ap port_in (sym f.3 ∙ port_is k at)) in
      let first : f.2 ≡ got.first = same_Some f.2 got.first (sym f.4 ∙ ap (λ (p : Port Message). front p) same ∙ got.first_is) in
      subst (LetterStandsFor letter) first f.5

  module _ (message : Message) (route : Route) (fronts : IsFrontMessage d old.parts w message route) where
    carried : (got.first.body ≡ message) × (letter_route d w got.first ≡ route)
    carried =
        subst (λ (t : State). (letter : Letter Message) → option_and_then front (slice_get t.ports w) ≡ Some letter → (letter.body ≡ message) × (letter_route d w letter ≡ route))
        (back d (all d old.parts (who.Runner (by.Looper w)) (want.Takes w) allowed) (so d old.parts (who.Runner (by.Looper w)) (want.Takes w) allowed))
        (fronts (all d old.parts (who.Runner (by.Looper w)) (want.Takes w) allowed) (so d old.parts (who.Runner (by.Looper w)) (want.Takes w) allowed) (fits_now d old.parts (who.Runner (by.Looper w)) (want.Takes w) allowed))
        got.first front_is

    begun : (letter : held.Letter) → LetterStandsFor letter got.first → begun_with letter message route free ≡ in_its_hand
    begun letter stand =
        ap (λ (m : Letter Message). handling (in_hand m route) (first_stage m)) (same_letter letter got.first message stand carried.0)
        ∙ ap (λ r. handling (in_hand got.first r) (first_stage got.first)) (sym carried.1)

    looper_right : (letter : held.Letter) (was is : Slice) → LetterStandsFor letter got.first → was ≡ looper w (Some free) (slice_get s.buffers w) → is ≡ looper_with (begun_with letter message route) was → slice_of later (part.looper w) ≡ is
    looper_right letter was is stand before made = looper_later ∙ ap (λ l. looper w (Some l) (slice_get s.buffers w)) (sym (begun letter stand)) ∙ ap (looper_with (begun_with letter message route)) (sym before) ∙ sym made

    -- ---- by the places that the code has

    module _ (pp : ℕ) (spot : pp ≡ place_of d (part.port w)) where
      at_port : (y : Part) → part_at old.parts pp ≡ Some y → part_at old.parts (place_of d (part.port w)) ≡ Some y
      at_port y at = ap (part_at old.parts) (sym spot) ∙ at

      told_here : (v : Slice) (b : Hand Part) → b ≡ old → LeavesAt d b.parts (who.Runner (by.Looper w)) pp v → LeavesAt d old.parts (who.Runner (by.Looper w)) (place_of d (part.port w)) v
      told_here v b is leaves = subst (λ n. LeavesAt d old.parts (who.Runner (by.Looper w)) n v) spot (subst (λ (h : Hand Part). LeavesAt d h.parts (who.Runner (by.Looper w)) pp v) is leaves)

      pub taken_next : (k v : Slice) (b : Hand Part) → b ≡ old → part_at old.parts pp ≡ Some (kinds.Port k) → LeavesAt d b.parts (who.Runner (by.Looper w)) pp v → HasTaken k v
      taken_next k v b is at leaves = has_taken k v (at_port (kinds.Port k) at) (told_here v b is leaves)

      module _ (lp : ℕ) (looper_spot : lp ≡ place_of d (part.looper w)) where
        -- the looper's part stays where the port is changed
        stays : (z : Slice) → part_at (with_part old.parts pp (kinds.Port z)) lp ≡ part_at old.parts (place_of d (part.looper w))
        stays z = ap (part_at (with_part old.parts pp (kinds.Port z))) looper_spot ∙ with_other old.parts pp (place_of d (part.looper w)) (kinds.Port z) (λ same. places_differ (same ∙ spot))

        pub looper_stays : (z : Slice) → ((k : Kept) × (part_at old.parts (place_of d (part.looper w)) ≡ Some (kinds.Looper k))) → (k : Kept) × (part_at (with_part old.parts pp (kinds.Port z)) lp ≡ Some (kinds.Looper k))
        looper_stays z has = (has.0, stays z ∙ has.1)

        pub still_free : (z : Slice) (k : Kept) → part_at (with_part old.parts pp (kinds.Port z)) lp ≡ Some (kinds.Looper k) → looper_in k.slice ≡ Some free
        still_free z k at = ap looper_in (looper_is k (sym (stays z) ∙ at))

        pub take_step : (k v z : Slice) (b : Hand Part) (letter : held.Letter) (was is : Kept) → b ≡ old → part_at old.parts pp ≡ Some (kinds.Port k) → LeavesAt d b.parts (who.Runner (by.Looper w)) pp v → z ≡ v
            → IsFront letter k → part_at (with_part old.parts pp (kinds.Port z)) lp ≡ Some (kinds.Looper was)
            → is.slice ≡ looper_with (begun_with letter message route) was.slice → is.log ≡ was.log
            → IsDone d (who.Runner (by.Looper w)) old (hand_with (hand_with old pp (kinds.Port z)) lp (kinds.Looper is))
        take_step k v z b letter was is copy at leaves same f looper_at slice log =
            let here = at_port (kinds.Port k) at in
            let told : LeavesAt d old.parts (who.Runner (by.Looper w)) (place_of d (part.port w)) z = told_here z b copy (subst (LeavesAt d b.parts (who.Runner (by.Looper w)) pp) (sym same) leaves) in
            done d old.parts (who.Runner (by.Looper w)) (want.Takes w) allowed old (hand_with (hand_with old pp (kinds.Port z)) lp (kinds.Looper is)) ((part.port w, kinds.Port z) ∷ (part.looper w, kinds.Looper is) ∷ [])
            refl refl (
              kinds.Port k,
              here,
              refl,
              (
                kinds.Looper was,
                ap (λ n. part_at (with_part old.parts n (kinds.Port z)) (place_of d (part.looper w))) (sym spot) ∙ ap (part_at (with_part old.parts pp (kinds.Port z))) (sym looper_spot) ∙ looper_at,
                ap (λ (l : Logged). Some l) log,
                ap (λ n. with_part (with_part old.parts pp (kinds.Port z)) n (kinds.Looper is)) looper_spot ∙ ap (λ n. with_part (with_part old.parts n (kinds.Port z)) (place_of d (part.looper w)) (kinds.Looper is)) spot,
              ),
            ) (
              inr (port_there.reachable.there, sym (left_is d old.parts (who.Runner (by.Looper w)) (want.Takes w) allowed (part.port w) port_there.reachable.there z told)),
              (
                inr (looper_there.reachable.there, looper_right letter was.slice is.slice (stands k letter here f) (looper_is was (sym (stays z) ∙ looper_at)) slice),
                tt,
              ),
            )
            (λ x touched. ⊎_elim (λ its. inr (inl its)) (λ its. inl its) touched)
