-- Commands that come into a window's buffer.
use Rattle.std.proofs.Common.{◌≡◌, ℕ, ◌<◌, ◌≤◌, false, [], ◌∷◌, Option, Some, inl, inr, ⊎_elim, refl, sym, ap, ◌∙◌, subst, arith}
use Rattle.std.specs.Borrow.{Bor}
use Rattle.std.specs.Prelude.{option_and_then, slice_get}
use Rattle.std.specs.Option.{option_map_or}
use Rattle.be_actor.specs.declared.Place.{Place}
use Rattle.be_asking.proofs.Small.{small}
use Rattle.be_asking.specs.Acts.{OwnsWindow}
use Rattle.be_asking.specs.Wants.{runner_in, wish_in}
use Rattle.be_asking.specs.declared.activity.Activity.TheVariants as who
use Rattle.be_asking.specs.declared.activity.Runner.{Runner}
use Rattle.be_asking.specs.declared.activity.Runner.TheVariants as by
use Rattle.be_asking.specs.declared.want.Request.TheVariants as request
use Rattle.be_asking.specs.declared.want.Want.TheVariants as want
use Rattle.be_command.specs.declared.Command.{Command}
use Rattle.be_command.specs.declared.Command.TheVariants.{EndUpdate}
use Rattle.be_hall.specs.Hands.{Hand, part_at, with_part}
use Rattle.be_link.specs.Queues.{is_full, with_command}
use Rattle.be_machine.specs.Commands.{draw_act, drawn}
use Rattle.be_machine.specs.Legal.{want_act, wish_act}
use Rattle.be_machine.specs.State.{State, ending}
use Rattle.be_machine.specs.Step.{granted, met}
use Rattle.be_machine.specs.Touched as part
use Rattle.be_machine.specs.Touched.{IsOf, own_part}
use Rattle.be_machine.specs.Update.{at_stage}
use Rattle.be_message.specs.Messages.{Message}
use Rattle.be_parts.specs.Effects.{buffer_with, looper_with}
use Rattle.be_parts.specs.Kept.{Kept, Logged}
use Rattle.be_parts.specs.Loopers.{buffer_of}
use Rattle.be_parts.specs.Parts.{hand_with}
use Rattle.be_parts.specs.declared.part.Part.{Part}
use Rattle.be_parts.specs.declared.part.Part.TheVariants as kinds
use Rattle.be_rules.specs.Places.{place_of}
use Rattle.be_rules.specs.Slices.{Slice, slice_of}
use Rattle.be_rules.specs.Slices as sl
use Rattle.be_rules.specs.Sure.{IsAmong, maybe}
use Rattle.be_script.specs.Script.{Declared}
use Rattle.be_steps.proofs.Buffered.{IsBuffered, few_made, looper_right, owns_still, room, runner_right}
use Rattle.be_steps.proofs.Gone.{own_made, own_there}
use Rattle.be_steps.proofs.Making.{done, granted_now, now, read, then_is, there}
use Rattle.be_steps.proofs.Moved.{at_map, grant}
use Rattle.be_steps.proofs.OwnWindow.{seen_now, window_now}
use Rattle.be_steps.specs.Going.{HasGone, HasOwn, IsPast, own_kind}
use Rattle.be_steps.specs.Steps.{IsAllowed, IsDone}
use Rattle.be_steps.specs.There.{IsThere}

-- ---- the end of an update

module _ (d : Declared) (old : Hand Part) (w : ℕ) (allowed : IsAllowed d old.parts (who.Runner (by.Looper w)) (want.DrawsEnd w)) where
  abbrev ends_at : State
  ends_at = now d old.parts (who.Runner (by.Looper w)) (want.DrawsEnd w) allowed

  pub end_there : IsThere d old.parts (part.looper w)
  end_there = there d old.parts (who.Runner (by.Looper w)) (want.DrawsEnd w) allowed (part.looper w) (inl refl)

  end_later : slice_of (then_is d old.parts (who.Runner (by.Looper w)) (want.DrawsEnd w) allowed) (part.looper w) ≡ looper_with (at_stage ending) (buffer_with (with_command EndUpdate) (slice_of ends_at (part.looper w)))
  unfolding met
  end_later = λ i. sl.looper w (at_map ends_at.loopers w (at_stage ending) i) (at_map ends_at.buffers w (with_command EndUpdate) i)

  module _ (p : ℕ) (spot : p ≡ place_of d (part.looper w)) (was : Kept) (at : part_at old.parts p ≡ Some (kinds.Looper was)) where
    end_here : part_at old.parts (place_of d (part.looper w)) ≡ Some (kinds.Looper was)
    end_here = ap (part_at old.parts) (sym spot) ∙ at

    end_read : slice_of ends_at (part.looper w) ≡ was.slice
    end_read = read d old.parts (who.Runner (by.Looper w)) (want.DrawsEnd w) allowed (part.looper w) (kinds.Looper was) end_there.reachable.there end_here

    end_act : draw_act ends_at w ≡ Some allowed.act
    unfolding want_act
    end_act = granted_now d old.parts (who.Runner (by.Looper w)) (want.DrawsEnd w) allowed

    pub end_room : is_full (buffer_of was.slice) ≡ false
    end_room = ap (λ x. is_full (buffer_of x)) (sym end_read) ∙ room w (slice_get ends_at.buffers w) allowed.act end_act

    pub end_number : (buffer_of was.slice).made < 18446744073709551615
    end_number =
        let few : (buffer_of was.slice).made ≤ 4611686018427387904 = few_made 4611686018427387904 was.slice (small 4611686018427387904 old.parts p (kinds.Looper was) allowed.asked.small at) in
        omega (arith, few)

    pub end_done : (is : Kept) → is.slice ≡ looper_with (at_stage ending) (buffer_with (with_command EndUpdate) was.slice) → is.log ≡ was.log → IsDone d (who.Runner (by.Looper w)) old (hand_with old p (kinds.Looper is))
    end_done is slice log =
        done d old.parts (who.Runner (by.Looper w)) (want.DrawsEnd w) allowed old (hand_with old p (kinds.Looper is)) ((part.looper w, kinds.Looper is) ∷ []) refl refl
        (kinds.Looper was, end_here, ap (λ (l : Logged). Some l) log, ap (λ n. with_part old.parts n (kinds.Looper is)) spot)
        (inr (end_there.reachable.there, end_later ∙ ap (λ x. looper_with (at_stage ending) (buffer_with (with_command EndUpdate) x)) end_read ∙ sym slice), tt)
        (λ x touched. inl touched)

-- ---- a command of a program

module _ (d : Declared) (old : Hand Part) (runner : Runner) (command : Bor Command) (allowed : IsAllowed d old.parts (who.Runner runner) (want.Asks runner (request.Draw command))) (w : ℕ) (owns : OwnsWindow d old.parts runner (Some w)) where
  abbrev draws_at : State
  draws_at = now d old.parts (who.Runner runner) (want.Asks runner (request.Draw command)) allowed

  abbrev own : part.Part
  own = own_part (runner_in runner)

  pub draw_there : IsThere d old.parts (part.looper w)
  draw_there = there d old.parts (who.Runner runner) (want.Asks runner (request.Draw command)) allowed (part.looper w)
      (inr (subst (λ o. IsAmong (part.looper w) (maybe part.looper o)) (sym (seen_now d old.parts runner (request.Draw command) allowed (Some w) owns)) (inl refl)))

  draw_granted : IsBuffered draws_at (grant d old.parts runner (request.Draw command) allowed) w (with_command command.now)
  unfolding granted
  draw_granted = subst (λ o. IsBuffered draws_at (option_map_or (λ n. drawn draws_at n command.now) o draws_at) w (with_command command.now))
      (sym (window_now d old.parts runner (request.Draw command) allowed (Some w) owns))
      (record { apps = refl; loopers = refl; buffers = refl })

  draw_act_is : draw_act draws_at w ≡ Some allowed.act
  unfolding want_act wish_act
  draw_act_is =
      sym (ap (option_and_then (draw_act draws_at)) (window_now d old.parts runner (request.Draw command) allowed (Some w) owns))
      ∙ granted_now d old.parts (who.Runner runner) (want.Asks runner (request.Draw command)) allowed

  module _ (p : ℕ) (spot : p ≡ place_of d (part.looper w)) (was : Kept) (at : part_at old.parts p ≡ Some (kinds.Looper was)) where
    draw_here : part_at old.parts (place_of d (part.looper w)) ≡ Some (kinds.Looper was)
    draw_here = ap (part_at old.parts) (sym spot) ∙ at

    pub draw_room : is_full (buffer_of was.slice) ≡ false
    draw_room =
        ap (λ x. is_full (buffer_of x)) (sym (read d old.parts (who.Runner runner) (want.Asks runner (request.Draw command)) allowed (part.looper w) (kinds.Looper was) draw_there.reachable.there draw_here))
        ∙ room w (slice_get draws_at.buffers w) allowed.act draw_act_is

    pub draw_number : (buffer_of was.slice).made < 18446744073709551615
    draw_number =
        let few : (buffer_of was.slice).made ≤ 4611686018427387904 = few_made 4611686018427387904 was.slice (small 4611686018427387904 old.parts p (kinds.Looper was) allowed.asked.small at) in
        omega (arith, few)

    module _ (copy : Command) (same : copy ≡ command.now) (is : Kept) (put : is.slice ≡ buffer_with (with_command copy) was.slice) where
      draw_slice : is.slice ≡ buffer_with (with_command command.now) was.slice
      draw_slice = put ∙ ap (λ c. buffer_with (with_command c) was.slice) same

      by_place : hand_with old p (kinds.Looper is) ≡ hand_with old (place_of d (part.looper w)) (kinds.Looper is)
      by_place = ap (λ n. hand_with old n (kinds.Looper is)) spot

      pub draw_own : HasOwn d old.parts runner → HasOwn d (with_part old.parts p (kinds.Looper is)) runner
      draw_own has = subst (λ n. HasOwn d (with_part old.parts n (kinds.Looper is)) runner) (sym spot)
          (owns_still d old.parts runner (request.Draw command) allowed w owns (with_command command.now) draw_granted refl was is draw_there.reachable.there draw_here draw_slice has)

      pub draw_done : is.log ≡ was.log → (place : Place) (new : Hand Part)
          → ((k : Kept) → part_at old.parts (place_of d own) ≡ Some (own_kind runner k) → (message : Option Message) → IsPast d runner k.slice false (wish_in message (request.Draw command)) place)
          → HasGone d runner place (hand_with old p (kinds.Looper is)) new → IsDone d (who.Runner runner) old new
      draw_done log place new past before =
          let gone : HasGone d runner place (hand_with old (place_of d (part.looper w)) (kinds.Looper is)) new = subst (λ (h : Hand Part). HasGone d runner place h new) by_place before in
          done d old.parts (who.Runner runner) (want.Asks runner (request.Draw command)) allowed old new ((part.looper w, kinds.Looper is) ∷ (own, own_kind runner gone.1) ∷ [])
          refl (ap (λ (h : Hand Part). h.room) gone.3)
          (kinds.Looper was, draw_here, ap (λ (l : Logged). Some l) log, own_made d runner (λ slice. slice) place (hand_with old (place_of d (part.looper w)) (kinds.Looper is)) new gone) (
            ⊎_elim (λ itself. inl (inl itself)) (λ right. inr (draw_there.reachable.there, right))
                (looper_right d old.parts runner (request.Draw command) allowed w owns (with_command command.now) draw_granted refl was is draw_there.reachable.there draw_here draw_slice),
            (
              inr (
                (own_there d old.parts runner (request.Draw command) allowed).reachable.there,
                runner_right d old.parts runner (request.Draw command) allowed w owns (with_command command.now) draw_granted refl was is draw_there.reachable.there draw_here draw_slice
                    (with_part old.parts (place_of d (part.looper w)) (kinds.Looper is)) place gone.0 gone.1 refl past gone.2 gone.4,
              ),
              tt,
            ),
          )
          (λ x touched. ⊎_elim (λ mine. inr (inl mine)) (λ other. inl (subst (λ o. IsOf part.looper o x) (window_now d old.parts runner (request.Draw command) allowed (Some w) owns) other)) touched)
