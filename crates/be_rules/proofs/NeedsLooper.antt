-- An application at an instruction that reads its buffer touches the looper that it has locked, however full the buffer is.
use Rattle.std.proofs.Common.{◌≡◌, ℕ, Bool, true, false, List, ◌++◌, Some, None, inl, inr, refl, sym, ap, subst, ◌∙◌}
use Rattle.std.specs.Prelude.{◌==◌, slice_get, option_map, option_and_then, if◌then◌else◌}
use Rattle.be_actor.specs.declared.Instruction.{Instruction}
use Rattle.be_actor.specs.declared.Instruction.TheVariants.{Note, Post, Send, Reply, Forward, Lock, Unlock, Flush, Sync, Draw}
use Rattle.be_actor.specs.declared.Wish.{Wish}
use Rattle.be_actor.specs.declared.Wish.TheVariants as wish
use Rattle.be_actor.specs.Wishes.{wish_at, has_no_room}
use Rattle.be_command.specs.declared.Command.{Command}
use Rattle.be_hall.specs.Machine.{Fits, IsHeld}
use Rattle.be_script.specs.Script.{Declared}
use Rattle.be_machine.specs.Activities.{runner, app, activity_of}
use Rattle.be_machine.specs.Program.{lock_of}
use Rattle.be_machine.specs.State.{State, App}
use Rattle.be_machine.specs.Step.{step}
use Rattle.be_machine.specs.Touched as part
use Rattle.be_machine.specs.Wants.{Want, asks, want_of}
use Rattle.be_machine.proofs.ProgressAfter.{IsSettled, settled_after}
use Rattle.be_rules.specs.Found.{NeedsPart}
use Rattle.be_rules.specs.Own.{reads_buffer, step_of}
use Rattle.be_rules.specs.Places.{place_of, IsPart}
use Rattle.be_rules.specs.Rules.{IsSound, TouchesPlace}
use Rattle.be_rules.specs.Slices.{Slice}
use Rattle.be_rules.specs.Sure.{Seen, seen_in, maybe, parts_by, IsAmong}
use Rattle.be_rules.proofs.Everywhere.{same_in_hand}
use Rattle.be_rules.proofs.Lawfully.{state, back}
use Rattle.be_rules.proofs.Local.{at_place}
use Rattle.be_rules.proofs.SureParts.{sure, to_maybe}
use Rattle.be_rules.proofs.WantBy.{lock_is, count_in, app_want_is}

either_wish : (x : Seen) (m w : ℕ) (b : Bool) (y z : Wish) → IsAmong (part.looper w) (parts_by x (asks (app m) y)) → IsAmong (part.looper w) (parts_by x (asks (app m) z)) → IsAmong (part.looper w) (parts_by x (asks (app m) (if b then y else z)))
either_wish x m w true y z h k = h
either_wish x m w false y z h k = k

module _ (x : Seen) (m w : ℕ) (is : x.lock m ≡ Some w) where
  unlocks : IsAmong (part.looper w) (parts_by x (asks (app m) wish.Unlock))
  unlocks = inr (to_maybe part.looper (x.lock m) (part.looper w) (subst (λ o. part.IsOf part.looper o (part.looper w)) (sym is) refl))

  flushes : IsAmong (part.looper w) (parts_by x (asks (app m) wish.Flush))
  flushes = inr (subst (λ o. IsAmong (part.looper w) (maybe part.looper o ++ maybe part.link o)) (sym is) (inl refl))

  draws : (command : Command) → IsAmong (part.looper w) (parts_by x (asks (app m) (wish.Draw command)))
  draws command = inr (to_maybe part.looper (x.lock m) (part.looper w) (subst (λ o. part.IsOf part.looper o (part.looper w)) (sym is) refl))

  reads_it : (p n : ℕ) (i : Instruction) → reads_buffer (Some i) ≡ true → IsAmong (part.looper w) (parts_by x (asks (app m) (wish_at p None n i)))
  reads_it p n Unlock e = either_wish x m w (n == 0) wish.Unlock wish.Flush unlocks flushes
  reads_it p n (Draw command) e = either_wish x m w (has_no_room n) wish.Flush (wish.Draw command) flushes (draws command)
  reads_it p n (Note word) e = absurd (cc)
  reads_it p n (Post v target draft) e = absurd (cc)
  reads_it p n (Send v target draft) e = absurd (cc)
  reads_it p n (Reply draft) e = absurd (cc)
  reads_it p n (Forward v target) e = absurd (cc)
  reads_it p n (Lock v) e = absurd (cc)
  reads_it p n Flush e = absurd (cc)
  reads_it p n Sync e = absurd (cc)

-- with its cell in hand, and the looper not
pub needs_looper : (d : Declared) (held : List (ℕ × Slice)) (all : List Slice) (sound : IsSound d all) → Fits all held → (k m w : ℕ) (a : App) (i : Instruction) → activity_of d k ≡ Some (runner (app m)) → IsHeld held (place_of d (part.cell m)) → slice_get (state d all sound).apps m ≡ Some a → step_of d m a ≡ Some i → reads_buffer (Some i) ≡ true → lock_of d m a ≡ Some w → IsPart d (part.looper w) → (IsHeld held (place_of d (part.looper w)) → ⊥) → NeedsPart d held k (place_of d (part.looper w))
needs_looper d held all sound fits k m w a i number own read next reads lock there out = (
  out,
  λ e by other sound' fits'.
      let r : State = state d other sound' in
      let again : slice_get r.apps m ≡ Some a = same_in_hand d held all other sound sound' fits fits' (part.cell m) own ∙ read in
      let settled : IsSettled d r = settled_after d sound'.history sound'.limits sound'.legal in
      let want : Want = asks (app m) (wish_at a.place.part None (count_in r (lock_of d m a)) i) in
      let wants : want_of d r (runner (app m)) ≡ Some want = app_want_is d r m a settled.locks again ∙ ap (λ o. option_map (asks (app m)) (option_map (wish_at a.place.part None (count_in r (lock_of d m a))) o)) next in
      let among : IsAmong (part.looper w) (parts_by (seen_in r) want) = reads_it (seen_in r) m w (lock_is d r m a settled.locks again ∙ lock) a.place.part (count_in r (lock_of d m a)) i reads in
      inr (subst (λ t. TouchesPlace d t e (place_of d (part.looper w))) (sym (back d other sound')) (record {
        part = part.looper w;
        there = at_place d (part.looper w) there;
        want = want;
        wanted = ap (λ n. option_and_then (want_of d r) (activity_of d n)) by ∙ ap (option_and_then (want_of d r)) number ∙ wants;
        touched = sure r (step d r e) want (part.looper w) among;
      })),
)
