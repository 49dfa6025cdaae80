-- A legal entry: who made it, what was wanted, and that the want was met.
use Rattle.std.proofs.Common.{◌≡◌, ℕ, Option, Some, None, refl, sym, ap, ◌∙◌}
use Rattle.std.specs.Prelude.{slice_get, option_map, option_and_then, ◌==◌, Bool, true, false, if◌then◌else◌}
use Rattle.std.proofs.lemmas.Option.{same_Some}
use Rattle.std.specs.Option.{option_map_or}
use Rattle.be_actor.specs.declared.Wish.{Wish}
use Rattle.be_actor.specs.Wishes.{has_no_room}
use Rattle.be_looper.specs.Duties.{Hand}
use Rattle.be_message.specs.Messages.{Message}
use Rattle.be_script.specs.Script.{Declared}
use Rattle.be_machine.specs.Activities.{Runner, app, looper, Activity, runner, twin, input, closing, activity_of}
use Rattle.be_machine.specs.declared.Entry.{Entry}
use Rattle.be_machine.specs.Legal.{want_act, legal_act, IsLegal}
use Rattle.be_machine.specs.Program.{app_wish, body_wish, letter_program, update_program, buffered}
use Rattle.be_machine.specs.State.{State, Looper, free, locked, handling, Stage, in_body, beginning, in_update, ending}
use Rattle.be_machine.specs.Step.{met, step}
use Rattle.be_machine.specs.Update.{owes_notice}
use Rattle.be_machine.specs.Wants.{Want, asks, takes, begins, flushes, draws_end, ends, notifies, executes, uses, stops, asks_or, end_want, draw_end_want, stage_want, looper_want, twin_want, want_of}

pub record IsMet (d : Declared) (s : State) (e : Entry) : Type 0 where
  pub who : Activity
  pub want : Want
  pub numbered : activity_of d e.actor ≡ Some who
  pub wanted : want_of d s who ≡ Some want
  pub granted : want_act d s want ≡ Some e.act
  pub stepped : step d s e ≡ met d s want

met_want : (d : Declared) (s : State) (e : Entry) (who : Activity) (o : Option Want) → activity_of d e.actor ≡ Some who → want_of d s who ≡ o → option_and_then (want_act d s) o ≡ Some e.act → option_map_or (met d s) o s ≡ step d s e → IsMet d s e
met_want d s e who (Some want) numbered wanted h k = record { who = who; want = want; numbered = numbered; wanted = wanted; granted = h; stepped = sym k }
met_want d s e who None numbered wanted h k = cc

met_who : (d : Declared) (s : State) (e : Entry) (o : Option Activity) → activity_of d e.actor ≡ o → option_and_then (want_act d s) (option_and_then (want_of d s) o) ≡ Some e.act → option_map_or (met d s) (option_and_then (want_of d s) o) s ≡ step d s e → IsMet d s e
met_who d s e (Some who) numbered h k = met_want d s e who (want_of d s who) numbered refl h k
met_who d s e None numbered h k = cc

-- each legal entry meets the want of who made it
pub met_by : (d : Declared) (s : State) (e : Entry) → IsLegal d s e → IsMet d s e
unfolding legal_act step
met_by d s e legal = met_who d s e (activity_of d e.actor) refl legal refl

-- ---- whose a want is

-- who has the want
abbrev pub maker : Want → Activity
maker (asks who wish) = runner who
maker (takes w) = runner (looper w)
maker (begins w) = runner (looper w)
maker (flushes w) = runner (looper w)
maker (draws_end w) = runner (looper w)
maker (ends w) = runner (looper w)
maker (notifies w) = twin w
maker (executes w) = twin w
maker (uses line) = input
maker stops = closing

maker_if : (b : Bool) (x y : Want) (who : Activity) → maker x ≡ who → maker y ≡ who → maker (if b then x else y) ≡ who
maker_if true x y who h k = h
maker_if false x y who h k = k

maker_asks : (who : Runner) (o : Option Wish) (last : Want) → maker last ≡ runner who → maker (asks_or who o last) ≡ runner who
maker_asks who (Some wish) last h = refl
maker_asks who None last h = h

maker_end : (s : State) (w : ℕ) → maker (end_want s w) ≡ runner (looper w)
maker_end s w = maker_if (buffered s (looper w) == 0) (ends w) (flushes w) _ refl refl

maker_draw_end : (s : State) (w : ℕ) → maker (draw_end_want s w) ≡ runner (looper w)
maker_draw_end s w = maker_if (has_no_room (buffered s (looper w))) (flushes w) (draws_end w) _ refl refl

maker_stage : (d : Declared) (s : State) (w : ℕ) (hand : Hand Message) (g : Stage) → maker (stage_want d s w hand g) ≡ runner (looper w)
maker_stage d s w hand (in_body place) = maker_asks (looper w) (body_wish s w hand (letter_program d w hand) place) (end_want s w) (maker_end s w)
maker_stage d s w hand beginning = refl
maker_stage d s w hand (in_update views place) = maker_asks (looper w) (body_wish s w hand (update_program d w views) place) (draw_end_want s w) (maker_draw_end s w)
maker_stage d s w hand ending = maker_end s w

maker_looper : (d : Declared) (s : State) (w : ℕ) (l : Looper) → maker (looper_want d s w l) ≡ runner (looper w)
maker_looper d s w (handling hand g) = maker_stage d s w hand g
maker_looper d s w (locked m) = refl
maker_looper d s w free = refl

maker_found : {X : Type 0} (f : X → Want) (o : Option X) (who : Activity) (want : Want) → ((x : X) → maker (f x) ≡ who) → option_map f o ≡ Some want → maker want ≡ who
maker_found f (Some x) who want h e = ap maker (sym (same_Some (f x) want e)) ∙ h x
maker_found f None who want h e = cc

-- a want is that of the one who has it
pub maker_is : (d : Declared) (s : State) (who : Activity) (want : Want) → want_of d s who ≡ Some want → maker want ≡ who
unfolding want_of
maker_is d s (runner (app m)) want e = maker_found (asks (app m)) (app_wish d s m) _ want (λ _. refl) e
maker_is d s (runner (looper w)) want e = maker_found (looper_want d s w) (slice_get s.loopers w) _ want (maker_looper d s w) e
maker_is d s (twin w) want e = ap maker (sym (same_Some (twin_want s w) want e)) ∙ maker_if (owes_notice s w) (notifies w) (executes w) _ refl refl
maker_is d s input want e = maker_found uses (slice_get d.input s.events) _ want (λ _. refl) e
maker_is d s closing want e = ap maker (sym (same_Some stops want e))
