-- What a runner's part is once the runner is past what it was granted.
use Rattle.std.proofs.Common.{◌≡◌, ℕ, Bool, true, false, List, Option, Some, None, refl, sym, ap, ◌∙◌}
use Rattle.std.specs.Prelude.{option_map, slice_get}
use Rattle.std.specs.Option.{option_map_or}
use Rattle.std.proofs.lemmas.Option.{same_Some}
use Rattle.be_actor.specs.declared.Place.{Place}
use Rattle.be_actor.specs.declared.Wish.{Wish}
use Rattle.be_asking.specs.Wants.{message_of, activity_in, runner_in, wish_in}
use Rattle.be_asking.specs.declared.activity.Activity.TheVariants as who
use Rattle.be_asking.specs.declared.activity.Runner.{Runner}
use Rattle.be_asking.specs.declared.activity.Runner.TheVariants.{App, Looper}
use Rattle.be_asking.specs.declared.want.Request.{Request}
use Rattle.be_asking.specs.declared.want.Want.TheVariants as want
use Rattle.std.specs.Borrow.{Bor}
use Rattle.be_actor.specs.Wishes.{first_place, place_after}
use Rattle.be_actor.specs.declared.Instruction.{Instruction}
use Rattle.be_link.specs.Queues.{Buffer}
use Rattle.be_looper.specs.Duties.{Hand}
use Rattle.be_machine.specs.Looper.{with_duty_by}
use Rattle.be_port.specs.declared.Duty.{Duty}
use Rattle.be_reply.specs.Cells as reply
use Rattle.be_machine.specs.Lists.{at}
use Rattle.be_machine.specs.Program.{app_gone_on, app_program, gone_on, looper_gone_on, moved_on, stage_gone_on}
use Rattle.be_machine.specs.State.{State, free, locked, handling, Stage, beginning}
use Rattle.be_machine.specs.Step.{granted, is_accepted_wish, met}
use Rattle.be_machine.specs.Touched.{own_part}
use Rattle.be_message.specs.Messages.{Message}
use Rattle.be_parts.specs.Effects.{app_at, app_told, app_with, buffer_with, looper_with}
use Rattle.be_parts.specs.Loopers.{at_place, hand_of, stage_in}
use Rattle.be_parts.specs.Stages.{stage_at}
use Rattle.be_parts.specs.declared.part.Part as parts
use Rattle.be_rules.specs.Slices.{Slice, app_in, looper_in, slice_of}
use Rattle.be_rules.specs.Slices as sl
use Rattle.be_script.specs.Script.{Declared}
use Rattle.be_steps.proofs.Making.{now, then_is}
use Rattle.be_looper.specs.Duties.{duty_after_forward}
use Rattle.be_machine.proofs.ReadsParts.{at_is}
use Rattle.be_asking.specs.declared.want.Request.TheVariants as request
use Rattle.be_steps.specs.Going.{IsPast, gone_past, gone_to, settled_in}
use Rattle.be_steps.specs.Steps.{IsAllowed}

-- ---- lists

-- the element that is changed
pub at_map : {X : Type 0} (xs : List X) (i : ℕ) (f : X → X) → slice_get (at xs i f) i ≡ option_map f (slice_get xs i)
at_map xs i f = at_is xs i f (slice_get xs i) refl

-- ---- places

-- the place behind an instruction that is lent
pub gone_by : (o : Option (Bor Instruction)) (place : Place) (accepted : Bool) (wish : Wish) (program : List Instruction) → option_map (λ x. x.now) o ≡ slice_get program place.step → option_map_or (λ x. place_after x.now place accepted wish) o place ≡ gone_on program accepted wish place
gone_by (Some x) place accepted wish program is = ap (λ p. option_map_or (λ instruction. place_after instruction place accepted wish) p place) is
gone_by None place accepted wish program is = ap (λ p. option_map_or (λ instruction. place_after instruction place accepted wish) p place) is

pub app_past : (d : Declared) (m : ℕ) (accepted : Bool) (wish : Wish) (slice : Slice) (old new : Place) → option_map (λ a. a.place) (app_in slice) ≡ Some old → new ≡ gone_on (app_program d m) accepted wish old → app_at new slice ≡ app_with (app_gone_on d m accepted wish) slice
app_past d m accepted wish (sl.cell n (Some a)) old new at is = let same : a.place ≡ old = same_Some a.place old at in ap (λ (p : Place). sl.cell n (Some (record a { place = p }))) (is ∙ ap (gone_on (app_program d m) accepted wish) (sym same))
app_past d m accepted wish (sl.cell n None) old new at is = refl
app_past d m accepted wish (sl.desk x) old new at is = refl
app_past d m accepted wish (sl.input k b) old new at is = refl
app_past d m accepted wish (sl.looper w l b) old new at is = refl
app_past d m accepted wish (sl.port w p) old new at is = refl
app_past d m accepted wish (sl.link w l) old new at is = refl
app_past d m accepted wish (sl.pane w p) old new at is = refl

pub looper_past : (d : Declared) (w : ℕ) (accepted : Bool) (wish : Wish) (slice : Slice) (new : Place) → ((hand : Hand Message) (stage : Stage) → hand_of slice ≡ Some hand → stage_in slice ≡ Some stage → stage_at new stage ≡ stage_gone_on d w accepted wish hand stage) → looper_with (at_place new) slice ≡ looper_with (looper_gone_on d w accepted wish) slice
looper_past d w accepted wish (sl.looper n (Some (handling hand stage)) b) new is = ap (λ (t : Stage). sl.looper n (Some (handling hand t)) b) (is hand stage refl refl)
looper_past d w accepted wish (sl.looper n (Some (locked m)) b) new is = refl
looper_past d w accepted wish (sl.looper n (Some free) b) new is = refl
looper_past d w accepted wish (sl.looper n None b) new is = refl
looper_past d w accepted wish (sl.cell n a) new is = refl
looper_past d w accepted wish (sl.desk x) new is = refl
looper_past d w accepted wish (sl.input k b) new is = refl
looper_past d w accepted wish (sl.port n p) new is = refl
looper_past d w accepted wish (sl.link n l) new is = refl
looper_past d w accepted wish (sl.pane n p) new is = refl

abbrev place_in : Slice → Place
place_in slice = option_map_or (λ a. a.place) (app_in slice) first_place

-- an application that waits, or waits no more, is where it was
pub past_told : (d : Declared) (m : ℕ) (f : reply.Cell → reply.Cell) (accepted : Bool) (wish : Wish) (slice : Slice) (place : Place) → IsPast d (App m) slice accepted wish place → IsPast d (App m) (app_told f slice) accepted wish place
past_told d m f accepted wish (sl.cell n (Some a)) place is = ap (λ (p : Place). sl.cell n (Some (record { place = p; cell = f a.cell }))) (ap place_in is)
past_told d m f accepted wish (sl.cell n None) place is = refl
past_told d m f accepted wish (sl.desk x) place is = refl
past_told d m f accepted wish (sl.input k b) place is = refl
past_told d m f accepted wish (sl.looper w l b) place is = refl
past_told d m f accepted wish (sl.port w p) place is = refl
past_told d m f accepted wish (sl.link w l) place is = refl
past_told d m f accepted wish (sl.pane w p) place is = refl

abbrev stage_or : Option Stage → Stage
stage_or (Some stage) = stage
stage_or None = beginning

-- so is a looper whose letter has another duty
pub past_handed : (d : Declared) (w : ℕ) (f : Duty → Duty) (accepted : Bool) (wish : Wish) (slice : Slice) (place : Place) → IsPast d (Looper w) slice accepted wish place → IsPast d (Looper w) (looper_with (with_duty_by f) slice) accepted wish place
past_handed d w f accepted wish (sl.looper n (Some (handling hand stage)) b) place is = ap (λ (t : Stage). sl.looper n (Some (handling (record hand { duty = f hand.duty }) t)) b) (ap (λ k. stage_or (stage_in k)) is)
past_handed d w f accepted wish (sl.looper n (Some (locked m)) b) place is = refl
past_handed d w f accepted wish (sl.looper n (Some free) b) place is = refl
past_handed d w f accepted wish (sl.looper n None b) place is = refl
past_handed d w f accepted wish (sl.cell n a) place is = refl
past_handed d w f accepted wish (sl.desk x) place is = refl
past_handed d w f accepted wish (sl.input k b) place is = refl
past_handed d w f accepted wish (sl.port n p) place is = refl
past_handed d w f accepted wish (sl.link n l) place is = refl
past_handed d w f accepted wish (sl.pane n p) place is = refl

-- and one with other commands in its buffer
pub past_buffered : (d : Declared) (w : ℕ) (f : Buffer → Buffer) (accepted : Bool) (wish : Wish) (slice : Slice) (place : Place) → IsPast d (Looper w) slice accepted wish place → IsPast d (Looper w) (buffer_with f slice) accepted wish place
past_buffered d w f accepted wish (sl.looper n l b) place is = ap (λ k. sl.looper n (looper_in k) (option_map f b)) is
past_buffered d w f accepted wish (sl.cell n a) place is = refl
past_buffered d w f accepted wish (sl.desk x) place is = refl
past_buffered d w f accepted wish (sl.input k b) place is = refl
past_buffered d w f accepted wish (sl.port n p) place is = refl
past_buffered d w f accepted wish (sl.link n l) place is = refl
past_buffered d w f accepted wish (sl.pane n p) place is = refl

-- and a runner whose post was answered
pub settled_past : (d : Declared) (r : Runner) (q : Request) (accepted : Bool) (wish : Wish) (slice : Slice) (place : Place) → IsPast d r slice accepted wish place → IsPast d r (settled_in q accepted r slice) accepted wish place
settled_past d (App m) (request.Send w target draft) true wish slice place is = past_told d m (λ _. reply.waiting) true wish slice place is
settled_past d (Looper v) (request.Send w target draft) true wish slice place is = is
settled_past d r (request.Send w target draft) false wish slice place is = is
settled_past d (App m) (request.Forward w target) true wish slice place is = is
settled_past d (Looper v) (request.Forward w target) true wish slice place is = past_handed d v duty_after_forward true wish slice place is
settled_past d r (request.Forward w target) false wish slice place is = is
settled_past d r (request.Post w target draft) accepted wish slice place is = is
settled_past d r (request.Note text) accepted wish slice place is = is
settled_past d r (request.Reply draft) accepted wish slice place is = is
settled_past d r request.Claim accepted wish slice place is = is
settled_past d r (request.Lock w) accepted wish slice place is = is
settled_past d r request.Unlock accepted wish slice place is = is
settled_past d r request.Flush accepted wish slice place is = is
settled_past d r request.SyncDone accepted wish slice place is = is
settled_past d r (request.Draw command) accepted wish slice place is = is

-- ---- in the machine

own_moved : (d : Declared) (runner : Runner) (accepted : Bool) (wish : Wish) (t : State) → slice_of (moved_on d (runner_in runner) accepted wish t) (own_part (runner_in runner)) ≡ gone_past d runner accepted wish (slice_of t (own_part (runner_in runner)))
unfolding moved_on
own_moved d (App m) accepted wish t = ap (sl.cell m) (at_map t.apps m (app_gone_on d m accepted wish))
own_moved d (Looper w) accepted wish t = ap (λ o. sl.looper w o (slice_get t.buffers w)) (at_map t.loopers w (looper_gone_on d w accepted wish))

module _ (d : Declared) (inhand : List (ℕ × parts.Part)) (runner : Runner) (request : Request) (allowed : IsAllowed d inhand (who.Runner runner) (want.Asks runner request)) where
  abbrev state : State
  state = now d inhand (who.Runner runner) (want.Asks runner request) allowed

  abbrev pub asks : Wish
  asks = wish_in (message_of state (activity_in (who.Runner runner))) request

  abbrev later : State
  later = then_is d inhand (who.Runner runner) (want.Asks runner request) allowed

  -- what was granted, before the runner goes on
  abbrev pub grant : State
  grant = granted state (runner_in runner) asks

  own_later : slice_of later (own_part (runner_in runner)) ≡ gone_past d runner (is_accepted_wish state (runner_in runner) asks) asks (slice_of grant (own_part (runner_in runner)))
  unfolding met
  own_later = own_moved d runner (is_accepted_wish state (runner_in runner) asks) asks grant

  -- the runner's part, which is so once what it asks for was granted, goes on to the place past that
  pub own_right : (mid is : Slice) (accepted : Bool) (place : Place) → slice_of grant (own_part (runner_in runner)) ≡ mid → is_accepted_wish state (runner_in runner) asks ≡ accepted → IsPast d runner mid accepted asks place → is ≡ gone_to runner place mid → slice_of later (own_part (runner_in runner)) ≡ is
  own_right mid is accepted place here test past made =
      own_later ∙ ap (λ b. gone_past d runner b asks (slice_of grant (own_part (runner_in runner)))) test ∙ ap (gone_past d runner accepted asks) here ∙ sym past ∙ sym made
