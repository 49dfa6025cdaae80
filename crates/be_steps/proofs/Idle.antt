-- An application that sends waits for nothing.
use Rattle.std.proofs.Common.{◌≡◌, ℕ, false, List, Option, Some, None, refl, sym, ap, ◌∙◌}
use Rattle.std.specs.Borrow.{Bor}
use Rattle.std.specs.Option.{option_map_or}
use Rattle.std.specs.Prelude.{option_map, slice_get}
use Rattle.be_actor.specs.Drafts.{DraftWords, filled}
use Rattle.be_asking.specs.Wants.{runner_in}
use Rattle.be_asking.specs.declared.activity.Activity.TheVariants as who
use Rattle.be_asking.specs.declared.activity.Runner.{Runner}
use Rattle.be_asking.specs.declared.activity.Runner.TheVariants.{App, Looper}
use Rattle.be_asking.specs.declared.want.Request.{Request}
use Rattle.be_asking.specs.declared.want.Request.TheVariants as request
use Rattle.be_asking.specs.declared.want.Want.TheVariants as want
use Rattle.be_machine.specs.KeptLimits.{CellsAreIdleAtSends}
use Rattle.be_machine.specs.State.{App as Application, State}
use Rattle.be_machine.specs.Touched.{own_part}
use Rattle.be_message.specs.declared.target.Target.{Target}
use Rattle.be_parts.specs.Cells.{is_waiting}
use Rattle.be_parts.specs.declared.part.Part.{Part}
use Rattle.be_reply.specs.Cells as reply
use Rattle.be_rules.specs.Slices.{cell, slice_of}
use Rattle.be_script.specs.Script.{Declared}
use Rattle.be_steps.proofs.Gone.{own_is}
use Rattle.be_steps.proofs.Making.{now, so, wanted_now}
use Rattle.be_steps.specs.Idle.{IsIdleAtSend}
use Rattle.be_steps.specs.Steps.{IsAllowed}

not_waiting : (m : ℕ) (o : Option Application) → option_map (λ (a : Application). a.cell) o ≡ Some reply.idle → is_waiting (cell m o) ≡ false
not_waiting m (Some a) idle = ap (λ (c : Option reply.Cell). option_map_or reply.waits c false) idle
not_waiting m None idle = absurd (cc)

module _ (d : Declared) (parts : List (ℕ × Part)) where
  idle_by : (runner : Runner) (w : ℕ) (target : Target) (draft : Bor DraftWords) (allowed : IsAllowed d parts (who.Runner runner) (want.Asks runner (request.Send w target draft))) → CellsAreIdleAtSends
      → is_waiting (slice_of (now d parts (who.Runner runner) (want.Asks runner (request.Send w target draft)) allowed) (own_part (runner_in runner))) ≡ false
  idle_by (App m) w target draft allowed law =
      let s : State = now d parts (who.Runner (App m)) (want.Asks (App m) (request.Send w target draft)) allowed in
      let sound = so d parts (who.Runner (App m)) (want.Asks (App m) (request.Send w target draft)) allowed in
      not_waiting m (slice_get s.apps m) (law d sound.history m w target (filled draft.now None) sound.limits sound.legal (wanted_now d parts (who.Runner (App m)) (want.Asks (App m) (request.Send w target draft)) allowed))
  idle_by (Looper v) w target draft allowed law = refl

  pub idle_at_send : (runner : Runner) (q : Request) → IsAllowed d parts (who.Runner runner) (want.Asks runner q) → CellsAreIdleAtSends → IsIdleAtSend d parts runner q
  idle_at_send runner (request.Send w target draft) allowed law = λ k at. ap is_waiting (sym (own_is d parts runner (request.Send w target draft) allowed k at)) ∙ idle_by runner w target draft allowed law
  idle_at_send runner (request.Note text) allowed law = tt
  idle_at_send runner (request.Post w target draft) allowed law = tt
  idle_at_send runner (request.Forward w target) allowed law = tt
  idle_at_send runner (request.Reply draft) allowed law = tt
  idle_at_send runner request.Claim allowed law = tt
  idle_at_send runner (request.Lock w) allowed law = tt
  idle_at_send runner request.Unlock allowed law = tt
  idle_at_send runner request.Flush allowed law = tt
  idle_at_send runner request.SyncDone allowed law = tt
  idle_at_send runner (request.Draw command) allowed law = tt
