-- The text of an entry by what its maker notes of it.
use Rattle.std.proofs.Common.{◌≡◌, List, [], Option, Some, None, refl, ap, ◌∙◌}
use Rattle.be_machine.specs.Activities.{Activity, Runner, activity_of, runner}
use Rattle.be_machine.specs.State.{State}
use Rattle.be_machine.specs.Traces.{Trace}
use Rattle.be_machine.specs.declared.Entry.{Entry}
use Rattle.be_script.specs.Script.{Declared}
use Rattle.be_written.specs.Notings.{entry_text, maker_trace, text_by}
use Rattle.be_written.specs.Runners.{runner_at, runner_in}
use Rattle.be_written.specs.TraceText.{noted_text}

none_by : (d : Declared) (o : Option Runner) → text_by d o [] ≡ []
none_by d (Some r) = refl
none_by d None = refl

module _ (d : Declared) (s : State) (e : Entry) where
  pub text_by_runner : (r : Runner) → activity_of d e.actor ≡ Some (runner r)
      → entry_text d s e ≡ noted_text d r (maker_trace d s e)
  text_by_runner r is =
      ap (λ (o : Option Activity). text_by d (runner_in o) (maker_trace d s e)) is

  pub no_text : maker_trace d s e ≡ [] → entry_text d s e ≡ []
  no_text none =
      ap (λ (traces : List Trace). text_by d (runner_at d e.actor) traces) none
      ∙ none_by d (runner_at d e.actor)
