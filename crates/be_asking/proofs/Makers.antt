-- Whose each want is.
use Rattle.std.proofs.Common.{◌≡◌, ℕ, List, Option, refl, sym, ap, ◌∙◌, subst}
use Rattle.be_machine.specs.Activities as machine
use Rattle.be_machine.proofs.LegalEntries.{maker, maker_is}
use Rattle.be_message.specs.Messages.{Message}
use Rattle.be_parts.specs.declared.part.Part.{Part}
use Rattle.be_script.specs.Script.{Declared}
use Rattle.be_asking.specs.Deeds.{IsAsked}
use Rattle.be_asking.specs.Wants.{activity_in, message_of, runner_in, want_in}
use Rattle.be_asking.specs.declared.activity.Activity.{Activity}
use Rattle.be_asking.specs.declared.activity.Activity.TheVariants as who
use Rattle.be_asking.specs.declared.activity.Runner.{Runner}
use Rattle.be_asking.specs.declared.activity.Runner.TheVariants as by
use Rattle.be_asking.specs.declared.want.Want.{Want}
use Rattle.be_asking.specs.declared.want.Want.TheVariants as want
use Rattle.be_asking.proofs.Asked.{s, wanted}

-- who has the want
abbrev pub made_by : Want → Activity
made_by (want.Asks runner request) = who.Runner runner
made_by (want.Takes w) = who.Runner (by.Looper w)
made_by (want.Begins w) = who.Runner (by.Looper w)
made_by (want.Flushes w) = who.Runner (by.Looper w)
made_by (want.DrawsEnd w) = who.Runner (by.Looper w)
made_by (want.Ends w) = who.Runner (by.Looper w)
made_by (want.Notifies w) = who.Twin w
made_by (want.Executes w) = who.Twin w
made_by (want.Uses line) = who.Input
made_by want.Stops = who.Closing

-- ---- back from the machine's

abbrev runner_out : machine.Runner → Runner
runner_out (machine.app m) = by.App m
runner_out (machine.looper w) = by.Looper w

abbrev activity_out : machine.Activity → Activity
activity_out (machine.runner runner) = who.Runner (runner_out runner)
activity_out (machine.twin w) = who.Twin w
activity_out machine.input = who.Input
activity_out machine.closing = who.Closing

runner_back : (runner : Runner) → runner_out (runner_in runner) ≡ runner
runner_back (by.App m) = refl
runner_back (by.Looper w) = refl

activity_back : (it : Activity) → activity_out (activity_in it) ≡ it
activity_back (who.Runner runner) = ap who.Runner (runner_back runner)
activity_back (who.Twin w) = refl
activity_back who.Input = refl
activity_back who.Closing = refl

made_back : (now : Option Message) (it : Want) → activity_out (maker (want_in now it)) ≡ made_by it
made_back now (want.Asks runner request) = ap who.Runner (runner_back runner)
made_back now (want.Takes w) = refl
made_back now (want.Begins w) = refl
made_back now (want.Flushes w) = refl
made_back now (want.DrawsEnd w) = refl
made_back now (want.Ends w) = refl
made_back now (want.Notifies w) = refl
made_back now (want.Executes w) = refl
made_back now (want.Uses line) = refl
made_back now want.Stops = refl

module _ (d : Declared) (inhand : List (ℕ × Part)) (a : ℕ) (it : Activity) (wish : Want) (asked : IsAsked d inhand a it wish) where
  maker_told : it ≡ made_by wish
  maker_told =
      sym (activity_back it)
      ∙ ap activity_out (sym (maker_is d (s d inhand a it wish asked) (activity_in it) (want_in (message_of (s d inhand a it wish asked) (activity_in it)) wish) (wanted d inhand a it wish asked)))
      ∙ made_back (message_of (s d inhand a it wish asked) (activity_in it)) wish

  -- nobody but its maker asks for it
  pub asked_by : (other : Want) → wish ≡ other → IsAsked d inhand a (made_by other) other
  asked_by other is = subst (λ (x : Want). IsAsked d inhand a (made_by x) x) is (subst (λ (x : Activity). IsAsked d inhand a x wish) maker_told asked)
