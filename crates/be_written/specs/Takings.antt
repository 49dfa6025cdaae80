-- What the code has of a runner and of a letter that it took (this project's own).
use Rattle.std.specs.Prelude.{◌≡◌}
use Rattle.be_looper.specs.Duties.{Hand}
use Rattle.be_message.specs.Messages.{Message}
use Rattle.be_machine.specs.Activities.{Runner, app, looper}
use Rattle.be_written.specs.declared.runner.Runner as declared
use Rattle.be_written.specs.declared.runner.Runner.TheVariants as runner
use Rattle.be_written.specs.declared.taken.Taken.{Taken}
use Rattle.be_written.specs.Spelt.{IsSaid}

abbrev pub runner_of : declared.Runner → Runner
runner_of (runner.App m) = app m
runner_of (runner.Looper w) = looper w

-- it tells of the letter in hand; of the duty to reply it tells nothing
pub record Tells (taken : Taken) (hand : Hand Message) : Type 0 where
  pub sender : hand.letter.sender ≡ taken.sender
  pub hop : hand.letter.hop ≡ taken.hop
  pub target : hand.letter.target ≡ taken.target
  pub route : hand.route ≡ taken.route
  pub message : IsSaid taken.message hand.letter.body
