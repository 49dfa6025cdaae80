-- The runners of a script: the applications, and behind them the loopers (this project's own).
use Rattle.std.specs.Prelude.{ℕ, ◌<◌, ◌≤◌, length, Option, Some, None}
use Rattle.be_script.specs.Script.{Declared}
use Rattle.be_machine.specs.Activities.{Runner, app, looper, Activity, runner, twin, input, closing}
use Rattle.be_machine.specs.Activities.{activity_of}

-- as many windows and applications as a script may have, so that their activities can be numbered
pub record AreFew (d : Declared) : Type 0 where
  pub windows : length d.windows ≤ 32
  pub apps : length d.apps ≤ 16

-- it is one of the script's
abbrev pub IsRunner : Declared → Runner → Type 0
IsRunner d (app m) = m < length d.apps
IsRunner d (looper w) = w < length d.windows

-- the runner that an activity is, if it is one
abbrev pub as_runner : Activity → Option Runner
as_runner (runner who) = Some who
as_runner (twin w) = None
as_runner input = None
as_runner closing = None

abbrev pub runner_in : Option Activity → Option Runner
runner_in (Some activity) = as_runner activity
runner_in None = None

-- the runner that makes the entries of this number
abbrev pub runner_at : Declared → ℕ → Option Runner
runner_at d a = runner_in (activity_of d a)
