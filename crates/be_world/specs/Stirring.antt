-- Which activities an entry may stir: whether they have a legal entry may be otherwise behind it.
use Rattle.std.specs.Prelude.{ℕ, ◌==◌, ◌||◌, Bool, true, false, Option, Some, None}
use Rattle.be_machine.specs.Activities.{Activity, runner, app, looper, twin, input, closing}
use Rattle.be_machine.specs.Activities.{activity_of}
use Rattle.be_machine.specs.declared.Act.{Act}
use Rattle.be_machine.specs.declared.Act.TheVariants.{Post, Take, Note, Reply, Claim, Lock}
use Rattle.be_machine.specs.declared.Act.TheVariants.{Unlock, Draw, Flush, SyncDone, Exec}
use Rattle.be_machine.specs.declared.Act.TheVariants.{Notify, Begin, Event, End, Stop}
use Rattle.be_machine.specs.declared.Entry.{Entry}
use Rattle.be_script.specs.Script.{Declared}

-- whose looper or twin it is
abbrev pub own_window : Activity → Option ℕ
own_window (runner (app m)) = None
own_window (runner (looper w)) = Some w
own_window (twin w) = Some w
own_window input = None
own_window closing = None

-- the window that an act names
abbrev pub act_window : Act → Option ℕ
act_window (Post w answer) = Some w
act_window (Lock w) = Some w
act_window (Unlock w) = Some w
act_window (Draw w number) = Some w
act_window (Flush w count) = Some w
act_window (SyncDone w) = Some w
act_window (Take number) = None
act_window (Note word) = None
act_window (Reply answer) = None
act_window (Claim answer) = None
act_window (Exec number outcome) = None
act_window (Notify number) = None
act_window (Begin opened) = None
act_window (Event number first second) = None
act_window (End answer) = None
act_window Stop = None

abbrev pub is_window : Option ℕ → ℕ → Bool
is_window (Some v) w = v == w
is_window None w = false

-- it is an entry of window w's looper or twin, or names the window
abbrev pub is_near : Activity → Act → ℕ → Bool
is_near who act w = is_window (own_window who) w || is_window (act_window act) w

-- an event may come to any window, and Stop touches all parts
abbrev pub may_touch_all : Activity → Bool
may_touch_all input = true
may_touch_all closing = true
may_touch_all (runner who) = false
may_touch_all (twin w) = false

-- a change of a window may alter any pane
abbrev pub is_command : Act → Bool
is_command (Exec number outcome) = true
is_command (Post w answer) = false
is_command (Take number) = false
is_command (Note word) = false
is_command (Reply answer) = false
is_command (Claim answer) = false
is_command (Lock w) = false
is_command (Unlock w) = false
is_command (Draw w number) = false
is_command (Flush w count) = false
is_command (SyncDone w) = false
is_command (Notify number) = false
is_command (Begin opened) = false
is_command (Event number first second) = false
is_command (End answer) = false
is_command Stop = false

-- an activity's act stirs another one
abbrev pub stirs : Activity → Act → Activity → Bool
stirs who act (runner (app m)) = true
stirs who act (runner (looper w)) = may_touch_all who || is_near who act w
stirs who act (twin w) = may_touch_all who || (is_command act || is_near who act w)
stirs who act input = true
stirs who act closing = true

-- by their numbers; one that isn't there stirs nobody, and isn't stirred
abbrev pub stirs_by : Act → Option Activity → Option Activity → Bool
stirs_by act (Some who) (Some other) = stirs who act other
stirs_by act (Some who) None = false
stirs_by act None other = false

abbrev pub may_stir : Declared → Entry → ℕ → Bool
may_stir d e a = stirs_by e.act (activity_of d e.actor) (activity_of d a)
