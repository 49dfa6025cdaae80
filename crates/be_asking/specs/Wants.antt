-- What an activity wants, as the machine has it.
use Rattle.std.specs.Prelude.{◌≡◌, ℕ, List, Option, Some, None, option_map}
use Rattle.be_actor.specs.Drafts.{filled}
use Rattle.be_actor.specs.declared.Wish.{Wish}
use Rattle.be_actor.specs.declared.Wish.TheVariants as wish
use Rattle.be_hall.specs.Machine.{Fits}
use Rattle.be_message.specs.Messages.{Message}
use Rattle.be_script.specs.Script.{Declared}
use Rattle.be_machine.specs.Activities as machine
use Rattle.be_machine.specs.Program.{hand_of}
use Rattle.be_machine.specs.State.{State}
use Rattle.be_machine.specs.Wants as wants
use Rattle.be_rules.specs.Found.{NeedsPart, OwnHeld}
use Rattle.be_rules.specs.Rules.{IsSound}
use Rattle.be_rules.specs.Slices.{Slice, state_of}
use Rattle.be_asking.specs.declared.activity.Runner.{Runner}
use Rattle.be_asking.specs.declared.activity.Runner.TheVariants as by
use Rattle.be_asking.specs.declared.activity.Activity.{Activity}
use Rattle.be_asking.specs.declared.activity.Activity.TheVariants as who
use Rattle.be_asking.specs.declared.want.Request.{Request}
use Rattle.be_asking.specs.declared.want.Request.TheVariants as request
use Rattle.be_asking.specs.declared.want.Want.{Want}
use Rattle.be_asking.specs.declared.want.Want.TheVariants as want
use Rattle.be_asking.specs.declared.want.Wanted.{Wanted}
use Rattle.be_asking.specs.declared.want.Wanted.TheVariants.{Wants, Needs, Nothing}

abbrev pub runner_in : Runner → machine.Runner
runner_in (by.App m) = machine.app m
runner_in (by.Looper w) = machine.looper w

abbrev pub activity_in : Activity → machine.Activity
activity_in (who.Runner runner) = machine.runner (runner_in runner)
activity_in (who.Twin w) = machine.twin w
activity_in who.Input = machine.input
activity_in who.Closing = machine.closing

-- an instruction's wish, whose message is made beside the one in hand
abbrev pub wish_in : Option Message → Request → Wish
wish_in now (request.Note text) = wish.Note text.now
wish_in now (request.Post w target draft) = wish.Post w target (filled draft.now now)
wish_in now (request.Send w target draft) = wish.Send w target (filled draft.now now)
wish_in now (request.Forward w target) = wish.Forward w target
wish_in now (request.Reply draft) = wish.Reply (filled draft.now now)
wish_in now request.Claim = wish.Claim
wish_in now (request.Lock w) = wish.Lock w
wish_in now request.Unlock = wish.Unlock
wish_in now request.Flush = wish.Flush
wish_in now request.SyncDone = wish.SyncDone
wish_in now (request.Draw command) = wish.Draw command.now

abbrev pub want_in : Option Message → Want → wants.Want
want_in now (want.Asks runner request) = wants.asks (runner_in runner) (wish_in now request)
want_in now (want.Takes w) = wants.takes w
want_in now (want.Begins w) = wants.begins w
want_in now (want.Flushes w) = wants.flushes w
want_in now (want.DrawsEnd w) = wants.draws_end w
want_in now (want.Ends w) = wants.ends w
want_in now (want.Notifies w) = wants.notifies w
want_in now (want.Executes w) = wants.executes w
want_in now (want.Uses line) = wants.uses line.now
want_in now want.Stops = wants.stops

-- the message that an activity handles
abbrev pub message_of : State → machine.Activity → Option Message
message_of s (machine.runner runner) = option_map (λ hand. hand.letter.body) (hand_of s runner)
message_of s (machine.twin w) = None
message_of s machine.input = None
message_of s machine.closing = None

-- in this state the activity wants just this
abbrev pub IsWantIn : Declared → State → machine.Activity → Want → Type 0
IsWantIn d s who want = wants.want_of d s who ≡ Some (want_in (message_of s who) want)

-- what was told of the activity of number a holds in every sound list with these parts, in which
-- the activity's own parts are in hand
abbrev pub IsWanted : Declared → List (ℕ × Slice) → ℕ → machine.Activity → Wanted → Type 0
IsWanted d held a who (Wants want) =
    (all : List Slice) → IsSound d all → Fits all held
    → IsWantIn d (state_of d all) who want × OwnHeld d held all who
IsWanted d held a who (Needs p) = NeedsPart d held a p
IsWanted d held a who Nothing =
    (all : List Slice) → IsSound d all → Fits all held
    → (wants.want_of d (state_of d all) who ≡ None) × OwnHeld d held all who
