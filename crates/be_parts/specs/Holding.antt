-- Who has a looper, as the machine has it.
use Rattle.std.specs.Prelude.{◌≤◌, length, Option, Some, None}
use Rattle.be_looper.specs.Loopers.{Handled, Looper}
use Rattle.be_looper.specs.declared.Owner.{Owner}
use Rattle.be_looper.specs.declared.Owner.TheVariants.{Free, Own, App}
use Rattle.be_machine.specs.State as machine
use Rattle.be_parts.specs.declared.looper.Handling.{Handling}
use Rattle.be_parts.specs.Stages.{hand_of, stage_of}
use Rattle.be_parts.specs.declared.stage.Stage.{Stage}
use Rattle.be_parts.specs.declared.stage.Stage.TheVariants.{InBody, Beginning, InUpdate, Ending}

-- with a message in hand it is its own
abbrev pub holder_in : Owner → Option Handled → Option Handling → machine.Looper
holder_in Free hand handling = machine.free
holder_in (App m) hand handling = machine.locked m
holder_in Own (Some hand) (Some handling) =
    machine.handling (hand_of hand handling.came) (stage_of handling.stage)
holder_in Own (Some hand) None = machine.free
holder_in Own None handling = machine.free

abbrev pub holder_of : Looper → Option Handling → machine.Looper
holder_of l handling = holder_in l.owner l.hand handling

-- there is a message in hand exactly where the looper is its own, and then a stage
abbrev pub AreOne : Owner → Option Handled → Option Handling → Type 0
AreOne Free None None = Unit {0}
AreOne (App m) None None = Unit {0}
AreOne Own (Some hand) (Some handling) = Unit {0}
AreOne Free None (Some handling) = ⊥
AreOne Free (Some hand) handling = ⊥
AreOne (App m) None (Some handling) = ⊥
AreOne (App m) (Some hand) handling = ⊥
AreOne Own None handling = ⊥
AreOne Own (Some hand) None = ⊥

-- an update is of at most 32 views, as many as a window has
abbrev pub HasFewViews : Stage → Type 0
HasFewViews (InUpdate views place) = length views.items ≤ 32
HasFewViews (InBody place) = Unit {0}
HasFewViews Beginning = Unit {0}
HasFewViews Ending = Unit {0}

abbrev pub DrawsFew : Option Handling → Type 0
DrawsFew (Some handling) = HasFewViews handling.stage
DrawsFew None = Unit {0}

abbrev pub IsHeldWell : Looper → Option Handling → Type 0
IsHeldWell l handling = AreOne l.owner l.hand handling × DrawsFew handling
