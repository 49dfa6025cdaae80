-- How many entries a state can still come to, at most: the sum of its parts' shares (this project's
-- own).
use Rattle.std.specs.Prelude.{ℕ, ◌+◌, ◌-◌, ◌==◌, ◌&&◌, not, Bool, List, [], ◌∷◌, drop, sum_by}
use Rattle.std.specs.Prelude.{filter, flat_map, Option, Some, None, slice_get, if◌then◌else◌}
use Rattle.be_actor.specs.declared.Instruction.{Instruction}
use Rattle.be_actor.specs.declared.Instruction.TheVariants as instruction
use Rattle.be_actor.specs.declared.Place.{Place}
use Rattle.be_command.specs.Effects.{Effect, at_view, changes, ends_update, Deed, draws, sets}
use Rattle.be_command.specs.Effects.{colors, saves, restores, copies, invalidates, effect_of}
use Rattle.be_desk.specs.Changes.{Desk, owns}
use Rattle.be_geom.specs.declared.change.Change.{Change}
use Rattle.be_geom.specs.declared.change.Change.TheVariants.{Show, Hide, MoveTo, MoveBy, ResizeTo}
use Rattle.be_geom.specs.declared.change.Change.TheVariants.{Activate, Behind, Focus, Close}
use Rattle.be_link.specs.Queues.{Buffer, Numbered}
use Rattle.be_looper.specs.Duties.{Hand}
use Rattle.be_message.specs.declared.target.Target.{Target}
use Rattle.be_message.specs.Messages.{Message}
use Rattle.be_pane.specs.Panes.{Pane}
use Rattle.be_port.specs.Ports.{Letter, Port, queue_of}
use Rattle.be_script.specs.Script.{Declared}
use Rattle.be_script.specs.Work.{step_cost, no_message, update_cost, updates_cost, body_cost}
use Rattle.be_script.specs.Work.{post_cost, message_cost, input_cost}
use Rattle.be_span.specs.declared.Cell.{Cell}
use Rattle.be_update.specs.Sessions.{is_any, dirty_pixels}
use Rattle.be_machine.specs.Program.{app_program, letter_program, update_program}
use Rattle.be_machine.specs.State.{State, App, Looper, free, locked, handling, Stage, in_body}
use Rattle.be_machine.specs.State.{beginning, in_update, ending}

-- ---- sums

-- the sum of what the elements weigh, the first of which has place k
abbrev pub weight_from : {X : Type 0} → (ℕ → X → ℕ) → ℕ → List X → ℕ
weight_from f k [] = 0
weight_from f k (x ∷ xs) = f k x + weight_from f (k + 1) xs

-- the sum of what the elements weigh
abbrev pub weight : {X : Type 0} → (ℕ → X → ℕ) → List X → ℕ
weight f xs = weight_from f 0 xs

-- ---- commands

-- what a change, a deed and a command can bring beside being made, flushed and executed: an update
-- of each window
abbrev pub change_exposure : ℕ → Change → ℕ
change_exposure updates (Focus view) = 0
change_exposure updates Show = updates
change_exposure updates Hide = updates
change_exposure updates (MoveTo corner) = updates
change_exposure updates (MoveBy dx dy) = updates
change_exposure updates (ResizeTo width height) = updates
change_exposure updates Activate = updates
change_exposure updates (Behind front) = updates
change_exposure updates Close = updates

abbrev pub deed_exposure : ℕ → Deed → ℕ
deed_exposure updates (draws figure) = 0
deed_exposure updates (sets setting) = 0
deed_exposure updates (colors color) = 0
deed_exposure updates saves = 0
deed_exposure updates restores = 0
deed_exposure updates (copies source at) = updates
deed_exposure updates (invalidates r) = updates

abbrev pub exposure : ℕ → Effect → ℕ
exposure updates (at_view v deed) = deed_exposure updates deed
exposure updates (changes change) = change_exposure updates change
exposure updates ends_update = 0

-- a command in the link is still to be executed
abbrev pub in_link : ℕ → Numbered → ℕ
in_link updates c = 1 + exposure updates (effect_of c.command)

-- one in the buffer is still to be flushed too
abbrev pub in_buffer : ℕ → Numbered → ℕ
in_buffer updates c = 2 + exposure updates (effect_of c.command)

-- ---- instructions

-- what an instruction still takes from this part of it on
abbrev pub here : (Instruction → ℕ) → ℕ → Instruction → ℕ
here cost part (instruction.Send w target draft) =
    if part == 0 then cost (instruction.Send w target draft) else 1
here cost part instruction.Sync = if part == 0 then cost instruction.Sync else 1
here cost part (instruction.Note text) = cost (instruction.Note text)
here cost part (instruction.Post w target draft) = cost (instruction.Post w target draft)
here cost part (instruction.Reply draft) = cost (instruction.Reply draft)
here cost part (instruction.Forward w target) = cost (instruction.Forward w target)
here cost part (instruction.Lock w) = cost (instruction.Lock w)
here cost part instruction.Unlock = cost instruction.Unlock
here cost part instruction.Flush = cost instruction.Flush
here cost part (instruction.Draw command) = cost (instruction.Draw command)

-- at the end of a program nothing is left
abbrev pub here_of : (Instruction → ℕ) → ℕ → Option Instruction → ℕ
here_of cost part (Some i) = here cost part i
here_of cost part None = 0

-- what is left of a program
unfoldable pub left : (Instruction → ℕ) → List Instruction → Place → ℕ
left cost program place =
    here_of cost place.part (slice_get program place.step) + sum_by cost
    (drop (place.step + 1) program)

-- a post of this hop
abbrev pub post_at : Declared → ℕ → ℕ → Target → ℕ → ℕ
post_at d hop = post_cost (8 - hop) d (updates_cost d)

-- in an application
abbrev pub app_cost : Declared → Instruction → ℕ
app_cost d = step_cost (updates_cost d) (post_at d 0) (message_cost d (updates_cost d)) 0

-- in the body of a message of this hop and word
abbrev pub body_step_cost : Declared → ℕ → ℕ → Instruction → ℕ
body_step_cost d hop what = step_cost (updates_cost d) (post_at d (hop + 1)) no_message what

-- in a Draw body
abbrev pub draw_cost : Instruction → ℕ
draw_cost = step_cost 0 no_message no_message 0

-- all Draw bodies of a window
abbrev pub draws_cost : Declared → ℕ → ℕ
draws_cost d w =
    sum_by draw_cost (flat_map (λ line. line.program) (filter (λ line. line.window == w) d.draws))

-- ---- letters

-- a message of this hop, from its port on
abbrev pub message_share : Declared → ℕ → ℕ → Target → ℕ → ℕ
message_share d hop w target what = body_cost d (updates_cost d) (post_at d (hop + 1)) w target what

-- a letter that waits, a notice with the update that it brings
abbrev pub letter_share : Declared → ℕ → Letter Message → ℕ
letter_share d w letter =
    if letter.notice then 6 + draws_cost d w
    else message_share d letter.hop w letter.target letter.body.what

-- a letter in hand, by how far its looper is
abbrev pub stage_share : Declared → ℕ → Hand Message → Stage → ℕ
stage_share d w hand (in_body place) =
    1 + left (body_step_cost d hand.letter.hop hand.letter.body.what) (letter_program d w hand)
    place
stage_share d w hand beginning = 5 + draws_cost d w
stage_share d w hand (in_update views place) = 4 + left draw_cost (update_program d w views) place
stage_share d w hand ending = 1

-- a looper without a letter brings nothing
abbrev pub looper_share : Declared → ℕ → Looper → ℕ
looper_share d w (handling hand stage) = stage_share d w hand stage
looper_share d w (locked m) = 0
looper_share d w free = 0

-- ---- parts

-- all programs
unfoldable pub apps_share : Declared → List App → ℕ
apps_share d apps = weight (λ m a. left (app_cost d) (app_program d m) a.place) apps

-- all letters in hand
unfoldable pub loopers_share : Declared → List Looper → ℕ
loopers_share d loopers = weight (looper_share d) loopers

-- all letters that wait
unfoldable pub ports_share : Declared → List (Port Message) → ℕ
ports_share d ports = weight (λ w p. sum_by (letter_share d w) (queue_of p)) ports

-- all commands that are made
unfoldable pub buffers_share : Declared → List Buffer → ℕ
buffers_share d buffers = weight (λ w b. sum_by (in_buffer (updates_cost d)) b.commands) buffers

-- all that are flushed
unfoldable pub links_share : Declared → List (List Numbered) → ℕ
links_share d links = weight (λ w link. sum_by (in_link (updates_cost d)) link) links

-- the window has a dirty pixel
unfoldable pub is_dirty : Desk → List Cell → ℕ → Bool
is_dirty desk screen w = is_any (dirty_pixels desk.windows.width (owns desk w) screen)

-- a window with a dirty pixel will be updated, unless a notice waits for its begin
abbrev pub dirt : ℕ → Bool → Pane → ℕ
dirt cost dirty pane = if dirty && not pane.notified then cost else 0

-- all windows with dirty pixels
unfoldable pub dirt_share : Declared → Desk → List Cell → List Pane → ℕ
dirt_share d desk screen panes =
    weight (λ w pane. dirt (update_cost d w) (is_dirty desk screen w) pane) panes

-- the events to come
unfoldable pub input_share : Declared → ℕ → ℕ
input_share d events = sum_by (input_cost d (updates_cost d)) (drop events d.input)

-- Stop, until it is made
abbrev pub going : Bool → ℕ
going stopped = if stopped then 0 else 1

-- all of them
unfoldable pub potential : Declared → State → ℕ
potential d s =
    going s.stopped + apps_share d s.apps
    + loopers_share d s.loopers
    + ports_share d s.ports
    + buffers_share d s.buffers
    + links_share d s.links
    + dirt_share d s.desk s.screen s.panes
    + input_share d s.events
