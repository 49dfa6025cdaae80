-- The sums of Work.antt from a table: what the instructions of each body cost at one hop, one hop
-- after another. A sum stops at the last number of 64 bits.
use Rattle.std.specs.Prelude.{ℕ, zero, suc, ◌+◌, ◌*◌, max, min, List, [], ◌∷◌, map, length, Option}
use Rattle.std.specs.Prelude.{Some, None, sum_by, flat_map, slice_index, slice_get}
use Rattle.be_actor.specs.declared.Instruction.{Instruction}
use Rattle.be_actor.specs.declared.Instruction.TheVariants.{Note, Post, Send, Reply, Forward, Lock}
use Rattle.be_actor.specs.declared.Instruction.TheVariants.{Unlock, Flush, Sync, Draw}
use Rattle.be_message.specs.declared.target.Target.{Target}
use Rattle.be_message.specs.declared.target.Target.TheVariants as target
use Rattle.be_script.specs.declared.BodyLine.{BodyLine}
use Rattle.be_script.specs.declared.DrawLine.{DrawLine}
use Rattle.be_script.specs.declared.InputLine.{InputLine}
use Rattle.be_script.specs.declared.InputLine.TheVariants as input
use Rattle.be_script.specs.declared.WindowLine.{WindowLine}
use Rattle.be_script.specs.declared.costs.input.MostCosts.{MostCosts}
use Rattle.be_script.specs.declared.costs.routes.Handlers.{Handlers}
use Rattle.be_script.specs.declared.costs.routes.Routes.{Routes}
use Rattle.be_script.specs.Routes.{routed_number}
use Rattle.be_script.specs.Work.{step_cost, no_message}

abbrev pub limited : ℕ → ℕ
limited n = min n 18446744073709551615

-- ---- instructions

-- without the messages that are posted
abbrev pub own_cost : ℕ → Instruction → ℕ
own_cost updates step = step_cost updates no_message no_message 0 step

-- updates of all windows
abbrev pub all_updates : List WindowLine → List DrawLine → ℕ
all_updates windows draws =
    8 * length windows + sum_by (λ line. sum_by (own_cost 0) line.program) draws

-- ---- bodies, each by its own cost and the bodies that its messages go to

abbrev pub posts_of_step : (ℕ → Target → ℕ → Option ℕ) → ℕ → Instruction → List (Option ℕ)
posts_of_step number word (Post w target draft) = number w target draft.what ∷ []
posts_of_step number word (Forward w target) = number w target word ∷ []
posts_of_step number word (Note text) = []
posts_of_step number word (Send w target draft) = []
posts_of_step number word (Reply draft) = []
posts_of_step number word (Lock w) = []
posts_of_step number word Unlock = []
posts_of_step number word Flush = []
posts_of_step number word Sync = []
posts_of_step number word (Draw command) = []

abbrev pub posts_of : (ℕ → Target → ℕ → Option ℕ) → ℕ → List Instruction → List (Option ℕ)
posts_of number word program = flat_map (posts_of_step number word) program

abbrev pub part_of : (ℕ → Target → ℕ → Option ℕ) → ℕ → BodyLine → ℕ × List (Option ℕ)
part_of number updates line =
    (limited (sum_by (own_cost updates) line.program), posts_of number line.what line.program)

-- ---- the table

-- a message and the instructions of the body with this number
abbrev pub table_cost : List ℕ → Option ℕ → ℕ
table_cost costs (Some number) = 3 + slice_index costs number
table_cost costs None = 3

-- a post of it
abbrev pub posted_cost : List ℕ → Option ℕ → ℕ
posted_cost costs body = 1 + table_cost costs body

-- of a body at hop 7, from where each post is refused
abbrev pub last_cost : ℕ × List (Option ℕ) → ℕ
last_cost part = limited (part.0 + length part.1)

-- of a body, where those at the next hop cost so much
abbrev pub cost_before : List ℕ → ℕ × List (Option ℕ) → ℕ
cost_before costs part = limited (part.0 + sum_by (posted_cost costs) part.1)

-- so many hops before hop 7
unfoldable pub table : ℕ → List (ℕ × List (Option ℕ)) → List ℕ
table zero parts = map last_cost parts
table (suc hops) parts = map (cost_before (table hops parts)) parts

-- ---- applications

-- an instruction of an application, whose messages have hop 0
abbrev pub app_step_cost : (ℕ → Target → ℕ → Option ℕ) → List ℕ → ℕ → Instruction → ℕ
app_step_cost number costs updates step =
    step_cost updates (λ w target what. posted_cost costs (number w target what))
    (λ w target what. table_cost costs (number w target what)) 0 step

-- ---- input

-- the most at a window or one of so many views
abbrev pub most_at : (ℕ → Target → ℕ → Option ℕ) → List ℕ → ℕ → ℕ → ℕ → ℕ
most_at number costs what w zero = table_cost costs (number w target.Window what)
most_at number costs what w (suc views) =
    max (most_at number costs what w views) (table_cost costs (number w (target.View views) what))

abbrev pub views_in : Option Handlers → ℕ
views_in (Some handlers) = handlers.views
views_in None = 0

-- the most at so many windows
abbrev pub most_below : Routes → List ℕ → ℕ → ℕ → ℕ
most_below routes costs what zero = 0
most_below routes costs what (suc w) =
    max (most_below routes costs what w)
    (most_at (routed_number routes) costs what w (views_in (slice_get routes.windows.items w)))

-- at all windows
abbrev pub most_of : Routes → List ℕ → ℕ → ℕ
most_of routes costs what = most_below routes costs what (length routes.windows.items)

abbrev pub event_cost : MostCosts → ℕ → InputLine → ℕ
event_cost most updates (input.Press p) = 1 + updates + most.down
event_cost most updates (input.Release p) = 1 + most.up
event_cost most updates (input.Move p) = 1 + 2 * most.moved
event_cost most updates (input.Key key) = 1 + most.key
event_cost most updates (input.After m) = 1
