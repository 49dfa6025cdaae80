-- The table of costs says what Work.antt says of messages.
use Rattle.std.proofs.Common.{◌≡◌, ℕ, zero, suc, ◌+◌, ◌<◌, ◌≤◌, ◌==◌, inl, inr, false, List, [], ◌∷◌, length, map, filter, Option, Some, None, get_or, refl, ap, sym, ◌∙◌, subst, arith, ltb-true, ne_eqb}
use Rattle.std.specs.Prelude.{sum_by, slice_get, slice_index, find, option_and_then}
use Rattle.std.specs.List.{position_from}
use Rattle.std.proofs.lemmas.Bool.{cases_lt}
use Rattle.std.proofs.lemmas.List.{get_or-map, length-map}
use Rattle.std.proofs.lemmas.Option.{slice_get-get_or, slice_get_past, slice_get_within, get_or_from_slice_get}
use Rattle.be_facts.proofs.Truths.{and_first}
use Rattle.be_actor.specs.declared.Instruction.{Instruction}
use Rattle.be_handler.specs.declared.Route.{Route}
use Rattle.be_handler.specs.declared.Route.TheVariants.{Skipped, Handler, Unknown}
use Rattle.be_handler.specs.Routes.{route_of}
use Rattle.be_message.specs.declared.target.Target.{Target}
use Rattle.be_script.specs.declared.BodyLine.{BodyLine}
use Rattle.be_script.specs.declared.costs.body_numbers.BodyNumbers.{BodyNumbers}
use Rattle.be_script.specs.declared.costs.routes.Handlers.{Handlers}
use Rattle.be_script.specs.declared.costs.routes.Routes.{Routes}
use Rattle.be_script.specs.Costs.{limited, own_cost, posts_of, part_of, last_cost, table_cost, posted_cost, cost_before, table, app_step_cost}
use Rattle.be_script.specs.Limits.{is_window}
use Rattle.be_script.specs.Routable.{IsRoutable, can_add_body, bodies_before}
use Rattle.be_script.specs.Routes.{handlers_with, is_body_at, HasRoutes, HasNumbers, handled_number, routed_number}
use Rattle.be_script.specs.Script.{Declared}
use Rattle.be_script.specs.Windows.{chain_of, body_lines, is_body_of, steps_of, declared_body, body_program}
use Rattle.be_script.specs.Work.{step_cost, no_message, body_cost, post_cost, message_cost, program_cost}
use Rattle.be_script.proofs.WorkNumbers.{IsPlace, place-found}
use Rattle.be_script.proofs.WorkSums.{limited-add, limited-twice, sum_by-limited, step-limited, body-limited, length-sum}

-- ---- the body with a routed number

-- the number of a body, or none, says which program runs
abbrev pub Runs : Declared → ℕ → Option ℕ → List Instruction → Type 0
Runs d what None program = program ≡ []
Runs d what (Some n) program = (line : BodyLine) × (slice_get d.bodies n ≡ Some line) × (line.what ≡ what) × (program ≡ line.program)

runs_place : (d : Declared) (what : ℕ) (at : Option ℕ) (found : Option BodyLine) → IsPlace what 0 d.bodies at found → Runs d what at (steps_of found)
runs_place d what None None h = refl
runs_place d what None (Some line) h = absurd h
runs_place d what (Some n) None h = absurd h
runs_place d what (Some n) (Some line) h =
    let same : n ≡ h.0 = omega (arith, h.1) in
    (line, ap (slice_get d.bodies) same ∙ h.2, h.3, refl)

runs_handled : (d : Declared) (numbers : BodyNumbers) (w what : ℕ) (route : Route) → HasNumbers d.bodies numbers →
    Runs d what (handled_number numbers w what route) (body_program d w what route)
unfolding body_program
runs_handled d numbers w what (Handler target) has =
    subst (λ (at : Option ℕ). Runs d what at (steps_of (find (is_body_of target what) (body_lines d w)))) (sym (has w target what))
    (runs_place d what (position_from (is_body_at w target what) 0 d.bodies) (find (is_body_of target what) (body_lines d w)) (place-found w target what 0 d.bodies))
runs_handled d numbers w what Skipped has = refl
runs_handled d numbers w what Unknown has = refl

-- a window that isn't there has no bodies
no_bodies : (n w : ℕ) (bodies : List BodyLine) → n ≤ w → ((k : ℕ) (line : BodyLine) → slice_get bodies k ≡ Some line → line.window < n) →
    filter (λ line. line.window == w) bodies ≡ []
no_bodies n w [] h each = refl
no_bodies n w (line ∷ lines) h each =
    let below : line.window < n = each 0 line refl in
    let apart : (line.window == w) ≡ false = ne_eqb line.window w (λ e. absurd (omega arith)) in
    rw apart (no_bodies n w lines h (λ k other at. each (suc k) other at))

no_program : (d : Declared) (w what : ℕ) (route : Route) → body_lines d w ≡ [] → body_program d w what route ≡ []
unfolding body_program
no_program d w what (Handler target) h = ap (λ lines. steps_of (find (is_body_of target what) lines)) h
no_program d w what Skipped h = refl
no_program d w what Unknown h = refl

body_below : (d : Declared) → IsRoutable d → (k : ℕ) (line : BodyLine) → slice_get d.bodies k ≡ Some line → line.window < length d.windows
body_below d routable k line at =
    ltb-true line.window (length d.windows)
    (and_first (is_window d line.window) (can_add_body (chain_of (bodies_before d k) line.window) (declared_body line)) (routable.bodies k line at))

runs_from : (d : Declared) (routes : Routes) (w what : ℕ) (target : Target) (o : Option Handlers) (h : Handlers) → o ≡ Some h → h ≡ handlers_with (chain_of d w) →
    HasNumbers d.bodies routes.bodies →
    Runs d what (option_and_then (λ h. handled_number routes.bodies w what (route_of h.chain what target)) o) (body_program d w what (route_of (chain_of d w) what target))
runs_from d routes w what target o h e is has =
    subst (λ (p : Option Handlers). Runs d what (option_and_then (λ h. handled_number routes.bodies w what (route_of h.chain what target)) p) (body_program d w what (route_of (chain_of d w) what target)))
    (sym (e ∙ ap (λ (x : Handlers). Some x) is))
    (runs_handled d routes.bodies w what (route_of (chain_of d w) what target) has)

runs_past : (d : Declared) (routes : Routes) (w what : ℕ) (target : Target) (o : Option Handlers) → o ≡ None → body_lines d w ≡ [] →
    Runs d what (option_and_then (λ h. handled_number routes.bodies w what (route_of h.chain what target)) o) (body_program d w what (route_of (chain_of d w) what target))
runs_past d routes w what target o e h =
    subst (λ (p : Option Handlers). Runs d what (option_and_then (λ h. handled_number routes.bodies w what (route_of h.chain what target)) p) (body_program d w what (route_of (chain_of d w) what target)))
    (sym e) (no_program d w what (route_of (chain_of d w) what target) h)

pub runs : (d : Declared) (routes : Routes) → IsRoutable d → HasRoutes d routes → (w what : ℕ) (target : Target) →
    Runs d what (routed_number routes w target what) (body_program d w what (route_of (chain_of d w) what target))
runs d routes routable has w what target =
    let any = handlers_with (chain_of d w) in
    elim (cases_lt w (length routes.windows.items)) [
      | inl h ↦ runs_from d routes w what target (slice_get routes.windows.items w) (get_or routes.windows.items w any)
          (slice_get-get_or routes.windows.items w any h) (has.windows.chains w any h) has.bodies
      | inr h ↦ runs_past d routes w what target (slice_get routes.windows.items w) (slice_get_past routes.windows.items w h)
          (no_bodies (length d.windows) w d.bodies (let count : length routes.windows.items ≡ length d.windows = has.windows.count in omega arith) (body_below d routable))
    ]

-- ---- what a row of the table says

-- the costs of the bodies, where posts cost so much
abbrev pub RowsAre : Declared → ℕ → (ℕ → Target → ℕ → ℕ) → List ℕ → Type 0
RowsAre d updates post costs =
    (n : ℕ) (line : BodyLine) → slice_get d.bodies n ≡ Some line →
    limited (slice_index costs n) ≡ limited (sum_by (step_cost updates post no_message line.what) line.program)

table_runs : (d : Declared) (updates : ℕ) (post : ℕ → Target → ℕ → ℕ) (costs : List ℕ) (what : ℕ) (at : Option ℕ) (program : List Instruction) →
    RowsAre d updates post costs → Runs d what at program → limited (table_cost costs at) ≡ limited (3 + sum_by (step_cost updates post no_message what) program)
table_runs d updates post costs what None program rows h = sym (ap (λ steps. limited (3 + sum_by (step_cost updates post no_message what) steps)) h)
table_runs d updates post costs what (Some n) program rows h =
    let line = h.0 in
    limited-add 3 (slice_index costs n) 3 (sum_by (step_cost updates post no_message what) program) refl
    (rows n line h.1 ∙ ap (λ word. limited (sum_by (step_cost updates post no_message word) line.program)) h.2
    ∙ ap (λ steps. limited (sum_by (step_cost updates post no_message what) steps)) (sym h.3))

message-limited : (d : Declared) (routes : Routes) (updates : ℕ) (post : ℕ → Target → ℕ → ℕ) (costs : List ℕ) → IsRoutable d → HasRoutes d routes →
    RowsAre d updates post costs → (w : ℕ) (target : Target) (what : ℕ) →
    limited (table_cost costs (routed_number routes w target what)) ≡ limited (body_cost d updates post w target what)
message-limited d routes updates post costs routable has rows w target what =
    table_runs d updates post costs what (routed_number routes w target what) (body_program d w what (route_of (chain_of d w) what target)) rows
    (runs d routes routable has w what target)

-- ---- the table, one hop after another

row : (f : ℕ × List (Option ℕ) → ℕ) (g : BodyLine → ℕ × List (Option ℕ)) (bodies : List BodyLine) (n : ℕ) (line : BodyLine) → slice_get bodies n ≡ Some line →
    slice_index (map f (map g bodies)) n ≡ f (g line)
row f g bodies n line at =
    let within : n < length bodies = slice_get_within bodies n line at in
    get_or-map f (map g bodies) n (g line) 0 (subst (λ k. n < k) (sym (length-map bodies g)) within)
    ∙ ap f (get_or-map g bodies n line (g line) within ∙ ap g (get_or_from_slice_get bodies n line line at))

pub post_cost-suc : (k : ℕ) (d : Declared) (updates w : ℕ) (target : Target) (what : ℕ) →
    post_cost (suc k) d updates w target what ≡ 1 + body_cost d updates (post_cost k d updates) w target what
unfolding post_cost
post_cost-suc k d updates w target what = refl

last-rows : (d : Declared) (routes : Routes) (u v : ℕ) → limited u ≡ limited v →
    RowsAre d v (post_cost zero d v) (map last_cost (map (part_of (routed_number routes) u) d.bodies))
unfolding post_cost
last-rows d routes u v h n line at =
    let number = routed_number routes in
    let own = sum_by (own_cost u) line.program in
    let posts = posts_of number line.what line.program in
    ap limited (row last_cost (part_of number u) d.bodies n line at)
    ∙ limited-twice (limited own + length posts)
    ∙ limited-add (limited own) (length posts) own (sum_by (λ post. 1) posts) (limited-twice own) (ap limited (length-sum posts))
    ∙ body-limited u v number (λ post. 1) (post_cost zero d v) line.what h (λ w target what. refl) line.program

rows-before : (d : Declared) (routes : Routes) (u v k : ℕ) (costs : List ℕ) → IsRoutable d → HasRoutes d routes → limited u ≡ limited v →
    RowsAre d v (post_cost k d v) costs → RowsAre d v (post_cost (suc k) d v) (map (cost_before costs) (map (part_of (routed_number routes) u) d.bodies))
rows-before d routes u v k costs routable has h rows n line at =
    let number = routed_number routes in
    let own = sum_by (own_cost u) line.program in
    let posts = posts_of number line.what line.program in
    let behind = sum_by (posted_cost costs) posts in
    ap limited (row (cost_before costs) (part_of number u) d.bodies n line at)
    ∙ limited-twice (limited own + behind)
    ∙ limited-add (limited own) behind own behind (limited-twice own) refl
    ∙ body-limited u v number (posted_cost costs) (post_cost (suc k) d v) line.what h
    (λ w target what. limited-add 1 (table_cost costs (number w target what)) 1 (body_cost d v (post_cost k d v) w target what) refl
    (message-limited d routes v (post_cost k d v) costs routable has rows w target what)
    ∙ ap limited (sym (post_cost-suc k d v w target what)))
    line.program

pub table-rows : (d : Declared) (routes : Routes) (u v : ℕ) → IsRoutable d → HasRoutes d routes → limited u ≡ limited v → (k : ℕ) →
    RowsAre d v (post_cost k d v) (table k (map (part_of (routed_number routes) u) d.bodies))
unfolding table
table-rows d routes u v routable has h zero = last-rows d routes u v h
table-rows d routes u v routable has h (suc k) =
    rows-before d routes u v k (table k (map (part_of (routed_number routes) u) d.bodies)) routable has h (table-rows d routes u v routable has h k)

-- ---- messages of hop 0, and applications

pub messages : (d : Declared) (routes : Routes) (v : ℕ) (costs : List ℕ) → IsRoutable d → HasRoutes d routes → RowsAre d v (post_cost 7 d v) costs →
    (w : ℕ) (target : Target) (what : ℕ) → limited (table_cost costs (routed_number routes w target what)) ≡ limited (message_cost d v w target what)
unfolding message_cost
messages d routes v costs routable has rows w target what = message-limited d routes v (post_cost 7 d v) costs routable has rows w target what

message-posted : (d : Declared) (v w : ℕ) (target : Target) (what : ℕ) → 1 + message_cost d v w target what ≡ post_cost 8 d v w target what
unfolding message_cost
message-posted d v w target what = sym (post_cost-suc 7 d v w target what)

pub app-limited : (d : Declared) (routes : Routes) (u v : ℕ) (costs : List ℕ) → IsRoutable d → HasRoutes d routes → limited u ≡ limited v →
    RowsAre d v (post_cost 7 d v) costs → (program : List Instruction) →
    limited (sum_by (app_step_cost (routed_number routes) costs u) program) ≡ limited (program_cost d v program)
app-limited d routes u v costs routable has h rows program =
    let number = routed_number routes in
    sum_by-limited (app_step_cost number costs u) (step_cost v (post_cost 8 d v) (message_cost d v) 0)
    (λ step. step-limited u v (λ w target what. posted_cost costs (number w target what)) (λ w target what. table_cost costs (number w target what))
    (post_cost 8 d v) (message_cost d v) 0 h
    (λ w target what. limited-add 1 (table_cost costs (number w target what)) 1 (message_cost d v w target what) refl (messages d routes v costs routable has rows w target what)
    ∙ ap limited (message-posted d v w target what))
    (messages d routes v costs routable has rows) step)
    program
