-- The most that a message of input may cost, and the whole work.
use Rattle.std.proofs.Common.{◌≡◌, ℕ, zero, suc, ◌+◌, ◌*◌, ◌<◌, ◌≤◌, List, [], ◌∷◌, ◌++◌, length, map, max, Option, Some, refl, ap, sym, ◌∙◌, subst, arith}
use Rattle.std.specs.Prelude.{sum_by, flat_map, slice_get, fold}
use Rattle.std.specs.List.{range_with_len}
use Rattle.std.proofs.lemmas.Grind.{flat_map-append}
use Rattle.std.proofs.lemmas.List.{length-map, map-append, append-nil}
use Rattle.std.proofs.lemmas.List.Sums.{fold-append}
use Rattle.std.proofs.lemmas.Option.{slice_get-get_or}
use Rattle.be_facts.proofs.Lists.{range_more}
use Rattle.be_message.specs.declared.target.Target.{Target}
use Rattle.be_message.specs.declared.target.Target.TheVariants.{Window, View}
use Rattle.be_message.specs.Words.{mouse_down, mouse_up, mouse_moved, key_down}
use Rattle.be_script.specs.declared.AppLine.{AppLine}
use Rattle.be_script.specs.declared.InputLine.{InputLine}
use Rattle.be_script.specs.declared.InputLine.TheVariants.{Press, Release, Move, Key, After}
use Rattle.be_script.specs.declared.costs.input.MostCosts.{MostCosts}
use Rattle.be_script.specs.declared.costs.routes.Handlers.{Handlers}
use Rattle.be_script.specs.declared.costs.routes.Routes.{Routes}
use Rattle.be_script.specs.Costs.{limited, all_updates, part_of, table, table_cost, app_step_cost, most_at, views_in, most_below, most_of, event_cost}
use Rattle.be_script.specs.Routable.{IsRoutable}
use Rattle.be_script.specs.Routes.{handlers_with, HasRoutes, routed_number}
use Rattle.be_script.specs.Script.{Declared}
use Rattle.be_script.specs.Windows.{view_lines, chain_of}
use Rattle.be_script.specs.Work.{targets_of, greatest, message_cost, post_cost, most_cost, input_cost, program_cost, updates_cost, work_of}
use Rattle.be_script.proofs.WorkSums.{limited-add, limited-max, limited-twice, sum_by-limited}
use Rattle.be_script.proofs.WorkTable.{RowsAre, table-rows, messages, app-limited}
use Rattle.be_script.proofs.WorkUpdates.{updates-all}

-- ---- the greatest of a list

greatest-from : (a : ℕ) (xs : List ℕ) → fold max a xs ≡ max a (greatest xs)
greatest-from a [] = omega arith
greatest-from a (x ∷ xs) =
    let one : fold max (max a x) xs ≡ max (max a x) (greatest xs) = greatest-from (max a x) xs in
    let other : fold max (max 0 x) xs ≡ max (max 0 x) (greatest xs) = greatest-from (max 0 x) xs in
    omega arith

greatest-append : (xs ys : List ℕ) → greatest (xs ++ ys) ≡ max (greatest xs) (greatest ys)
greatest-append xs ys = fold-append max 0 xs ys ∙ greatest-from (greatest xs) ys

-- ---- a window and its views

targets : ℕ → List Target
targets views = Window ∷ map View (range_with_len 0 views)

targets-more : (views : ℕ) → targets (suc views) ≡ targets views ++ View views ∷ []
unfolding targets
targets-more views =
    let at : 0 + views ≡ views = omega arith in
    ap (λ xs. Window ∷ xs) (ap (map View) (range_more 0 views ∙ ap (λ k. range_with_len 0 views ++ k ∷ []) at) ∙ map-append View (range_with_len 0 views) (views ∷ []))

most-views : (number : ℕ → Target → ℕ → Option ℕ) (costs : List ℕ) (what w : ℕ) (message : ℕ → Target → ℕ → ℕ) →
    ((v : ℕ) (t : Target) (word : ℕ) → limited (table_cost costs (number v t word)) ≡ limited (message v t word)) →
    (views : ℕ) → limited (most_at number costs what w views) ≡ limited (greatest (map (λ t. message w t what) (targets views)))
unfolding targets
most-views number costs what w message same zero =
    same w Window what ∙ ap limited (let m = message w Window what in let one : m ≡ max 0 m = omega arith in one)
most-views number costs what w message same (suc views) =
    let f : Target → ℕ = λ t. message w t what in
    let front = greatest (map f (targets views)) in
    let late = message w (View views) what in
    let one : max front (max 0 late) ≡ max front late = omega arith in
    limited-max (most_at number costs what w views) (table_cost costs (number w (View views) what)) front late
    (most-views number costs what w message same views) (same w (View views) what)
    ∙ ap limited (sym (ap (λ ts. greatest (map f ts)) (targets-more views) ∙ ap greatest (map-append f (targets views) (View views ∷ []))
    ∙ greatest-append (map f (targets views)) (late ∷ []) ∙ one))

-- ---- all windows

views-are : (d : Declared) (routes : Routes) (w : ℕ) → HasRoutes d routes → w < length routes.windows.items →
    views_in (slice_get routes.windows.items w) ≡ length (view_lines d w) + 1
unfolding chain_of
views-are d routes w has h =
    let any = handlers_with (chain_of d w) in
    let count : length (map (λ line. let o : Option ℕ = Some line.parent in o) (view_lines d w)) ≡ length (view_lines d w) = length-map (view_lines d w) (λ line. let o : Option ℕ = Some line.parent in o) in
    ap views_in (slice_get-get_or routes.windows.items w any h ∙ ap (λ (x : Handlers). Some x) (has.windows.chains w any h)) ∙ omega arith

at_window : (d : Declared) (message : ℕ → Target → ℕ → ℕ) (what w : ℕ) → List ℕ
at_window d message what w = map (λ t. message w t what) (targets_of d w)

most-windows : (d : Declared) (routes : Routes) (costs : List ℕ) (what : ℕ) (message : ℕ → Target → ℕ → ℕ) → HasRoutes d routes →
    ((v : ℕ) (t : Target) (word : ℕ) → limited (table_cost costs (routed_number routes v t word)) ≡ limited (message v t word)) →
    (n : ℕ) → n ≤ length routes.windows.items →
    limited (most_below routes costs what n) ≡ limited (greatest (flat_map (at_window d message what) (range_with_len 0 n)))
unfolding at_window targets
most-windows d routes costs what message has same zero h = refl
most-windows d routes costs what message has same (suc n) h =
    let front = greatest (flat_map (at_window d message what) (range_with_len 0 n)) in
    let here = at_window d message what n in
    let at : 0 + n ≡ n = omega arith in
    let views = views_in (slice_get routes.windows.items n) in
    limited-max (most_below routes costs what n) (most_at (routed_number routes) costs what n views) front (greatest here)
    (most-windows d routes costs what message has same n (omega arith))
    (most-views (routed_number routes) costs what n message same views
    ∙ ap (λ k. limited (greatest (map (λ t. message n t what) (targets k)))) (views-are d routes n has (omega arith)))
    ∙ ap limited (sym (ap (λ ws. greatest (flat_map (at_window d message what) ws)) (range_more 0 n ∙ ap (λ k. range_with_len 0 n ++ k ∷ []) at)
    ∙ ap greatest (flat_map-append (at_window d message what) (range_with_len 0 n) (n ∷ []))
    ∙ greatest-append (flat_map (at_window d message what) (range_with_len 0 n)) (here ++ [])
    ∙ ap (λ xs. max front (greatest xs)) (append-nil here)))

pub most-is : (d : Declared) (routes : Routes) (v : ℕ) (costs : List ℕ) (what : ℕ) → IsRoutable d → HasRoutes d routes → RowsAre d v (post_cost 7 d v) costs →
    limited (most_of routes costs what) ≡ limited (most_cost d v what)
unfolding most_cost at_window
most-is d routes v costs what routable has rows =
    let n = length routes.windows.items in
    most-windows d routes costs what (message_cost d v) has (messages d routes v costs routable has rows) n (omega arith)
    ∙ ap (λ k. limited (greatest (flat_map (at_window d (message_cost d v) what) (range_with_len 0 k)))) has.windows.count

-- ---- events

-- the most of each word
pub record HasMost (d : Declared) (v : ℕ) (most : MostCosts) : Type 0 where
  pub down : limited most.down ≡ limited (most_cost d v mouse_down)
  pub up : limited most.up ≡ limited (most_cost d v mouse_up)
  pub moved : limited most.moved ≡ limited (most_cost d v mouse_moved)
  pub key : limited most.key ≡ limited (most_cost d v key_down)

twice : (a b : ℕ) → limited a ≡ limited b → limited (2 * a) ≡ limited (2 * b)
twice a b h = omega arith

event-limited : (d : Declared) (u v : ℕ) (most : MostCosts) → limited u ≡ limited v → HasMost d v most → (event : InputLine) →
    limited (event_cost most u event) ≡ limited (input_cost d v event)
event-limited d u v most h has (Press p) =
    limited-add (1 + u) most.down (1 + v) (most_cost d v mouse_down) (limited-add 1 u 1 v refl h) has.down
event-limited d u v most h has (Release p) = limited-add 1 most.up 1 (most_cost d v mouse_up) refl has.up
event-limited d u v most h has (Move p) =
    limited-add 1 (2 * most.moved) 1 (2 * most_cost d v mouse_moved) refl (twice most.moved (most_cost d v mouse_moved) has.moved)
event-limited d u v most h has (Key key) = limited-add 1 most.key 1 (most_cost d v key_down) refl has.key
event-limited d u v most h has (After m) = refl

-- ---- all of it

pub work-is : (d : Declared) (routes : Routes) (u : ℕ) (costs : List ℕ) (most : MostCosts) (apps input work : ℕ) → IsRoutable d → HasRoutes d routes →
    u ≡ limited (all_updates d.windows d.draws) →
    costs ≡ table 7 (map (part_of (routed_number routes) u) d.bodies) →
    most.down ≡ limited (most_of routes costs mouse_down) → most.up ≡ limited (most_of routes costs mouse_up) →
    most.moved ≡ limited (most_of routes costs mouse_moved) → most.key ≡ limited (most_of routes costs key_down) →
    apps ≡ limited (sum_by (λ app. sum_by (app_step_cost (routed_number routes) costs u) app.program) d.apps) →
    input ≡ limited (sum_by (event_cost most u) d.input) →
    work ≡ limited (limited (apps + input) + 1) → work ≡ work_of d
unfolding work_of
work-is d routes u costs most apps input work routable has is_u is_costs down up moved key is_apps is_input is_work =
    let v = updates_cost d in
    let h : limited u ≡ limited v = ap limited is_u ∙ limited-twice (all_updates d.windows d.draws) ∙ ap limited (updates-all d routable.draws) in
    let rows : RowsAre d v (post_cost 7 d v) costs = subst (λ (xs : List ℕ). RowsAre d v (post_cost 7 d v) xs) (sym is_costs) (table-rows d routes u v routable has h 7) in
    let has_most : HasMost d v most = record {
      down = ap limited down ∙ limited-twice (most_of routes costs mouse_down) ∙ most-is d routes v costs mouse_down routable has rows;
      up = ap limited up ∙ limited-twice (most_of routes costs mouse_up) ∙ most-is d routes v costs mouse_up routable has rows;
      moved = ap limited moved ∙ limited-twice (most_of routes costs mouse_moved) ∙ most-is d routes v costs mouse_moved routable has rows;
      key = ap limited key ∙ limited-twice (most_of routes costs key_down) ∙ most-is d routes v costs key_down routable has rows;
    } in
    let app_costs = sum_by (λ app. program_cost d v app.program) d.apps in
    let input_costs = sum_by (input_cost d v) d.input in
    let first : limited apps ≡ limited app_costs =
    ap limited is_apps ∙ limited-twice (sum_by (λ app. sum_by (app_step_cost (routed_number routes) costs u) app.program) d.apps)
    ∙ sum_by-limited (λ (app : AppLine). sum_by (app_step_cost (routed_number routes) costs u) app.program) (λ app. program_cost d v app.program)
    (λ app. app-limited d routes u v costs routable has h rows app.program) d.apps in
    let second : limited input ≡ limited input_costs =
    ap limited is_input ∙ limited-twice (sum_by (event_cost most u) d.input)
    ∙ sum_by-limited (event_cost most u) (input_cost d v) (event-limited d u v most h has_most) d.input in
    is_work
    ∙ limited-add (limited (apps + input)) 1 (app_costs + input_costs) 1
    (limited-twice (apps + input) ∙ limited-add apps input app_costs input_costs first second) refl
