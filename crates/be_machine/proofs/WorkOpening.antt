-- The potential of the state in which a script starts is at most the script's work.
use Rattle.std.proofs.Common.{◌≡◌, ℕ, zero, suc, ◌+◌, ◌*◌, ◌≤◌, Bool, false, List, [], ◌∷◌, map, length, replicate, sum_by, refl, ap, arith}
use Rattle.std.specs.Prelude.{ℤ, min, slice_get}
use Rattle.std.proofs.lemmas.List.Sums.{sum_by-cons}
use Rattle.be_actor.specs.Wishes.{first_place}
use Rattle.be_desk.specs.Changes.{Desk, owns}
use Rattle.be_link.specs.Queues.{empty_buffer}
use Rattle.be_pane.specs.Panes.{Pane}
use Rattle.be_port.specs.Ports.{empty_port, queue_of}
use Rattle.be_script.specs.declared.AppLine.{AppLine}
use Rattle.be_script.specs.declared.WindowLine.{WindowLine}
use Rattle.be_script.specs.Limits.{IsWithinLimits}
use Rattle.be_script.specs.Script.{Declared}
use Rattle.be_script.specs.Work.{update_cost, updates_cost, program_cost, input_cost, work_of}
use Rattle.be_span.specs.Cells.{desktop_cell}
use Rattle.be_update.specs.Sessions.{is_any, dirty_from, dirty_pixels}
use Rattle.be_machine.specs.Program.{app_steps}
use Rattle.be_machine.specs.State.{free, opening_state, opening_app, opening_desk}
use Rattle.be_machine.proofs.WorkParts.{left_first}
use Rattle.be_machine.proofs.WorkWeights.{weightless}
use Rattle.be_machine.specs.Shares.{weight_from, left, app_cost, letter_share, looper_share, in_buffer, in_link, dirt, is_dirty, apps_share, loopers_share, ports_share, buffers_share, links_share, dirt_share, input_share, potential}

-- ---- applications

-- applications at their start, the first of which has place k
ready_from : (d : Declared) (k : ℕ) (all rest : List AppLine) → ((i j : ℕ) → j ≡ k + i → slice_get all j ≡ slice_get rest i) → weight_from (λ m a. left (app_cost d) (app_steps (slice_get all m)) a.place) k (replicate (length rest) opening_app) ≡ sum_by (λ line. program_cost d (updates_cost d) line.program) rest
ready_from d k all [] same = refl
ready_from d k all (line ∷ lines) same =
    let now : left (app_cost d) (app_steps (slice_get all k)) first_place ≡ left (app_cost d) line.program first_place = ap (λ o. left (app_cost d) (app_steps o) first_place) (same 0 k (omega arith)) in
    let later : weight_from (λ m a. left (app_cost d) (app_steps (slice_get all m)) a.place) (k + 1) (replicate (length lines) opening_app) ≡ sum_by (λ line. program_cost d (updates_cost d) line.program) lines = ready_from d (k + 1) all lines (λ i j e. same (suc i) j (omega arith)) in
    omega (arith, now, left_first (app_cost d) line.program, later, sum_by-cons (λ (x : AppLine). program_cost d (updates_cost d) x.program) line lines)

ready_apps : (d : Declared) → apps_share d (replicate (length d.apps) opening_app) ≡ sum_by (λ line. program_cost d (updates_cost d) line.program) d.apps
unfolding apps_share
ready_apps d = ready_from d 0 d.apps d.apps (λ i j e. let same : j ≡ i = omega arith in ap (slice_get d.apps) same)

-- ---- empty parts

no_letters_from : (d : Declared) (k : ℕ) (lines : List WindowLine) → weight_from (λ w p. sum_by (letter_share d w) (queue_of p)) k (map (λ line. empty_port line.port) lines) ≡ 0
no_letters_from d k [] = refl
no_letters_from d k (line ∷ lines) = omega (arith, no_letters_from d (k + 1) lines)

no_letters : (d : Declared) → ports_share d (map (λ line. empty_port line.port) d.windows) ≡ 0
unfolding ports_share
no_letters d = no_letters_from d 0 d.windows

no_hands : (d : Declared) → loopers_share d (replicate (length d.windows) free) ≡ 0
unfolding loopers_share
no_hands d = weightless (looper_share d) 0 (length d.windows) free (λ w. refl)

no_buffers : (d : Declared) → buffers_share d (replicate (length d.windows) empty_buffer) ≡ 0
unfolding buffers_share
no_buffers d = weightless (λ w b. sum_by (in_buffer (updates_cost d)) b.commands) 0 (length d.windows) empty_buffer (λ w. refl)

no_links : (d : Declared) → links_share d (replicate (length d.windows) []) ≡ 0
unfolding links_share
no_links d = weightless (λ w link. sum_by (in_link (updates_cost d)) link) 0 (length d.windows) [] (λ w. refl)

-- ---- pixels

clean_from : (width k n : ℕ) (owned : ℤ → ℤ → Bool) → is_any (dirty_from width k owned (replicate n desktop_cell)) ≡ false
clean_from width k zero owned = refl
clean_from width k (suc n) owned = clean_from width (suc k) n owned

clean : (desk : Desk) (n w : ℕ) → is_dirty desk (replicate n desktop_cell) w ≡ false
unfolding is_dirty dirty_pixels
clean desk n w = clean_from desk.windows.width 0 n (owns desk w)

no_dirt : (cost : ℕ) (b : Bool) (pane : Pane) → b ≡ false → dirt cost b pane ≡ 0
no_dirt cost b pane e = rw e refl

nothing_from : {X : Type 0} (f : ℕ → X → ℕ) (k : ℕ) (xs : List X) → ((i : ℕ) (x : X) → f i x ≡ 0) → weight_from f k xs ≡ 0
nothing_from f k [] h = refl
nothing_from f k (x ∷ xs) h = omega (arith, h k x, nothing_from f (k + 1) xs h)

no_dirts : (d : Declared) (desk : Desk) (n : ℕ) (panes : List Pane) → dirt_share d desk (replicate n desktop_cell) panes ≡ 0
unfolding dirt_share
no_dirts d desk n panes = nothing_from (λ w pane. dirt (update_cost d w) (is_dirty desk (replicate n desktop_cell) w) pane) 0 panes (λ w pane. no_dirt (update_cost d w) (is_dirty desk (replicate n desktop_cell) w) pane (clean desk n w))

-- ---- all

all_input : (d : Declared) → input_share d 0 ≡ sum_by (input_cost d (updates_cost d)) d.input
unfolding input_share
all_input d = refl

-- a sum whose least with a great number is small
not_stopped : (n : ℕ) → min n 18446744073709551615 ≤ 262144 → n ≤ min n 18446744073709551615
not_stopped n le = omega arith

opening_work : (d : Declared) → potential d (opening_state d) ≡ sum_by (λ line. program_cost d (updates_cost d) line.program) d.apps + sum_by (input_cost d (updates_cost d)) d.input + 1
unfolding potential opening_state
opening_work d = omega (arith, ready_apps d, no_letters d, no_hands d, no_buffers d, no_links d, no_dirts d (opening_desk d) (d.width * d.height) (opening_state d).panes, all_input d)

pub opening_potential : (d : Declared) → IsWithinLimits d → potential d (opening_state d) ≤ work_of d
unfolding work_of
opening_potential d limits = omega (arith, opening_work d, not_stopped (sum_by (λ line. program_cost d (updates_cost d) line.program) d.apps + sum_by (input_cost d (updates_cost d)) d.input + 1) limits.counts.work)
