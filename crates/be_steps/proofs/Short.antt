-- Programs are short, so that the number of a next instruction fits 32 bits.
use Rattle.std.proofs.Common.{◌≡◌, ℕ, ◌+◌, ◌*◌, ◌<◌, ◌≤◌, true, List, [], ◌∷◌, ◌++◌, length, Option, Some, None, refl, sym, arith}
use Rattle.std.specs.Borrow.{Bor}
use Rattle.std.specs.Prelude.{◌==◌, ◌&&◌, IfSome, find, flat_map, option_map, slice_get}
use Rattle.std.proofs.lemmas.Bool.Decides.{nat_tests}
use Rattle.std.proofs.lemmas.List.{length-append}
use Rattle.be_facts.proofs.Lists.{all_at}
use Rattle.be_facts.proofs.Truths.{and_first, and_second}
use Rattle.be_actor.specs.declared.Instruction.{Instruction}
use Rattle.be_handler.specs.declared.Route.{Route}
use Rattle.be_handler.specs.declared.Route.TheVariants.{Skipped, Handler, Unknown}
use Rattle.be_machine.proofs.Lists.{all_filter, all_find}
use Rattle.be_machine.specs.Program.{app_program, app_steps, update_program}
use Rattle.be_rules.proofs.ListLemmas.{there_below}
use Rattle.be_script.specs.declared.AppLine.{AppLine}
use Rattle.be_script.specs.declared.BodyLine.{BodyLine}
use Rattle.be_script.specs.declared.DrawLine.{DrawLine}
use Rattle.be_script.specs.Limits.{IsWithinLimits, is_body_line, is_draw_line}
use Rattle.be_script.specs.Programs.{is_app_program, is_body_program, is_draw_program, is_short}
use Rattle.be_script.specs.Script.{Declared}
use Rattle.be_script.specs.Windows.{body_lines, body_program, draw_program, draw_steps, is_body_of, steps_of}

short : (steps : List Instruction) → is_short steps ≡ true → length steps ≤ 1024
short steps h = grind (arith, nat_tests)

-- ---- applications

app_short_by : (d : Declared) (o : Option AppLine) → ((line : AppLine) → o ≡ Some line → is_app_program d line.program ≡ true) → length (app_steps o) ≤ 1024
unfolding is_app_program
app_short_by d (Some line) h = short line.program (and_first (is_short line.program) _ (h line refl))
app_short_by d None h = omega arith

app_short : (d : Declared) (m : ℕ) → IsWithinLimits d → length (app_program d m) ≤ 1024
app_short d m limits = app_short_by d (slice_get d.apps m) (λ line e. all_at (λ (x : AppLine). is_app_program d x.program) d.apps m line limits.apps e)

-- ---- bodies

body_program_short : (d : Declared) (w : ℕ) (steps : List Instruction) → is_body_program d w steps ≡ true → length steps ≤ 1024
unfolding is_body_program
body_program_short d w steps h = short steps (and_first (is_short steps) _ h)

body_line_short : (d : Declared) (line : BodyLine) → is_body_line d line ≡ true → length line.program ≤ 1024
body_line_short d line h =
    let its : is_body_program d line.window line.program ≡ true = search (and_first, and_second) in
    body_program_short d line.window line.program its

found_body : (o : Option BodyLine) → ((line : BodyLine) → o ≡ Some line → length line.program ≤ 1024) → length (steps_of o) ≤ 1024
found_body (Some line) h = h line refl
found_body None h = omega arith

body_short : (d : Declared) (w what : ℕ) (route : Route) → IsWithinLimits d → length (body_program d w what route) ≤ 1024
unfolding body_program
body_short d w what (Handler target) limits = found_body (find (is_body_of target what) (body_lines d w)) (λ line e.
    body_line_short d line (all_find (is_body_line d) (is_body_of target what) (body_lines d w) line (all_filter (is_body_line d) (λ x. x.window == w) d.bodies limits.bodies) e))
body_short d w what Skipped limits = omega arith
body_short d w what Unknown limits = omega arith

-- ---- Draw bodies

draw_program_short : (d : Declared) (w : ℕ) (steps : List Instruction) → is_draw_program d w steps ≡ true → length steps ≤ 1024
unfolding is_draw_program
draw_program_short d w steps h = short steps (and_first (is_short steps) _ h)

draw_line_short : (d : Declared) (line : DrawLine) → is_draw_line d line ≡ true → length line.program ≤ 1024
draw_line_short d line h =
    let its : is_draw_program d line.window line.program ≡ true = search (and_first, and_second) in
    draw_program_short d line.window line.program its

found_draw : (o : Option DrawLine) → ((line : DrawLine) → o ≡ Some line → length line.program ≤ 1024) → length (draw_steps o) ≤ 1024
found_draw (Some line) h = h line refl
found_draw None h = omega arith

draw_short : (d : Declared) (w v : ℕ) → IsWithinLimits d → length (draw_program d w v) ≤ 1024
unfolding draw_program
draw_short d w v limits = found_draw (find (λ line. line.window == w && line.view == v) d.draws) (λ line e.
    draw_line_short d line (all_find (is_draw_line d) (λ line. line.window == w && line.view == v) d.draws line limits.draws e))

joined_short : (f : ℕ → List Instruction) (views : List ℕ) → ((v : ℕ) → length (f v) ≤ 1024) → length (flat_map f views) ≤ 1024 * length views
joined_short f [] each = omega arith
joined_short f (v ∷ vs) each =
    let one : length (f v) ≤ 1024 = each v in
    let rest : length (flat_map f vs) ≤ 1024 * length vs = joined_short f vs each in
    let sum : length (f v ++ flat_map f vs) ≡ length (f v) + length (flat_map f vs) = length-append (f v) (flat_map f vs) in
    omega (arith, one, rest, sum)

-- ---- places

below : {X : Type 0} (xs : List X) (k n : ℕ) (o : Option (Bor X)) → length xs ≤ n → option_map (λ x. x.now) o ≡ slice_get xs k → IfSome o (λ x. k < n)
below xs k n (Some x) le is = let lt : k < length xs = there_below xs k x.now (sym is) in omega (arith, lt, le)
below xs k n None le is = tt

wider : {X : Type 0} (k n : ℕ) (o : Option X) → n ≤ 4294967295 → IfSome o (λ x. k < n) → IfSome o (λ x. k < 4294967295)
wider k n (Some x) le lt = omega (arith, le, lt)
wider k n None le lt = tt

pub app_fits : (d : Declared) (m k : ℕ) (o : Option (Bor Instruction)) → IsWithinLimits d → option_map (λ x. x.now) o ≡ slice_get (app_program d m) k → IfSome o (λ x. k < 4294967295)
app_fits d m k o limits is = wider k 1024 o (omega arith) (below (app_program d m) k 1024 o (app_short d m limits) is)

pub body_fits : (d : Declared) (w what k : ℕ) (route : Route) (o : Option (Bor Instruction)) → IsWithinLimits d → option_map (λ x. x.now) o ≡ slice_get (body_program d w what route) k → IfSome o (λ x. k < 4294967295)
body_fits d w what k route o limits is = wider k 1024 o (omega arith) (below (body_program d w what route) k 1024 o (body_short d w what route limits) is)

pub update_fits : (d : Declared) (w k : ℕ) (views : List ℕ) (o : Option (Bor Instruction)) → IsWithinLimits d → length views ≤ 32 → option_map (λ x. x.now) o ≡ slice_get (update_program d w views) k → IfSome o (λ x. k < 4294967295)
update_fits d w k views o limits few is =
    let all : length (update_program d w views) ≤ 1024 * length views = joined_short (draw_program d w) views (λ v. draw_short d w v limits) in
    wider k 32768 o (omega arith) (below (update_program d w views) k 32768 o (omega (arith, all, few)) is)
