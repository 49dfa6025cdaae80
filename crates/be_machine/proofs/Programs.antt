-- What the limits of a script say of the instructions that loopers and applications run.
use Rattle.std.proofs.Common.{◌≡◌, ℕ, true, List, Option, Some, None, refl, subst}
use Rattle.std.specs.Prelude.{◌==◌, ◌&&◌, find, slice_get}
use Rattle.std.specs.List.{list_all}
use Rattle.be_facts.proofs.Truths.{and_first, and_second}
use Rattle.be_facts.proofs.Lists.{all_at}
use Rattle.be_facts.proofs.Numbers.{eq_tells}
use Rattle.be_actor.specs.declared.Instruction.{Instruction}
use Rattle.be_handler.specs.declared.Route.{Route}
use Rattle.be_handler.specs.declared.Route.TheVariants.{Skipped, Handler, Unknown}
use Rattle.be_script.specs.declared.AppLine.{AppLine}
use Rattle.be_script.specs.declared.BodyLine.{BodyLine}
use Rattle.be_script.specs.declared.DrawLine.{DrawLine}
use Rattle.be_script.specs.Limits.{IsWithinLimits, is_body_line, is_draw_line}
use Rattle.be_script.specs.Programs.{is_short, is_body_step, is_body_program, is_draw_step, is_draw_program, is_app_program, is_rest_of_app}
use Rattle.be_script.specs.Script.{Declared}
use Rattle.be_script.specs.Windows.{body_lines, is_body_of, steps_of, body_program, draw_steps, draw_program}
use Rattle.be_machine.specs.Program.{update_program, app_steps, app_program}
use Rattle.be_machine.proofs.Lists.{all_find, find_passes, all_filter, filter_passes, all_flat_map}

-- ---- bodies

body_program_steps : (d : Declared) (w : ℕ) (steps : List Instruction) → is_body_program d w steps ≡ true → list_all (is_body_step d w) steps ≡ true
unfolding is_body_program
body_program_steps d w steps h = and_second (is_short steps) _ h

body_line_steps : (d : Declared) (w : ℕ) (line : BodyLine) → is_body_line d line ≡ true → (line.window == w) ≡ true → list_all (is_body_step d w) line.program ≡ true
body_line_steps d w line h e =
    let at_window : is_body_program d line.window line.program ≡ true = search (and_first, and_second) in
    subst (λ v. list_all (is_body_step d v) line.program ≡ true) (eq_tells line.window w e) (body_program_steps d line.window line.program at_window)

found_body : (d : Declared) (w : ℕ) (o : Option BodyLine) → ((line : BodyLine) → o ≡ Some line → list_all (is_body_step d w) line.program ≡ true) → list_all (is_body_step d w) (steps_of o) ≡ true
found_body d w (Some line) h = h line refl
found_body d w None h = refl

-- each instruction of a routed body may stand in a body of the window
pub body_steps : (d : Declared) (w what : ℕ) (route : Route) → IsWithinLimits d → list_all (is_body_step d w) (body_program d w what route) ≡ true
unfolding body_program
body_steps d w what (Handler target) limits = found_body d w (find (is_body_of target what) (body_lines d w)) (λ line e.
    body_line_steps d w line
    (all_find (is_body_line d) (is_body_of target what) (body_lines d w) line (all_filter (is_body_line d) (λ x. x.window == w) d.bodies limits.bodies) e)
    (all_find (λ (x : BodyLine). x.window == w) (is_body_of target what) (body_lines d w) line (filter_passes (λ (x : BodyLine). x.window == w) d.bodies) e))
body_steps d w what Skipped limits = refl
body_steps d w what Unknown limits = refl

-- ---- Draw bodies

draw_program_steps : (d : Declared) (w : ℕ) (steps : List Instruction) → is_draw_program d w steps ≡ true → list_all (is_draw_step d w) steps ≡ true
unfolding is_draw_program
draw_program_steps d w steps h = and_second (is_short steps) _ h

draw_line_steps : (d : Declared) (w : ℕ) (line : DrawLine) → is_draw_line d line ≡ true → (line.window == w) ≡ true → list_all (is_draw_step d w) line.program ≡ true
draw_line_steps d w line h e =
    let at_window : is_draw_program d line.window line.program ≡ true = search (and_first, and_second) in
    subst (λ v. list_all (is_draw_step d v) line.program ≡ true) (eq_tells line.window w e) (draw_program_steps d line.window line.program at_window)

found_draw : (d : Declared) (w : ℕ) (o : Option DrawLine) → ((line : DrawLine) → o ≡ Some line → list_all (is_draw_step d w) line.program ≡ true) → list_all (is_draw_step d w) (draw_steps o) ≡ true
found_draw d w (Some line) h = h line refl
found_draw d w None h = refl

view_steps : (d : Declared) (w v : ℕ) → IsWithinLimits d → list_all (is_draw_step d w) (draw_program d w v) ≡ true
unfolding draw_program
view_steps d w v limits = found_draw d w (find (λ line. line.window == w && line.view == v) d.draws) (λ line e.
    draw_line_steps d w line
    (all_find (is_draw_line d) (λ line. line.window == w && line.view == v) d.draws line limits.draws e)
    (and_first (line.window == w) _ (find_passes (λ (x : DrawLine). x.window == w && x.view == v) d.draws line e)))

-- each instruction of an update may stand in a Draw body of the window
pub update_steps : (d : Declared) (w : ℕ) (views : List ℕ) → IsWithinLimits d → list_all (is_draw_step d w) (update_program d w views) ≡ true
update_steps d w views limits = all_flat_map (is_draw_step d w) (draw_program d w) views (λ v. view_steps d w v limits)

-- ---- applications

app_line_rest : (d : Declared) (o : Option AppLine) → ((line : AppLine) → o ≡ Some line → is_app_program d line.program ≡ true) → is_rest_of_app d None (app_steps o) ≡ true
unfolding is_app_program
app_line_rest d (Some line) h = and_second (is_short line.program) _ (h line refl)
app_line_rest d None h = refl

-- an application's program keeps the rules of locks, and each of its instructions may stand where it stands
pub app_rest : (d : Declared) (m : ℕ) → IsWithinLimits d → is_rest_of_app d None (app_program d m) ≡ true
app_rest d m limits = app_line_rest d (slice_get d.apps m) (λ line e. all_at (λ (x : AppLine). is_app_program d x.program) d.apps m line limits.apps e)
