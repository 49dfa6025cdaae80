-- A body more, a Draw body more, and an application that was begun.
use Rattle.std.proofs.Common.{◌≡◌, ℕ, ◌<◌, ◌≤◌, ◌==◌, Bool, true, false, not, ◌&&◌, ◌||◌, List, [], ◌∷◌, ◌++◌, length, filter, map, Option, Some, None, refl, ap, sym, ◌∙◌, subst, arith}
use Rattle.std.specs.Prelude.{nat_lt}
use Rattle.std.specs.List.{list_all, list_any}
use Rattle.std.proofs.lemmas.Bool.{eq-eqb, eqb-true, le-leb, lt-ltb, and_from, not_from_false}
use Rattle.be_facts.proofs.Truths.{false_unless_so, and_first, and_second, not_true, or_false_first}
use Rattle.be_facts.proofs.Lists.{all_weaker, length_push}
use Rattle.be_facts.proofs.Truths.{or_false_second}
use Rattle.be_actor.specs.declared.Instruction.{Instruction}
use Rattle.be_actor.specs.Limits.{is_reserved, is_what}
use Rattle.be_handler.specs.Routes.{same_target}
use Rattle.be_message.specs.declared.target.Target.{Target}
use Rattle.be_said.proofs.AppendLemmas.{all-append, all-both, alone-last, at-most-of, drops-last, filter-both, keeps-last, none-passes}
use Rattle.be_said.proofs.GrowthLemmas.{Grows, body-grows, body_step-grows, draw-grows, draw_step-grows, handler-grows}
use Rattle.be_said.proofs.KeptLemmas.{apps-kept, are_of_window, bodies-kept, draws-kept, filters-kept, handlers-kept, input-kept, views-kept, window-kept, windows-kept}
use Rattle.be_said.proofs.KeptWindows.{from_parts}
use Rattle.be_said.specs.Keeps.{AreKept, IsBodyBegun, IsDrawBegun, are_app_steps, lock_after}
use Rattle.be_script.specs.declared.BodyLine.{BodyLine}
use Rattle.be_script.specs.declared.DrawLine.{DrawLine}
use Rattle.be_script.specs.declared.HandlerLine.{HandlerLine}
use Rattle.be_script.specs.declared.ViewLine.{ViewLine}
use Rattle.be_script.specs.Limits.{are_plain_from, are_views, is_at_most, is_body_line, is_draw_line, is_window, is_window_declared, plain_lines}
use Rattle.be_script.specs.Names.{are_names}
use Rattle.be_script.specs.Programs.{is_app_program, is_app_step, is_body_program, is_body_step, is_draw_program, is_draw_step, is_handler_of, is_rest_of_app, is_short, lock_behind, view_count}
use Rattle.be_script.specs.Script.{Declared}
use Rattle.be_script.specs.Windows.{body_lines, view_lines}
use Rattle.be_script.proofs.WorkNumbers.{same_target-true}

-- ---- one more for a handler and a word

-- the test for a new body's place turns round
abbrev is_for : ℕ → Target → ℕ → BodyLine → Bool
is_for w t what line = line.window == w && same_target line.target t && line.what == what

abbrev is_beside : BodyLine → BodyLine → Bool
is_beside line other = other.window == line.window && (same_target other.target line.target && other.what == line.what)

target-self : (a b : Target) → a ≡ b → same_target a b ≡ true → same_target b a ≡ true
target-self a b e h = subst (λ (t : Target). same_target t a ≡ true) e (subst (λ (t : Target). same_target a t ≡ true) (sym e) h)

turned_body : (old new : BodyLine) → is_beside old new ≡ true → is_for new.window new.target new.what old ≡ true
turned_body old new h =
    let rest = and_second (new.window == old.window) (same_target new.target old.target && new.what == old.what) h in
    let w : new.window ≡ old.window = eqb-true new.window old.window (and_first (new.window == old.window) (same_target new.target old.target && new.what == old.what) h) in
    let target = and_first (same_target new.target old.target) (new.what == old.what) rest in
    let what : new.what ≡ old.what = eqb-true new.what old.what (and_second (same_target new.target old.target) (new.what == old.what) rest) in
    and_from (old.window == new.window && same_target old.target new.target) (old.what == new.what)
    (and_from (old.window == new.window) (same_target old.target new.target) (eq-eqb old.window new.window (sym w))
    (target-self new.target old.target (same_target-true new.target old.target target) target))
    (eq-eqb old.what new.what (sym what))

-- the lines beside another line of the window
beside_is : (d : Declared) (line : BodyLine) (lines : List BodyLine) →
    filter (λ other. same_target other.target line.target && other.what == line.what) (filter (λ other. other.window == line.window) lines) ≡ filter (is_beside line) lines
beside_is d line lines = filter-both (λ other. other.window == line.window) (λ other. same_target other.target line.target && other.what == line.what) lines

none_of : {X : Type 0} (p q : X → Bool) → ((x : X) → p x ≡ true → q x ≡ true) → (xs : List X) → list_any q xs ≡ false → list_any p xs ≡ false
none_of p q each [] h = refl
none_of p q each (x ∷ xs) h =
    ap (λ b. b || list_any p xs) (false_unless_so (p x) (q x) (each x) (or_false_first (q x) (list_any q xs) h)) ∙ none_of p q each xs (or_false_second (q x) (list_any q xs) h)

-- ---- a body

grows-body : (d : Declared) (line : BodyLine) → Grows d (record d { bodies = d.bodies ++ line ∷ [] })
grows-body d line = record {
  windows = omega arith;
  views = λ w. omega arith;
  plain = λ w. omega arith;
  pictures = omega arith;
  apps = omega arith;
  width = omega arith;
  height = omega arith;
}

-- the old lines are counted as before
old_body : (d : Declared) (line old : BodyLine) → is_for line.window line.target line.what old ≡ false →
    is_at_most 1 (filter (λ other. same_target other.target old.target && other.what == old.what) (body_lines d old.window)) ≡ true →
    is_at_most 1 (filter (λ other. same_target other.target old.target && other.what == old.what) (filter (λ other. other.window == old.window) (d.bodies ++ line ∷ []))) ≡ true
old_body d line old other h =
    ap (is_at_most 1) (beside_is d old (d.bodies ++ line ∷ []))
    ∙ ap (is_at_most 1) (drops-last (is_beside old) d.bodies line (false_unless_so (is_beside old line) (is_for line.window line.target line.what old) (turned_body old line) other))
    ∙ ap (is_at_most 1) (sym (beside_is d old d.bodies))
    ∙ h

new_body : (d : Declared) (line : BodyLine) → list_any (is_for line.window line.target line.what) d.bodies ≡ false →
    is_at_most 1 (filter (λ other. same_target other.target line.target && other.what == line.what) (filter (λ other. other.window == line.window) (d.bodies ++ line ∷ []))) ≡ true
new_body d line none =
    ap (is_at_most 1) (beside_is d line (d.bodies ++ line ∷ []))
    ∙ alone-last (is_beside line) d.bodies line (none_of (is_beside line) (is_for line.window line.target line.what) (λ other. regroup other) d.bodies none)
  where
    regroup : (other : BodyLine) → is_beside line other ≡ true → is_for line.window line.target line.what other ≡ true
    regroup other h =
        let a = other.window == line.window in
        let b = same_target other.target line.target in
        let c = other.what == line.what in
        let rest = and_second a (b && c) h in
        and_from (a && b) c (and_from a b (and_first a (b && c) h) (and_first b c rest)) (and_second b c rest)

body_steps : (d : Declared) (w : ℕ) (steps : List Instruction) → length steps ≤ 1024 → list_all (is_body_step d w) steps ≡ true → is_body_program d w steps ≡ true
unfolding is_body_program
body_steps d w steps short h = and_from (is_short steps) (list_all (is_body_step d w) steps) (le-leb (length steps) 1024 short) h

-- the bodies of a window, one more
bodies_in : (d : Declared) (w : ℕ) (views : List ViewLine) (plain : List HandlerLine) (old new : List BodyLine) → length new ≤ 512 →
    are_of_window d w views plain old ≡ true → are_of_window d w views plain new ≡ true
bodies_in d w views plain old new few h =
    let front = are_views views && is_at_most 16 plain && are_plain_from d w 0 plain && are_names (map (λ line. line.name) views ++ map (λ line. line.name) plain) in
    and_from front (is_at_most 512 new) (and_first front (is_at_most 512 old) h) (at-most-of 512 new few)

bodies_of : (d : Declared) (line : BodyLine) (k : AreKept d) (few : length (body_lines d line.window) < 512) (w : ℕ) → w < length d.windows → (b : Bool) → (line.window == w) ≡ b →
    is_window_declared (record d { bodies = d.bodies ++ line ∷ [] }) w ≡ true
bodies_of d line k few w within false other =
    ap (λ lines. are_of_window (record d { bodies = d.bodies ++ line ∷ [] }) w (view_lines d w) (plain_lines d w) lines) (drops-last (λ line. line.window == w) d.bodies line other)
    ∙ window-kept d (record d { bodies = d.bodies ++ line ∷ [] }) (grows-body d line) w (view_lines d w) (plain_lines d w) (body_lines d w) (k.each_window w within)
bodies_of d line k few w within true same =
    let is : line.window ≡ w = eqb-true line.window w same in
    let room : length (body_lines d w) < 512 = subst (λ (n : ℕ). length (body_lines d n) < 512) is few in
    let more = length_push (body_lines d w) line in
    let e : Declared = record d { bodies = d.bodies ++ line ∷ [] } in
    ap (λ lines. are_of_window e w (view_lines d w) (plain_lines d w) lines) (keeps-last (λ line. line.window == w) d.bodies line same)
    ∙ bodies_in e w (view_lines d w) (plain_lines d w) (body_lines d w) (body_lines d w ++ line ∷ []) (omega arith)
    (window-kept d e (grows-body d line) w (view_lines d w) (plain_lines d w) (body_lines d w) (k.each_window w within))

pub kept-body : (d : Declared) (line : BodyLine) → IsBodyBegun d line.window line.target line.what line.program → AreKept d → AreKept (record d { bodies = d.bodies ++ line ∷ [] })
kept-body d line b k =
    let e : Declared = record d { bodies = d.bodies ++ line ∷ [] } in
    let g : Grows d e = grows-body d line in
    let q : BodyLine → Bool = is_for line.window line.target line.what in
    let apart : list_all (λ old. is_body_line d old && not (q old)) d.bodies ≡ true =
    all-both (is_body_line d) (λ old. not (q old)) d.bodies k.bodies (none-passes q d.bodies b.new) in
    let old : list_all (is_body_line e) d.bodies ≡ true =
    all_weaker (λ old. is_body_line d old && not (q old)) (is_body_line e)
    (λ old h. body-grows d e g old (old_body d line old (not_true (q old) (and_second (is_body_line d old) (not (q old)) h))) (and_first (is_body_line d old) (not (q old)) h))
    d.bodies apart in
    let here : is_body_line e line ≡ true =
    let a1 = is_window e line.window in
    let a2 = is_handler_of e line.window line.target in
    let a3 = is_what line.what in
    let a4 = not (is_reserved line.what) in
    let a5 = is_body_program e line.window line.program in
    let a6 = is_at_most 1 (filter (λ other. same_target other.target line.target && other.what == line.what) (body_lines e line.window)) in
    and_from ((((a1 && a2) && a3) && a4) && a5) a6
    (from_parts a1 a2 a3 a4 a5 b.window (handler-grows d e g line.window line.target b.handler) b.word (not_from_false (is_reserved line.what) b.free)
    (body_steps e line.window line.program b.short (all_weaker (is_body_step d line.window) (is_body_step e line.window) (body_step-grows d e g line.window) line.program b.each)))
    (new_body d line b.new) in
    record {
      few_windows = k.few_windows;
      few_apps = k.few_apps;
      few_pictures = k.few_pictures;
      few_input = k.few_input;
      pictures = k.pictures;
      windows = k.windows;
      names = k.names;
      views = views-kept d e g d.views k.views;
      handlers = handlers-kept d e g d.handlers k.handlers;
      filters = filters-kept d e g refl k.filters;
      bodies = all-append (is_body_line e) d.bodies line old here;
      draws = draws-kept d e g refl k.draws;
      each_window = λ w within. bodies_of d line k b.few w within (line.window == w) refl;
      apps = apps-kept d e g d.apps k.apps;
      app_names = k.app_names;
      input = input-kept d e g d.input k.input;
    }

-- ---- a Draw body

grows-draw : (d : Declared) (line : DrawLine) → Grows d (record d { draws = d.draws ++ line ∷ [] })
grows-draw d line = record {
  windows = omega arith;
  views = λ w. omega arith;
  plain = λ w. omega arith;
  pictures = omega arith;
  apps = omega arith;
  width = omega arith;
  height = omega arith;
}

abbrev draws_in : DrawLine → DrawLine → Bool
draws_in line other = other.window == line.window && other.view == line.view

turned_draw : (old new : DrawLine) → draws_in old new ≡ true → draws_in new old ≡ true
turned_draw old new h =
    let w : new.window ≡ old.window = eqb-true new.window old.window (and_first (new.window == old.window) (new.view == old.view) h) in
    let v : new.view ≡ old.view = eqb-true new.view old.view (and_second (new.window == old.window) (new.view == old.view) h) in
    and_from (old.window == new.window) (old.view == new.view) (eq-eqb old.window new.window (sym w)) (eq-eqb old.view new.view (sym v))

draw_steps : (d : Declared) (w : ℕ) (steps : List Instruction) → length steps ≤ 1024 → list_all (is_draw_step d w) steps ≡ true → is_draw_program d w steps ≡ true
unfolding is_draw_program
draw_steps d w steps short h = and_from (is_short steps) (list_all (is_draw_step d w) steps) (le-leb (length steps) 1024 short) h

pub kept-draw : (d : Declared) (line : DrawLine) → IsDrawBegun d line.window line.view line.program → AreKept d → AreKept (record d { draws = d.draws ++ line ∷ [] })
kept-draw d line b k =
    let e : Declared = record d { draws = d.draws ++ line ∷ [] } in
    let g : Grows d e = grows-draw d line in
    let q : DrawLine → Bool = draws_in line in
    let apart : list_all (λ old. is_draw_line d old && not (q old)) d.draws ≡ true =
    all-both (is_draw_line d) (λ old. not (q old)) d.draws k.draws (none-passes q d.draws b.new) in
    let old : list_all (is_draw_line e) d.draws ≡ true =
    all_weaker (λ old. is_draw_line d old && not (q old)) (is_draw_line e)
    (λ old h. draw-grows d e g old
    (λ few. ap (is_at_most 1) (drops-last (draws_in old) d.draws line (false_unless_so (draws_in old line) (q old) (turned_draw old line) (not_true (q old) (and_second (is_draw_line d old) (not (q old)) h)))) ∙ few)
    (and_first (is_draw_line d old) (not (q old)) h))
    d.draws apart in
    let here : is_draw_line e line ≡ true =
    let a1 = is_window e line.window in
    let a2 = nat_lt line.view (view_count e line.window) in
    let a3 = is_draw_program e line.window line.program in
    let a4 = is_at_most 1 (filter (λ other. other.window == line.window && other.view == line.view) e.draws) in
    and_from ((a1 && a2) && a3) a4
    (and_from (a1 && a2) a3 (and_from a1 a2 b.window (lt-ltb line.view (view_count e line.window) b.view))
    (draw_steps e line.window line.program b.short (all_weaker (is_draw_step d line.window) (is_draw_step e line.window) (draw_step-grows d e g line.window) line.program b.each)))
    (alone-last (draws_in line) d.draws line b.new) in
    record {
      few_windows = k.few_windows;
      few_apps = k.few_apps;
      few_pictures = k.few_pictures;
      few_input = k.few_input;
      pictures = k.pictures;
      windows = k.windows;
      names = k.names;
      views = views-kept d e g d.views k.views;
      handlers = handlers-kept d e g d.handlers k.handlers;
      filters = filters-kept d e g refl k.filters;
      bodies = bodies-kept d e g refl k.bodies;
      draws = all-append (is_draw_line e) d.draws line old here;
      each_window = λ w within. windows-kept d e g refl refl refl w (k.each_window w within);
      apps = apps-kept d e g d.apps k.apps;
      app_names = k.app_names;
      input = input-kept d e g d.input k.input;
    }

-- ---- programs as they are read

pub app_steps-last : (d : Declared) (lock : Option ℕ) (steps : List Instruction) (step : Instruction) → are_app_steps d lock steps ≡ true → is_app_step d (lock_after lock steps) step ≡ true →
    are_app_steps d lock (steps ++ step ∷ []) ≡ true
app_steps-last d lock [] step h last = and_from (is_app_step d lock step) true last refl
app_steps-last d lock (x ∷ steps) step h last =
    and_from (is_app_step d lock x) (are_app_steps d (lock_behind lock x) (steps ++ step ∷ [])) (and_first (is_app_step d lock x) (are_app_steps d (lock_behind lock x) steps) h)
    (app_steps-last d (lock_behind lock x) steps step (and_second (is_app_step d lock x) (are_app_steps d (lock_behind lock x) steps) h) last)

pub lock_after-last : (lock : Option ℕ) (steps : List Instruction) (step : Instruction) → lock_after lock (steps ++ step ∷ []) ≡ lock_behind (lock_after lock steps) step
lock_after-last lock [] step = refl
lock_after-last lock (x ∷ steps) step = lock_after-last (lock_behind lock x) steps step

rest-of : (d : Declared) (lock : Option ℕ) (steps : List Instruction) → are_app_steps d lock steps ≡ true → lock_after lock steps ≡ None → is_rest_of_app d lock steps ≡ true
rest-of d None [] h end = refl
rest-of d (Some w) [] h end = absurd ((cc))
rest-of d None (step ∷ steps) h end =
    let a = is_app_step d None step in
    let b = are_app_steps d (lock_behind None step) steps in
    and_from a (is_rest_of_app d (lock_behind None step) steps) (and_first a b h) (rest-of d (lock_behind None step) steps (and_second a b h) end)
rest-of d (Some w) (step ∷ steps) h end =
    let a = is_app_step d (Some w) step in
    let b = are_app_steps d (lock_behind (Some w) step) steps in
    and_from a (is_rest_of_app d (lock_behind (Some w) step) steps) (and_first a b h) (rest-of d (lock_behind (Some w) step) steps (and_second a b h) end)

pub app-of : (d : Declared) (steps : List Instruction) → length steps ≤ 1024 → are_app_steps d None steps ≡ true → lock_after None steps ≡ None → is_app_program d steps ≡ true
unfolding is_app_program
app-of d steps short h end = and_from (is_short steps) (is_rest_of_app d None steps) (le-leb (length steps) 1024 short) (rest-of d None steps h end)
