-- Each deed that fits and may be done keeps what was said within its limits.
use Rattle.std.proofs.Common.{◌≡◌, ℕ, zero, suc, ◌+◌, ◌*◌, ◌<◌, ◌≤◌, ◌==◌, Bool, true, false, ◌&&◌, cond, List, [], ◌∷◌, ◌++◌, length, filter, map, Option, Some, None, Ok, Err, refl, ap, sym, ◌∙◌, subst, arith, length-append}
use Rattle.std.specs.Prelude.{nat_lt, nat_le, slice_index_or}
use Rattle.std.specs.List.{list_any}
use Rattle.std.proofs.lemmas.Bool.{eq-eqb, le-leb, leb-false, leb-true, lt-ltb, ltb-true, ltb-false}
use Rattle.std.proofs.lemmas.List.{length-map}
use Rattle.std.proofs.lemmas.Bool.{and_from}
use Rattle.be_facts.proofs.Truths.{and_first, or_false_first, or_false_second}
use Rattle.be_facts.proofs.Lists.{map_push, all_weaker, length_push}
use Rattle.be_actor.specs.declared.Instruction.{Instruction}
use Rattle.be_bitmap.specs.Pictures.{Picture}
use Rattle.be_color.specs.declared.colors.Color.{Color}
use Rattle.be_command.specs.declared.fault.Reason.TheVariants.{NameTaken, TooMany}
use Rattle.be_handler.specs.declared.Rule.{Rule}
use Rattle.be_handler.specs.declared.Rule.TheVariants.{Skip, Pass, Redirect}
use Rattle.be_handler.specs.Routes.{same_target}
use Rattle.be_message.specs.declared.target.Target.{Target}
use Rattle.be_message.specs.declared.target.Target.TheVariants as target
use Rattle.be_said.proofs.AppendLemmas.{all-append}
use Rattle.be_said.proofs.DeclaredNames.{names-last}
use Rattle.be_said.proofs.GrowthLemmas.{Grows, app_steps-grow, body_step-grows, draw_step-grows, handler-grows, window-grows}
use Rattle.be_said.proofs.KeptLemmas.{grows-size, kept-app, kept-filter, kept-input, kept-picture, kept-size}
use Rattle.be_said.proofs.KeptWindows.{kept-handler, kept-view, kept-window}
use Rattle.be_said.proofs.KeptBodies.{app-of, app_steps-last, kept-body, kept-draw, lock_after-last}
use Rattle.be_said.specs.Fits.{Fits, HasSteps, IsList, IsRow, IsRule, IsTarget}
use Rattle.be_said.specs.Deeds.{Deed, sizes_screen, begins_bitmap, adds_row, adds_window, adds_view, adds_handler, adds_filter, begins_body, begins_draw, begins_program, adds_input, adds_step, closes}
use Rattle.be_said.specs.Judging.{depths_of, done, is_taken, is_too_many, said_then}
use Rattle.be_said.specs.Keeps.{AreKept, IsBegun, IsFormed, IsUnlocked, Keeps, declared_so_far, is_step_in, size_of}
use Rattle.be_said.specs.SoFar.{SoFar, Begun, nothing, bitmap, handler_body, draw_body, program, steps_begun, view_names}
use Rattle.be_script.specs.Limits.{is_list, is_picture, is_rule, is_side, is_window, plain_lines, same_list}
use Rattle.be_script.specs.Names.{are_names}
use Rattle.be_script.specs.Programs.{is_app_step, is_body_step, is_draw_step, is_handler_of, lock_behind}
use Rattle.be_script.specs.Script.{Declared}
use Rattle.be_script.specs.Windows.{body_lines, view_lines}

-- ---- deeds that may be done

granted : (taken many : Bool) (x y : SoFar) → cond taken (Err NameTaken) (cond many (Err TooMany) (Ok x)) ≡ Ok y → (taken ≡ false) × (many ≡ false) × (x ≡ y)
granted false false x y e = (refl, refl, (cc))
granted false true x y e = absurd ((cc))
granted true many x y e = absurd ((cc))

done_is : (said : SoFar) (deed : Deed) (new : SoFar) → done said deed ≡ Ok new → (is_taken said deed ≡ false) × (is_too_many said deed ≡ false) × (said_then said deed ≡ new)
unfolding done
done_is said deed new e = granted (is_taken said deed) (is_too_many said deed) (said_then said deed) new e

-- ---- what fits

pub target-there : (said : SoFar) (w : ℕ) (t : Target) → IsTarget said w t → is_handler_of (declared_so_far said) w t ≡ true
target-there said w target.Window h = refl
target-there said w (target.View v) h =
    let count = length-map (view_lines (declared_so_far said) w) (λ line. line.name) in
    lt-ltb v (length (view_lines (declared_so_far said) w) + 1) (omega arith)
target-there said w (target.Plain p) h =
    let count = length-map (plain_lines (declared_so_far said) w) (λ line. line.name) in
    lt-ltb p (length (plain_lines (declared_so_far said) w)) (omega arith)

list_there : (said : SoFar) (w : ℕ) (list : Option Target) → IsList said w list → is_list (declared_so_far said) w list ≡ true
list_there said w None h = refl
list_there said w (Some t) h = target-there said w t h

rule_there : (said : SoFar) (w : ℕ) (rule : Rule) → IsRule said w rule → is_rule (declared_so_far said) w rule ≡ true
rule_there said w Skip h = refl
rule_there said w Pass h = refl
rule_there said w (Redirect t) h = target-there said w t h

view_there : (said : SoFar) (w v : ℕ) → v < length (view_names said (Some w)) → v < length (view_lines (declared_so_far said) w) + 1
view_there said w v h =
    let count = length-map (view_lines (declared_so_far said) w) (λ line. line.name) in
    omega arith

pub window-there : (said : SoFar) (w : ℕ) → w < length said.windows → is_window (declared_so_far said) w ≡ true
window-there said w h = lt-ltb w (length said.windows) h

-- what was begun is of no account where nothing was
nothing_begun : (d : Declared) (b : Begun) → b ≡ nothing → IsBegun d b
nothing_begun d b e = subst (IsBegun d) (sym e) tt

-- ---- the screen

begun_size : (d e : Declared) (g : Grows d e) (b : Begun) → e.pictures ≡ d.pictures → e.bodies ≡ d.bodies → e.draws ≡ d.draws → e.apps ≡ d.apps →
    IsBegun d b → IsBegun e b
begun_size d e g nothing pictures bodies draws apps h = tt
begun_size d e g (bitmap name width height colors) pictures bodies draws apps h = record {
  few = subst (λ pictures. length pictures < 64) (sym pictures) h.few;
  wide = h.wide;
  high = h.high;
  rows = h.rows;
  some = h.some;
  rest = h.rest;
}
begun_size d e g (handler_body w t what steps) pictures bodies draws apps h = record {
  window = window-grows d e g w h.window;
  handler = handler-grows d e g w t h.handler;
  word = h.word;
  free = h.free;
  few = subst (λ lines. length (filter (λ line. line.window == w) lines) < 512) (sym bodies) h.few;
  new = ap (list_any (λ line. line.window == w && same_target line.target t && line.what == what)) bodies ∙ h.new;
  short = h.short;
  each = all_weaker (is_body_step d w) (is_body_step e w) (body_step-grows d e g w) steps h.each;
}
begun_size d e g (draw_body w v steps) pictures bodies draws apps h =
    let more = g.views w in
    record {
      window = window-grows d e g w h.window;
      view = omega (arith, h.view);
      new = ap (list_any (λ line. line.window == w && line.view == v)) draws ∙ h.new;
      short = h.short;
      each = all_weaker (is_draw_step d w) (is_draw_step e w) (draw_step-grows d e g w) steps h.each;
    }
begun_size d e g (program name lock steps) pictures bodies draws apps h = record {
  few = subst (λ lines. length lines < 16) (sym apps) h.few;
  names = ap (λ lines. are_names (map (λ line. line.name) lines ++ name ∷ [])) apps ∙ h.names;
  short = h.short;
  each = app_steps-grow d e g None steps h.each;
  locks = h.locks;
}

screen_keeps : (said : SoFar) (width height : ℕ) → Keeps said → said.screen ≡ None → 1 ≤ width → width ≤ 1024 → 1 ≤ height → height ≤ 768 → Keeps (record said { screen = Some (width, height) })
screen_keeps said width height k none w1 w2 h1 h2 =
    let d = declared_so_far said in
    let e : Declared = record d { width = width; height = height } in
    let narrow : d.width ≡ 0 = ap (λ o. (size_of o).0) none in
    let low : d.height ≡ 0 = ap (λ o. (size_of o).1) none in
    let g : Grows d e = grows-size d width height (omega arith) (omega arith) in
    record {
      screen = ((w1, w2), (h1, h2));
      declared = kept-size d width height (omega arith) (omega arith) k.declared;
      begun = begun_size d e g said.begun refl refl refl refl k.begun;
    }

-- ---- bitmaps

bitmap_begins : (said : SoFar) (name : List ℕ) (width height : ℕ) → Keeps said → is_too_many said (begins_bitmap name width height) ≡ false → 1 ≤ width → width ≤ 256 → 1 ≤ height → height ≤ 256 →
    Keeps (record said { begun = bitmap name width height [] })
bitmap_begins said name width height k many w1 w2 h1 h2 =
    let few = leb-false 64 (length said.bitmaps) many in
    let count = length-map said.bitmaps (λ line. line.bitmap) in
    record {
      screen = k.screen;
      declared = k.declared;
      begun = record {
        few = omega arith;
        wide = and_from (nat_le 1 width) (nat_le width 256) (le-leb 1 width w1) (le-leb width 256 w2);
        high = and_from (nat_le 1 height) (nat_le height 256) (le-leb 1 height h1) (le-leb height 256 h2);
        rows = height;
        some = h1;
        rest = omega arith;
      };
    }

-- the rows to come, one fewer
fewer : (rows width : ℕ) → 1 ≤ rows → (left : ℕ) × (rows * width ≡ left * width + width)
fewer zero width h = absurd (omega arith)
fewer (suc rows) width h = (rows, omega arith)

more_rows : (left width : ℕ) → 1 ≤ width → 0 < left * width → 1 ≤ left
more_rows zero width some h = absurd (omega arith)
more_rows (suc left) width some h = omega arith

row_ends : (left width : ℕ) → 1 ≤ width → (left ≡ 0 → ⊥) → 0 < left * width
row_ends zero width some h = absurd (h refl)
row_ends (suc left) width some h = omega arith

side_some : (side : ℕ) → is_side side ≡ true → 1 ≤ side
side_some side h = leb-true 1 side (and_first (nat_le 1 side) (nat_le side 256) h)

-- what is said behind a row
row_adds : (said : SoFar) (name : List ℕ) (width height : ℕ) (colors row : List Color) → Keeps (record said { begun = bitmap name width height colors }) → length row ≡ width →
    (b : Bool) → nat_lt (length (colors ++ row)) (width * height) ≡ b →
    Keeps (cond b (record said { begun = bitmap name width height (colors ++ row) })
    (record said {
      bitmaps = said.bitmaps ++ record { name = name; bitmap = record { width = width; height = height; colors = colors ++ row } } ∷ [];
      begun = nothing;
    }))
row_adds said name width height colors row k fits true below =
    let old = k.begun in
    let total = length-append colors row in
    let less = ltb-true (length (colors ++ row)) (width * height) below in
    let left = fewer old.rows width old.some in
    let rest = old.rest in
    let by = left.1 in
    record {
      screen = k.screen;
      declared = k.declared;
      begun = record {
        few = old.few;
        wide = old.wide;
        high = old.high;
        rows = left.0;
        some = more_rows left.0 width (side_some width old.wide) (omega arith);
        rest = omega arith;
      };
    }
row_adds said name width height colors row k fits false above =
    let old = k.begun in
    let d = declared_so_far said in
    let p : Picture = record { width = width; height = height; colors = colors ++ row } in
    let total = length-append colors row in
    let no_less = ltb-false (length (colors ++ row)) (width * height) above in
    let left = fewer old.rows width old.some in
    let rest = old.rest in
    let by = left.1 in
    let count : length (colors ++ row) ≡ width * height = omega arith in
    let here : is_picture p ≡ true =
    and_from (is_side width && is_side height) (length (colors ++ row) == width * height) (and_from (is_side width) (is_side height) old.wide old.high) (eq-eqb (length (colors ++ row)) (width * height) count) in
    record {
      screen = k.screen;
      declared = subst (λ (pictures : List Picture). AreKept (record d { pictures = pictures })) (sym (map_push (λ line. line.bitmap) said.bitmaps (record { name = name; bitmap = p })))
          (kept-picture d p old.few here k.declared);
      begun = tt;
    }

row_keeps : (said : SoFar) (b : Begun) (row : List Color) → Keeps (record said { begun = b }) → IsRow b (length row) → Keeps (said_then (record said { begun = b }) (adds_row row))
row_keeps said (bitmap name width height colors) row k fits = row_adds said name width height colors row k fits (nat_lt (length (colors ++ row)) (width * height)) refl
row_keeps said nothing row k fits = absurd fits
row_keeps said (handler_body w t what steps) row k fits = absurd fits
row_keeps said (draw_body w v steps) row k fits = absurd fits
row_keeps said (program name lock steps) row k fits = absurd fits

-- ---- instructions

step_in : (said : SoFar) (b : Begun) (step : Instruction) → Keeps (record said { begun = b }) → HasSteps b → length (steps_begun b) < 1024 →
    is_step_in (declared_so_far said) b step ≡ true → Keeps (said_then (record said { begun = b }) (adds_step step))
step_in said nothing step k has few fits = absurd has
step_in said (bitmap name width height colors) step k has few fits = absurd has
step_in said (handler_body w t what steps) step k has few fits =
    let old = k.begun in
    let more = length_push steps step in
    record {
      screen = k.screen;
      declared = k.declared;
      begun = record {
        window = old.window;
        handler = old.handler;
        word = old.word;
        free = old.free;
        few = old.few;
        new = old.new;
        short = omega arith;
        each = all-append (is_body_step (declared_so_far said) w) steps step old.each fits;
      };
    }
step_in said (draw_body w v steps) step k has few fits =
    let old = k.begun in
    let more = length_push steps step in
    record {
      screen = k.screen;
      declared = k.declared;
      begun = record {
        window = old.window;
        view = old.view;
        new = old.new;
        short = omega arith;
        each = all-append (is_draw_step (declared_so_far said) w) steps step old.each fits;
      };
    }
step_in said (program name lock steps) step k has few fits =
    let old = k.begun in
    let d = declared_so_far said in
    let more = length_push steps step in
    record {
      screen = k.screen;
      declared = k.declared;
      begun = record {
        few = old.few;
        names = old.names;
        short = omega arith;
        each = app_steps-last d None steps step old.each (subst (λ (o : Option ℕ). is_app_step d o step ≡ true) (sym old.locks) fits);
        locks = lock_after-last None steps step ∙ ap (λ o. lock_behind o step) old.locks;
      };
    }

few_steps : (said : SoFar) (step : Instruction) → is_too_many said (adds_step step) ≡ false → length (steps_begun said.begun) < 1024
few_steps said step many = leb-false 1024 (length (steps_begun said.begun)) (or_false_first (nat_le 1024 (length (steps_begun said.begun))) _ many)

-- ---- the end of what was begun

end_keeps : (said : SoFar) (b : Begun) → Keeps (record said { begun = b }) → HasSteps b → IsUnlocked b → Keeps (said_then (record said { begun = b }) closes)
end_keeps said nothing k has free = absurd has
end_keeps said (bitmap name width height colors) k has free = absurd has
end_keeps said (handler_body w t what steps) k has free = record {
  screen = k.screen;
  declared = kept-body (declared_so_far said) (record { window = w; target = t; what = what; program = steps }) k.begun k.declared;
  begun = tt;
}
end_keeps said (draw_body w v steps) k has free = record {
  screen = k.screen;
  declared = kept-draw (declared_so_far said) (record { window = w; view = v; program = steps }) k.begun k.declared;
  begun = tt;
}
end_keeps said (program name lock steps) k has free =
    let old = k.begun in
    let d = declared_so_far said in
    record {
      screen = k.screen;
      declared = kept-app d (record { name = name; program = steps }) old.few (app-of d steps old.short old.each (old.locks ∙ free)) old.names k.declared;
      begun = tt;
    }

-- ---- all deeds

keeps_then : (said : SoFar) (deed : Deed) → Keeps said → Fits said deed → IsFormed said deed → is_taken said deed ≡ false → is_too_many said deed ≡ false → Keeps (said_then said deed)
keeps_then said (sizes_screen width height) k f i taken many = screen_keeps said width height k i.0 i.1 f.0 i.2 f.1
keeps_then said (begins_bitmap name width height) k f i taken many = bitmap_begins said name width height k many f.2 f.3 f.4 f.5
keeps_then said (adds_row row) k f i taken many = row_keeps said said.begun row k f
keeps_then said (adds_window line) k f i taken many = record {
  screen = k.screen;
  declared = kept-window (declared_so_far said) line (leb-false 32 (length said.windows) many) i f.1 k.declared;
  begun = nothing_begun (declared_so_far (record said { windows = said.windows ++ line ∷ [] })) said.begun f.0;
}
keeps_then said (adds_view line) k f i taken many =
    let d = declared_so_far said in
    let full = nat_le 31 (length (view_lines d line.window)) in
    let deep = nat_le 8 (slice_index_or (depths_of (view_lines d line.window)) line.parent 0) in
    record {
      screen = k.screen;
      declared =
          kept-view d line (window-there said line.window f.1) (leb-false 31 (length (view_lines d line.window)) (or_false_first full deep many))
          (view_there said line.window line.parent f.3) (or_false_second full deep many) f.2 k.declared;
      begun = nothing_begun (declared_so_far (record said { views = said.views ++ line ∷ [] })) said.begun f.0;
    }
keeps_then said (adds_handler line) k f i taken many =
    let d = declared_so_far said in
    record {
      screen = k.screen;
      declared =
          kept-handler d line (window-there said line.window f.1) (leb-false 16 (length (plain_lines d line.window)) many)
          (target-there said line.window line.next f.3) f.2 k.declared;
      begun = nothing_begun (declared_so_far (record said { handlers = said.handlers ++ line ∷ [] })) said.begun f.0;
    }
keeps_then said (adds_filter line) k f i taken many =
    let d = declared_so_far said in
    record {
      screen = k.screen;
      declared =
          kept-filter d line (window-there said line.window f.1) (list_there said line.window line.list f.2) i (rule_there said line.window line.rule f.3)
          (leb-false 32 (length (filter (λ other. other.window == line.window && same_list other.list line.list) said.filters)) many) k.declared;
      begun = nothing_begun (declared_so_far (record said { filters = said.filters ++ line ∷ [] })) said.begun f.0;
    }
keeps_then said (begins_body w t what) k f i taken many = record {
  screen = k.screen;
  declared = k.declared;
  begun = record {
    window = window-there said w f.1;
    handler = target-there said w t f.2;
    word = i.0;
    free = i.1;
    few = leb-false 512 (length (body_lines (declared_so_far said) w)) many;
    new = taken;
    short = omega arith;
    each = refl;
  };
}
keeps_then said (begins_draw w v) k f i taken many = record {
  screen = k.screen;
  declared = k.declared;
  begun = record {
    window = window-there said w f.1;
    view = view_there said w v f.2;
    new = taken;
    short = omega arith;
    each = refl;
  };
}
keeps_then said (begins_program name) k f i taken many =
    let d = k.declared in
    record {
      screen = k.screen;
      declared = k.declared;
      begun = record {
        few = leb-false 16 (length said.apps) many;
        names = names-last (map (λ line. line.name) said.apps) name d.app_names f.1;
        short = omega arith;
        each = refl;
        locks = refl;
      };
    }
keeps_then said (adds_input event) k f i taken many = record {
  screen = k.screen;
  declared = kept-input (declared_so_far said) event (leb-false 4096 (length said.input) many) i k.declared;
  begun = nothing_begun (declared_so_far (record said { input = said.input ++ event ∷ [] })) said.begun f;
}
keeps_then said (adds_step step) k f i taken many = step_in said said.begun step k f.0 (few_steps said step many) (i many)
keeps_then said closes k f i taken many = end_keeps said said.begun k f i

-- a deed that is done keeps every limit
pub keeps_done : (said new : SoFar) (deed : Deed) → Keeps said → Fits said deed → IsFormed said deed → done said deed ≡ Ok new → Keeps new
keeps_done said new deed k f i e =
    let parts = done_is said deed new e in
    subst Keeps parts.2 (keeps_then said deed k f i parts.0 parts.1)
