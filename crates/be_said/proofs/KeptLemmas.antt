-- What is declared keeps its limits where more is declared elsewhere.
use Rattle.std.proofs.Common.{◌≡◌, ℕ, ◌<◌, ◌≤◌, ◌==◌, Bool, true, false, ◌&&◌, List, [], ◌∷◌, ◌++◌, length, filter, map, Option, Some, None, refl, ap, ◌∙◌, arith}
use Rattle.std.specs.List.{list_all}
use Rattle.std.proofs.lemmas.Bool.{eqb-true, and_from}
use Rattle.be_facts.proofs.Truths.{and_first, and_second, and_map}
use Rattle.be_facts.proofs.Lists.{map_push, all_weaker, length_push}
use Rattle.be_bitmap.specs.Pictures.{Picture}
use Rattle.be_handler.specs.Routes.{same_target}
use Rattle.be_message.specs.declared.target.Target.{Target}
use Rattle.be_said.proofs.AppendLemmas.{all-append, at-most-of, drops-last, filter-more}
use Rattle.be_said.proofs.GrowthLemmas.{Grows, app-grows, body-grows, draw-grows, event-grows, filter-grows, list-grows, plain-grows, rule-grows, window-grows}
use Rattle.be_said.specs.Keeps.{AreKept}
use Rattle.be_script.specs.declared.AppLine.{AppLine}
use Rattle.be_script.specs.declared.BodyLine.{BodyLine}
use Rattle.be_script.specs.declared.FilterLine.{FilterLine}
use Rattle.be_script.specs.declared.HandlerLine.{HandlerLine}
use Rattle.be_script.specs.declared.InputLine.{InputLine}
use Rattle.be_script.specs.declared.ViewLine.{ViewLine}
use Rattle.be_script.specs.Limits.{are_plain_from, are_views, is_at_most, is_body_line, is_draw_line, is_event, is_filter_line, is_filter_word, is_list, is_picture, is_rule, is_window, is_window_declared, plain_lines, same_list}
use Rattle.be_script.specs.Names.{are_names}
use Rattle.be_script.specs.Programs.{is_app_program}
use Rattle.be_script.specs.Script.{Declared}
use Rattle.be_script.specs.Windows.{body_lines, view_lines}
use Rattle.be_script.proofs.WorkNumbers.{same_target-true}

-- ---- each part

-- what a window declares, by its lines
abbrev pub are_of_window : Declared → ℕ → List ViewLine → List HandlerLine → List BodyLine → Bool
are_of_window d w views plain bodies =
    (are_views views && is_at_most 16 plain && are_plain_from d w 0 plain && are_names (map (λ line. line.name) views ++ map (λ line. line.name) plain))
    && is_at_most 512 bodies

module _ (d e : Declared) (g : Grows d e) where
  pub views-kept : (lines : List ViewLine) → list_all (λ line. is_window d line.window) lines ≡ true → list_all (λ line. is_window e line.window) lines ≡ true
  views-kept lines h = all_weaker (λ line. is_window d line.window) (λ line. is_window e line.window) (λ line. window-grows d e g line.window) lines h

  pub handlers-kept : (lines : List HandlerLine) → list_all (λ line. is_window d line.window) lines ≡ true → list_all (λ line. is_window e line.window) lines ≡ true
  handlers-kept lines h = all_weaker (λ line. is_window d line.window) (λ line. is_window e line.window) (λ line. window-grows d e g line.window) lines h

  pub filters-kept : e.filters ≡ d.filters → list_all (is_filter_line d) d.filters ≡ true → list_all (is_filter_line e) e.filters ≡ true
  filters-kept same h =
      ap (list_all (is_filter_line e)) same
      ∙ all_weaker (is_filter_line d) (is_filter_line e)
      (λ line. filter-grows d e g line (λ few. ap (λ lines. is_at_most 32 (filter (λ other. other.window == line.window && same_list other.list line.list) lines)) same ∙ few))
      d.filters h

  pub bodies-kept : e.bodies ≡ d.bodies → list_all (is_body_line d) d.bodies ≡ true → list_all (is_body_line e) e.bodies ≡ true
  bodies-kept same h =
      ap (list_all (is_body_line e)) same
      ∙ all_weaker (is_body_line d) (is_body_line e)
      (λ line. body-grows d e g line
      (λ few. ap (λ lines. is_at_most 1 (filter (λ other. same_target other.target line.target && other.what == line.what) (filter (λ other. other.window == line.window) lines))) same ∙ few))
      d.bodies h

  pub draws-kept : e.draws ≡ d.draws → list_all (is_draw_line d) d.draws ≡ true → list_all (is_draw_line e) e.draws ≡ true
  draws-kept same h =
      ap (list_all (is_draw_line e)) same
      ∙ all_weaker (is_draw_line d) (is_draw_line e)
      (λ line. draw-grows d e g line (λ few. ap (λ lines. is_at_most 1 (filter (λ other. other.window == line.window && other.view == line.view) lines)) same ∙ few))
      d.draws h

  pub apps-kept : (lines : List AppLine) → list_all (λ line. is_app_program d line.program) lines ≡ true → list_all (λ line. is_app_program e line.program) lines ≡ true
  apps-kept lines h = all_weaker (λ line. is_app_program d line.program) (λ line. is_app_program e line.program) (λ line. app-grows d e g line.program) lines h

  pub input-kept : (events : List InputLine) → list_all (is_event d) events ≡ true → list_all (is_event e) events ≡ true
  input-kept events h = all_weaker (is_event d) (is_event e) (event-grows d e g) events h

  pub window-kept : (w : ℕ) (views : List ViewLine) (plain : List HandlerLine) (bodies : List BodyLine) → are_of_window d w views plain bodies ≡ true → are_of_window e w views plain bodies ≡ true
  window-kept w views plain bodies h =
      let a = are_views views && is_at_most 16 plain in
      let p = are_plain_from d w 0 plain in
      let p' = are_plain_from e w 0 plain in
      let n = are_names (map (λ line. line.name) views ++ map (λ line. line.name) plain) in
      let b = is_at_most 512 bodies in
      and_map ((a && p) && n) b ((a && p') && n) b (and_map (a && p) n (a && p') n (and_map a p a p' (λ x. x) (plain-grows d e g w 0 plain)) (λ x. x)) (λ x. x) h

  -- what is declared of the windows that were there, where they have the same lines
  pub windows-kept : e.views ≡ d.views → e.handlers ≡ d.handlers → e.bodies ≡ d.bodies → (w : ℕ) → is_window_declared d w ≡ true → is_window_declared e w ≡ true
  windows-kept views plain bodies w h =
      ap (λ lines. are_of_window e w (filter (λ line. line.window == w) lines) (plain_lines e w) (body_lines e w)) views
      ∙ ap (λ lines. are_of_window e w (view_lines d w) (filter (λ line. line.window == w) lines) (body_lines e w)) plain
      ∙ ap (λ lines. are_of_window e w (view_lines d w) (plain_lines d w) (filter (λ line. line.window == w) lines)) bodies
      ∙ window-kept w (view_lines d w) (plain_lines d w) (body_lines d w) h

-- ---- the screen

pub grows-size : (d : Declared) (width height : ℕ) → d.width ≤ width → d.height ≤ height → Grows d (record d { width = width; height = height })
grows-size d width height wide high = record {
  windows = omega arith;
  views = λ w. omega arith;
  plain = λ w. omega arith;
  pictures = omega arith;
  apps = omega arith;
  width = wide;
  height = high;
}

pub kept-size : (d : Declared) (width height : ℕ) → d.width ≤ width → d.height ≤ height → AreKept d → AreKept (record d { width = width; height = height })
kept-size d width height wide high k =
    let e : Declared = record d { width = width; height = height } in
    let g : Grows d e = grows-size d width height wide high in
    record {
      few_windows = k.few_windows;
      few_apps = k.few_apps;
      few_pictures = k.few_pictures;
      few_input = k.few_input;
      pictures = k.pictures;
      windows = k.windows;
      names = k.names;
      views = views-kept d e g d.views k.views;
      handlers = handlers-kept d e g d.handlers k.handlers;
      filters = filters-kept d e g refl k.filters;
      bodies = bodies-kept d e g refl k.bodies;
      draws = draws-kept d e g refl k.draws;
      each_window = λ w there. windows-kept d e g refl refl refl w (k.each_window w there);
      apps = apps-kept d e g d.apps k.apps;
      app_names = k.app_names;
      input = input-kept d e g d.input k.input;
    }

-- ---- a picture

grows-pictures : (d : Declared) (p : Picture) → Grows d (record d { pictures = d.pictures ++ p ∷ [] })
grows-pictures d p =
    let more = length_push d.pictures p in
    record {
      windows = omega arith;
      views = λ w. omega arith;
      plain = λ w. omega arith;
      pictures = omega arith;
      apps = omega arith;
      width = omega arith;
      height = omega arith;
    }

pub kept-picture : (d : Declared) (p : Picture) → length d.pictures < 64 → is_picture p ≡ true → AreKept d → AreKept (record d { pictures = d.pictures ++ p ∷ [] })
kept-picture d p few here k =
    let e : Declared = record d { pictures = d.pictures ++ p ∷ [] } in
    let g : Grows d e = grows-pictures d p in
    let more = length_push d.pictures p in
    record {
      few_windows = k.few_windows;
      few_apps = k.few_apps;
      few_pictures = omega arith;
      few_input = k.few_input;
      pictures = all-append is_picture d.pictures p k.pictures here;
      windows = k.windows;
      names = k.names;
      views = views-kept d e g d.views k.views;
      handlers = handlers-kept d e g d.handlers k.handlers;
      filters = filters-kept d e g refl k.filters;
      bodies = bodies-kept d e g refl k.bodies;
      draws = draws-kept d e g refl k.draws;
      each_window = λ w there. windows-kept d e g refl refl refl w (k.each_window w there);
      apps = apps-kept d e g d.apps k.apps;
      app_names = k.app_names;
      input = input-kept d e g d.input k.input;
    }

-- ---- input

grows-input : (d : Declared) (event : InputLine) → Grows d (record d { input = d.input ++ event ∷ [] })
grows-input d event = record {
  windows = omega arith;
  views = λ w. omega arith;
  plain = λ w. omega arith;
  pictures = omega arith;
  apps = omega arith;
  width = omega arith;
  height = omega arith;
}

pub kept-input : (d : Declared) (event : InputLine) → length d.input < 4096 → is_event d event ≡ true → AreKept d → AreKept (record d { input = d.input ++ event ∷ [] })
kept-input d event few here k =
    let e : Declared = record d { input = d.input ++ event ∷ [] } in
    let g : Grows d e = grows-input d event in
    let more = length_push d.input event in
    record {
      few_windows = k.few_windows;
      few_apps = k.few_apps;
      few_pictures = k.few_pictures;
      few_input = omega arith;
      pictures = k.pictures;
      windows = k.windows;
      names = k.names;
      views = views-kept d e g d.views k.views;
      handlers = handlers-kept d e g d.handlers k.handlers;
      filters = filters-kept d e g refl k.filters;
      bodies = bodies-kept d e g refl k.bodies;
      draws = draws-kept d e g refl k.draws;
      each_window = λ w there. windows-kept d e g refl refl refl w (k.each_window w there);
      apps = apps-kept d e g d.apps k.apps;
      app_names = k.app_names;
      input = input-kept d e g (d.input ++ event ∷ []) (all-append (is_event d) d.input event k.input here);
    }

-- ---- an application

grows-app : (d : Declared) (line : AppLine) → Grows d (record d { apps = d.apps ++ line ∷ [] })
grows-app d line =
    let more = length_push d.apps line in
    record {
      windows = omega arith;
      views = λ w. omega arith;
      plain = λ w. omega arith;
      pictures = omega arith;
      apps = omega arith;
      width = omega arith;
      height = omega arith;
    }

pub kept-app : (d : Declared) (line : AppLine) → length d.apps < 16 → is_app_program d line.program ≡ true →
    are_names (map (λ line. line.name) d.apps ++ line.name ∷ []) ≡ true → AreKept d → AreKept (record d { apps = d.apps ++ line ∷ [] })
kept-app d line few here names k =
    let e : Declared = record d { apps = d.apps ++ line ∷ [] } in
    let g : Grows d e = grows-app d line in
    let more = length_push d.apps line in
    record {
      few_windows = k.few_windows;
      few_apps = omega arith;
      few_pictures = k.few_pictures;
      few_input = k.few_input;
      pictures = k.pictures;
      windows = k.windows;
      names = k.names;
      views = views-kept d e g d.views k.views;
      handlers = handlers-kept d e g d.handlers k.handlers;
      filters = filters-kept d e g refl k.filters;
      bodies = bodies-kept d e g refl k.bodies;
      draws = draws-kept d e g refl k.draws;
      each_window = λ w there. windows-kept d e g refl refl refl w (k.each_window w there);
      apps = apps-kept d e g (d.apps ++ line ∷ []) (all-append (λ line. is_app_program d line.program) d.apps line k.apps here);
      app_names = ap are_names (map_push (λ line. line.name) d.apps line) ∙ names;
      input = input-kept d e g d.input k.input;
    }

-- ---- a filter

grows-filter : (d : Declared) (line : FilterLine) → Grows d (record d { filters = d.filters ++ line ∷ [] })
grows-filter d line = record {
  windows = omega arith;
  views = λ w. omega arith;
  plain = λ w. omega arith;
  pictures = omega arith;
  apps = omega arith;
  width = omega arith;
  height = omega arith;
}

-- lists are the same both ways, and two that are the same as one
list-is : (a b : Option Target) → same_list a b ≡ true → a ≡ b
list-is None None h = refl
list-is None (Some b) h = absurd ((cc))
list-is (Some a) None h = absurd ((cc))
list-is (Some a) (Some b) h = ap Some (same_target-true a b h)

-- the filters of a list that a new one is put into are those that were counted with it; in another list there is none more
filters-few : (d : Declared) (line old : FilterLine) → length (filter (λ other. other.window == line.window && same_list other.list line.list) d.filters) < 32 →
    is_at_most 32 (filter (λ other. other.window == old.window && same_list other.list old.list) d.filters) ≡ true →
    is_at_most 32 (filter (λ other. other.window == old.window && same_list other.list old.list) (d.filters ++ line ∷ [])) ≡ true
filters-few d line old few h = by (line.window == old.window && same_list line.list old.list) refl
  where
    by : (b : Bool) → (line.window == old.window && same_list line.list old.list) ≡ b →
        is_at_most 32 (filter (λ other. other.window == old.window && same_list other.list old.list) (d.filters ++ line ∷ [])) ≡ true
    by false out = ap (is_at_most 32) (drops-last (λ other. other.window == old.window && same_list other.list old.list) d.filters line out) ∙ h
    by true within =
        let test : ℕ → Option Target → FilterLine → Bool = λ w list other. other.window == w && same_list other.list list in
        let window : line.window ≡ old.window = eqb-true line.window old.window (and_first (line.window == old.window) (same_list line.list old.list) within) in
        let list : line.list ≡ old.list = list-is line.list old.list (and_second (line.window == old.window) (same_list line.list old.list) within) in
        let count : length (filter (test line.window line.list) d.filters) ≡ length (filter (test old.window old.list) d.filters) =
        ap (λ w. length (filter (test w line.list) d.filters)) window ∙ ap (λ l. length (filter (test old.window l) d.filters)) list in
        let more = filter-more (test old.window old.list) d.filters line in
        at-most-of 32 (filter (test old.window old.list) (d.filters ++ line ∷ [])) (omega arith)

pub kept-filter : (d : Declared) (line : FilterLine) → is_window d line.window ≡ true → is_list d line.window line.list ≡ true →
    is_filter_word line.what ≡ true → is_rule d line.window line.rule ≡ true →
    length (filter (λ other. other.window == line.window && same_list other.list line.list) d.filters) < 32 → AreKept d → AreKept (record d { filters = d.filters ++ line ∷ [] })
kept-filter d line window list word rule few k =
    let e : Declared = record d { filters = d.filters ++ line ∷ [] } in
    let g : Grows d e = grows-filter d line in
    let old : list_all (is_filter_line e) d.filters ≡ true =
    all_weaker (is_filter_line d) (is_filter_line e) (λ other. filter-grows d e g other (filters-few d line other few)) d.filters k.filters in
    let test : FilterLine → Bool = λ other. other.window == line.window && same_list other.list line.list in
    let more = filter-more test d.filters line in
    let most : is_at_most 32 (filter test (d.filters ++ line ∷ [])) ≡ true = at-most-of 32 (filter test (d.filters ++ line ∷ [])) (omega arith) in
    let a = is_window e line.window in
    let b = is_list e line.window line.list in
    let c = is_filter_word line.what in
    let r = is_rule e line.window line.rule in
    let here : is_filter_line e line ≡ true =
    and_from (((a && b) && c) && r) (is_at_most 32 (filter test (d.filters ++ line ∷ [])))
    (and_from ((a && b) && c) r (and_from (a && b) c (and_from a b window (list-grows d e g line.window line.list list)) word) (rule-grows d e g line.window line.rule rule))
    most in
    record {
      few_windows = k.few_windows;
      few_apps = k.few_apps;
      few_pictures = k.few_pictures;
      few_input = k.few_input;
      pictures = k.pictures;
      windows = k.windows;
      names = k.names;
      views = views-kept d e g d.views k.views;
      handlers = handlers-kept d e g d.handlers k.handlers;
      filters = all-append (is_filter_line e) d.filters line old here;
      bodies = bodies-kept d e g refl k.bodies;
      draws = draws-kept d e g refl k.draws;
      each_window = λ w there. windows-kept d e g refl refl refl w (k.each_window w there);
      apps = apps-kept d e g d.apps k.apps;
      app_names = k.app_names;
      input = input-kept d e g d.input k.input;
    }
