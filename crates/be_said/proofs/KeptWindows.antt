-- A window more, a view more or a plain handler more.
use Rattle.std.proofs.Common.{◌≡◌, ℕ, zero, suc, ◌+◌, ◌<◌, ◌==◌, Bool, true, false, not, ◌&&◌, codes, List, [], ◌∷◌, ◌++◌, length, filter, fold, map, Option, Some, None, refl, ap, sym, ◌∙◌, subst, arith, ltb-true, length-append}
use Rattle.std.specs.Prelude.{nat_lt, nat_le, slice_get, slice_index_or}
use Rattle.std.proofs.lemmas.Bool.{eqb-true, leb-false, lt-ltb, ltb-false, and_from}
use Rattle.be_facts.proofs.Truths.{and_first, and_second}
use Rattle.be_facts.proofs.Lists.{all_weaker, length_push}
use Rattle.be_message.specs.declared.target.Target.{Target}
use Rattle.be_message.specs.declared.target.Target.TheVariants as target
use Rattle.be_said.proofs.AppendLemmas.{all-append, at-most-of, drops-last, filter-more, keeps-last, none-beyond}
use Rattle.be_said.proofs.DeclaredNames.{named-last, no-names, plain-named, view-named}
use Rattle.be_said.proofs.GrowthLemmas.{Grows}
use Rattle.be_said.proofs.KeptLemmas.{apps-kept, are_of_window, bodies-kept, draws-kept, filters-kept, handlers-kept, input-kept, views-kept, window-kept, windows-kept}
use Rattle.be_said.specs.Fits.{IsNew}
use Rattle.be_said.specs.Judging.{depths_of}
use Rattle.be_said.specs.Keeps.{AreKept}
use Rattle.be_script.specs.declared.BodyLine.{BodyLine}
use Rattle.be_script.specs.declared.HandlerLine.{HandlerLine}
use Rattle.be_script.specs.declared.ViewLine.{ViewLine}
use Rattle.be_script.specs.declared.WindowLine.{WindowLine}
use Rattle.be_actor.specs.Limits.{is_reserved, is_what}
use Rattle.be_handler.specs.Routes.{same_target}
use Rattle.be_script.specs.Limits.{are_plain_from, are_views, are_views_below, is_at_most, is_body_line, is_next, is_window, is_window_declared, is_window_line, lies_below, plain_lines}
use Rattle.be_script.specs.Names.{are_names}
use Rattle.be_script.specs.Programs.{is_body_program, is_handler_of, plain_count, view_count}
use Rattle.be_script.specs.Script.{Declared}
use Rattle.be_script.specs.Windows.{body_lines, view_lines}

-- ---- a window

grows-window : (d : Declared) (line : WindowLine) → Grows d (record d { windows = d.windows ++ line ∷ [] })
grows-window d line =
    let more = length_push d.windows line in
    record {
      windows = omega arith;
      views = λ w. omega arith;
      plain = λ w. omega arith;
      pictures = omega arith;
      apps = omega arith;
      width = omega arith;
      height = omega arith;
    }

body_window : (d : Declared) (line : BodyLine) → is_body_line d line ≡ true → is_window d line.window ≡ true
body_window d line h =
    let a = is_window d line.window in
    let b = is_handler_of d line.window line.target in
    let c = is_what line.what in
    let e = not (is_reserved line.what) in
    let f = is_body_program d line.window line.program in
    let g = is_at_most 1 (filter (λ other. same_target other.target line.target && other.what == line.what) (body_lines d line.window)) in
    and_first a b (and_first (a && b) c (and_first ((a && b) && c) e (and_first (((a && b) && c) && e) f (and_first ((((a && b) && c) && e) && f) g h))))

nothing_of : (d : Declared) (w : ℕ) → are_of_window d w [] [] [] ≡ true
nothing_of d w = ap (λ b. b && true) no-names

-- nothing is declared of a window that isn't there
new_window : (d e : Declared) (w : ℕ) → AreKept d → w ≡ length d.windows → e.views ≡ d.views → e.handlers ≡ d.handlers → e.bodies ≡ d.bodies → is_window_declared e w ≡ true
new_window d e w k same views plain bodies =
    let at : ℕ → Type 0 = λ n. is_window_declared e n ≡ true in
    let n = length d.windows in
    let of_views : filter (λ line. line.window == n) e.views ≡ [] = ap (filter (λ line. line.window == n)) views ∙ none-beyond (λ line. line.window) n d.views k.views in
    let of_plain : filter (λ line. line.window == n) e.handlers ≡ [] = ap (filter (λ line. line.window == n)) plain ∙ none-beyond (λ line. line.window) n d.handlers k.handlers in
    let of_bodies : filter (λ line. line.window == n) e.bodies ≡ [] =
    ap (filter (λ line. line.window == n)) bodies
    ∙ none-beyond (λ line. line.window) n d.bodies (all_weaker (is_body_line d) (λ line. is_window d line.window) (body_window d) d.bodies k.bodies) in
    subst at (sym same)
    (ap (λ lines. are_of_window e n lines (plain_lines e n) (body_lines e n)) of_views
    ∙ ap (λ lines. are_of_window e n [] lines (body_lines e n)) of_plain
    ∙ ap (λ lines. are_of_window e n [] [] lines) of_bodies
    ∙ nothing_of e n)

pub kept-window : (d : Declared) (line : WindowLine) → length d.windows < 32 → is_window_line line ≡ true → IsNew (map (λ line. line.name) d.windows) line.name →
    AreKept d → AreKept (record d { windows = d.windows ++ line ∷ [] })
kept-window d line few here name k =
    let e : Declared = record d { windows = d.windows ++ line ∷ [] } in
    let g : Grows d e = grows-window d line in
    let more = length_push d.windows line in
    record {
      few_windows = omega arith;
      few_apps = k.few_apps;
      few_pictures = k.few_pictures;
      few_input = k.few_input;
      pictures = k.pictures;
      windows = all-append is_window_line d.windows line k.windows here;
      names = named-last (λ line. line.name) d.windows line k.names name;
      views = views-kept d e g d.views k.views;
      handlers = handlers-kept d e g d.handlers k.handlers;
      filters = filters-kept d e g refl k.filters;
      bodies = bodies-kept d e g refl k.bodies;
      draws = draws-kept d e g refl k.draws;
      each_window = λ w there. by w there (nat_lt w (length d.windows)) refl;
      apps = apps-kept d e g d.apps k.apps;
      app_names = k.app_names;
      input = input-kept d e g d.input k.input;
    }
  where
    by : (w : ℕ) → w < length (d.windows ++ line ∷ []) → (b : Bool) → nat_lt w (length d.windows) ≡ b →
        is_window_declared (record d { windows = d.windows ++ line ∷ [] }) w ≡ true
    by w there true h = windows-kept d (record d { windows = d.windows ++ line ∷ [] }) (grows-window d line) refl refl refl w (k.each_window w (ltb-true w (length d.windows) h))
    by w there false h =
        let above = ltb-false w (length d.windows) h in
        let more = length_push d.windows line in
        new_window d (record d { windows = d.windows ++ line ∷ [] }) w k (omega arith) refl refl refl

-- ---- how deep views lie

abbrev with_depth : List ℕ → ViewLine → List ℕ
with_depth depths line = depths ++ (slice_index_or depths line.parent 0 + 1) ∷ []

found : (depths : List ℕ) (k depth : ℕ) → slice_get depths k ≡ Some depth → slice_index_or depths k 0 ≡ depth
found [] k depth e = absurd ((cc))
found (x ∷ xs) zero depth e = (cc)
found (x ∷ xs) (suc k) depth e = found xs k depth e

within : (depths : List ℕ) (k : ℕ) → k < length depths → slice_get depths k ≡ Some (slice_index_or depths k 0)
within [] k h = absurd (omega arith)
within (x ∷ xs) zero h = refl
within (x ∷ xs) (suc k) h = within xs k (omega arith)

-- the views behind one that lies deep enough
lies_with : (depths : List ℕ) (parent : ℕ) (more : List ℕ → Bool) (new : List ℕ → Bool) (o : Option ℕ) → slice_get depths parent ≡ o →
    (more (depths ++ (slice_index_or depths parent 0 + 1) ∷ []) ≡ true → new (depths ++ (slice_index_or depths parent 0 + 1) ∷ []) ≡ true) →
    lies_below depths o more ≡ true → lies_below depths o new ≡ true
lies_with depths parent more new None at rest h = h
lies_with depths parent more new (Some depth) at rest h =
    let same : slice_index_or depths parent 0 ≡ depth = found depths parent depth at in
    and_from (nat_lt depth 8) (new (depths ++ (depth + 1) ∷ [])) (and_first (nat_lt depth 8) (more (depths ++ (depth + 1) ∷ [])) h)
    (subst (λ (n : ℕ). more (depths ++ (n + 1) ∷ []) ≡ true → new (depths ++ (n + 1) ∷ []) ≡ true) same rest (and_second (nat_lt depth 8) (more (depths ++ (depth + 1) ∷ [])) h))

-- one more behind the others
below_last : (lines : List ViewLine) (depths : List ℕ) (line : ViewLine) → are_views_below lines depths ≡ true →
    are_views_below (line ∷ []) (fold with_depth depths lines) ≡ true → are_views_below (lines ++ line ∷ []) depths ≡ true
below_last [] depths line h last = last
below_last (x ∷ lines) depths line h last =
    lies_with depths x.parent (are_views_below lines) (are_views_below (lines ++ line ∷ [])) (slice_get depths x.parent) refl
    (λ rest. below_last lines (with_depth depths x) line rest last) h

count_depths : (lines : List ViewLine) (depths : List ℕ) → length (fold with_depth depths lines) ≡ length depths + length lines
count_depths [] depths = omega arith
count_depths (x ∷ lines) depths =
    let rest = count_depths lines (with_depth depths x) in
    let one = length-append depths ((slice_index_or depths x.parent 0 + 1) ∷ []) in
    omega arith

last_lies : (depths : List ℕ) (line : ViewLine) → line.parent < length depths → slice_index_or depths line.parent 0 < 8 → are_views_below (line ∷ []) depths ≡ true
last_lies depths line there shallow =
    ap (λ o. lies_below depths o (λ more. true)) (within depths line.parent there)
    ∙ and_from (nat_lt (slice_index_or depths line.parent 0) 8) true (lt-ltb (slice_index_or depths line.parent 0) 8 shallow) refl

views-last : (lines : List ViewLine) (line : ViewLine) → are_views lines ≡ true → length lines < 31 → line.parent < length lines + 1 →
    nat_le 8 (slice_index_or (depths_of lines) line.parent 0) ≡ false → are_views (lines ++ line ∷ []) ≡ true
views-last lines line h few there shallow =
    let below = and_second (is_at_most 31 lines) (are_views_below lines (1 ∷ [])) h in
    let count = count_depths lines (1 ∷ []) in
    let more = length_push lines line in
    let last : are_views_below (line ∷ []) (depths_of lines) ≡ true =
    last_lies (depths_of lines) line (omega arith) (leb-false 8 (slice_index_or (depths_of lines) line.parent 0) shallow) in
    and_from (is_at_most 31 (lines ++ line ∷ [])) (are_views_below (lines ++ line ∷ []) (1 ∷ []))
    (at-most-of 31 (lines ++ line ∷ []) (omega arith)) (below_last lines (1 ∷ []) line below last)

-- ---- a view

grows-view : (d : Declared) (line : ViewLine) → Grows d (record d { views = d.views ++ line ∷ [] })
grows-view d line = record {
  windows = omega arith;
  views = λ w. let more = filter-more (λ line. line.window == w) d.views line in omega arith;
  plain = λ w. omega arith;
  pictures = omega arith;
  apps = omega arith;
  width = omega arith;
  height = omega arith;
}

-- the parts of what a window declares
pub of_parts : (a b c e f : Bool) → ((((a && b) && c) && e) && f) ≡ true → (a ≡ true) × (b ≡ true) × (c ≡ true) × (e ≡ true) × (f ≡ true)
of_parts a b c e f h =
    let four = and_first (((a && b) && c) && e) f h in
    let three = and_first ((a && b) && c) e four in
    let two = and_first (a && b) c three in
    (and_first a b two, and_second a b two, and_second (a && b) c three, and_second ((a && b) && c) e four, and_second (((a && b) && c) && e) f h)

pub from_parts : (a b c e f : Bool) → a ≡ true → b ≡ true → c ≡ true → e ≡ true → f ≡ true → ((((a && b) && c) && e) && f) ≡ true
from_parts a b c e f p q r s t = and_from (((a && b) && c) && e) f (and_from ((a && b) && c) e (and_from (a && b) c (and_from a b p q) r) s) t

-- of its window
view_in : (d : Declared) (w : ℕ) (views : List ViewLine) (plain : List HandlerLine) (bodies : List BodyLine) (line : ViewLine) → are_of_window d w views plain bodies ≡ true →
    length views < 31 → line.parent < length views + 1 → nat_le 8 (slice_index_or (depths_of views) line.parent 0) ≡ false →
    IsNew ((codes "root" ∷ map (λ line. line.name) views) ++ map (λ line. line.name) plain) line.name → are_of_window d w (views ++ line ∷ []) plain bodies ≡ true
view_in d w views plain bodies line h few there shallow name =
    let old : List ViewLine → Bool = λ lines. are_names (map (λ line. line.name) lines ++ map (λ line. line.name) plain) in
    let p = of_parts (are_views views) (is_at_most 16 plain) (are_plain_from d w 0 plain) (old views) (is_at_most 512 bodies) h in
    from_parts (are_views (views ++ line ∷ [])) (is_at_most 16 plain) (are_plain_from d w 0 plain) (old (views ++ line ∷ [])) (is_at_most 512 bodies)
    (views-last views line p.0 few there shallow) p.1 p.2 (view-named (λ line. line.name) views line (map (λ line. line.name) plain) p.3 name) p.4

pub kept-view : (d : Declared) (line : ViewLine) → is_window d line.window ≡ true → length (view_lines d line.window) < 31 →
    line.parent < length (view_lines d line.window) + 1 → nat_le 8 (slice_index_or (depths_of (view_lines d line.window)) line.parent 0) ≡ false →
    IsNew ((codes "root" ∷ map (λ line. line.name) (view_lines d line.window)) ++ map (λ line. line.name) (plain_lines d line.window)) line.name →
    AreKept d → AreKept (record d { views = d.views ++ line ∷ [] })
kept-view d line window few there shallow name k =
    let e : Declared = record d { views = d.views ++ line ∷ [] } in
    let g : Grows d e = grows-view d line in
    record {
      few_windows = k.few_windows;
      few_apps = k.few_apps;
      few_pictures = k.few_pictures;
      few_input = k.few_input;
      pictures = k.pictures;
      windows = k.windows;
      names = k.names;
      views = all-append (λ line. is_window d line.window) d.views line k.views window;
      handlers = handlers-kept d e g d.handlers k.handlers;
      filters = filters-kept d e g refl k.filters;
      bodies = bodies-kept d e g refl k.bodies;
      draws = draws-kept d e g refl k.draws;
      each_window = λ w within. by w within (line.window == w) refl;
      apps = apps-kept d e g d.apps k.apps;
      app_names = k.app_names;
      input = input-kept d e g d.input k.input;
    }
  where
    by : (w : ℕ) → w < length d.windows → (b : Bool) → (line.window == w) ≡ b → is_window_declared (record d { views = d.views ++ line ∷ [] }) w ≡ true
    by w within false other =
        ap (λ lines. are_of_window (record d { views = d.views ++ line ∷ [] }) w lines (plain_lines d w) (body_lines d w)) (drops-last (λ line. line.window == w) d.views line other)
        ∙ window-kept d (record d { views = d.views ++ line ∷ [] }) (grows-view d line) w (view_lines d w) (plain_lines d w) (body_lines d w) (k.each_window w within)
    by w within true same =
        let is : line.window ≡ w = eqb-true line.window w same in
        ap (λ lines. are_of_window (record d { views = d.views ++ line ∷ [] }) w lines (plain_lines d w) (body_lines d w)) (keeps-last (λ line. line.window == w) d.views line same)
        ∙ view_in (record d { views = d.views ++ line ∷ [] }) w (view_lines d w) (plain_lines d w) (body_lines d w) line
        (window-kept d (record d { views = d.views ++ line ∷ [] }) (grows-view d line) w (view_lines d w) (plain_lines d w) (body_lines d w) (k.each_window w within))
        (subst (λ (n : ℕ). length (view_lines d n) < 31) is few)
        (subst (λ (n : ℕ). line.parent < length (view_lines d n) + 1) is there)
        (subst (λ (n : ℕ). nat_le 8 (slice_index_or (depths_of (view_lines d n)) line.parent 0) ≡ false) is shallow)
        (subst (λ (n : ℕ). IsNew ((codes "root" ∷ map (λ line. line.name) (view_lines d n)) ++ map (λ line. line.name) (plain_lines d n)) line.name) is name)

-- ---- a plain handler

grows-handler : (d : Declared) (line : HandlerLine) → Grows d (record d { handlers = d.handlers ++ line ∷ [] })
grows-handler d line = record {
  windows = omega arith;
  views = λ w. omega arith;
  plain = λ w. let more = filter-more (λ line. line.window == w) d.handlers line in omega arith;
  pictures = omega arith;
  apps = omega arith;
  width = omega arith;
  height = omega arith;
}

plain_last : (d : Declared) (w k : ℕ) (lines : List HandlerLine) (line : HandlerLine) → are_plain_from d w k lines ≡ true → is_next d w (k + length lines) line.next ≡ true →
    are_plain_from d w k (lines ++ line ∷ []) ≡ true
plain_last d w k [] line h last =
    let same : k + 0 ≡ k = omega arith in
    and_from (is_next d w k line.next) true (subst (λ (n : ℕ). is_next d w n line.next ≡ true) same last) refl
plain_last d w k (x ∷ lines) line h last =
    let same : k + suc (length lines) ≡ k + 1 + length lines = omega arith in
    and_from (is_next d w k x.next) (are_plain_from d w (k + 1) (lines ++ line ∷ [])) (and_first (is_next d w k x.next) (are_plain_from d w (k + 1) lines) h)
    (plain_last d w (k + 1) lines line (and_second (is_next d w k x.next) (are_plain_from d w (k + 1) lines) h) (subst (λ (n : ℕ). is_next d w n line.next ≡ true) same last))

-- the handler behind all others may go on to each of them
next_of : (d e : Declared) (w : ℕ) (t : Target) → view_count e w ≡ view_count d w → is_handler_of d w t ≡ true → is_next e w (plain_count d w) t ≡ true
next_of d e w target.Window same h = refl
next_of d e w (target.View v) same h = ap (nat_lt v) same ∙ h
next_of d e w (target.Plain p) same h = h

handler_in : (d : Declared) (w : ℕ) (views : List ViewLine) (plain : List HandlerLine) (bodies : List BodyLine) (line : HandlerLine) → are_of_window d w views plain bodies ≡ true →
    length plain < 16 → is_next d w (length plain) line.next ≡ true →
    IsNew ((codes "root" ∷ map (λ line. line.name) views) ++ map (λ line. line.name) plain) line.name → are_of_window d w views (plain ++ line ∷ []) bodies ≡ true
handler_in d w views plain bodies line h few next name =
    let old : List HandlerLine → Bool = λ lines. are_names (map (λ line. line.name) views ++ map (λ line. line.name) lines) in
    let p = of_parts (are_views views) (is_at_most 16 plain) (are_plain_from d w 0 plain) (old plain) (is_at_most 512 bodies) h in
    let more = length_push plain line in
    let same : length plain ≡ 0 + length plain = omega arith in
    from_parts (are_views views) (is_at_most 16 (plain ++ line ∷ [])) (are_plain_from d w 0 (plain ++ line ∷ [])) (old (plain ++ line ∷ [])) (is_at_most 512 bodies)
    p.0 (at-most-of 16 (plain ++ line ∷ []) (omega arith)) (plain_last d w 0 plain line p.2 (subst (λ (n : ℕ). is_next d w n line.next ≡ true) same next))
    (plain-named (map (λ line. line.name) views) (λ line. line.name) plain line p.3 name) p.4

pub kept-handler : (d : Declared) (line : HandlerLine) → is_window d line.window ≡ true → length (plain_lines d line.window) < 16 →
    is_handler_of d line.window line.next ≡ true →
    IsNew ((codes "root" ∷ map (λ line. line.name) (view_lines d line.window)) ++ map (λ line. line.name) (plain_lines d line.window)) line.name →
    AreKept d → AreKept (record d { handlers = d.handlers ++ line ∷ [] })
kept-handler d line window few next name k =
    let e : Declared = record d { handlers = d.handlers ++ line ∷ [] } in
    let g : Grows d e = grows-handler d line in
    record {
      few_windows = k.few_windows;
      few_apps = k.few_apps;
      few_pictures = k.few_pictures;
      few_input = k.few_input;
      pictures = k.pictures;
      windows = k.windows;
      names = k.names;
      views = views-kept d e g d.views k.views;
      handlers = all-append (λ line. is_window d line.window) d.handlers line k.handlers window;
      filters = filters-kept d e g refl k.filters;
      bodies = bodies-kept d e g refl k.bodies;
      draws = draws-kept d e g refl k.draws;
      each_window = λ w within. by w within (line.window == w) refl;
      apps = apps-kept d e g d.apps k.apps;
      app_names = k.app_names;
      input = input-kept d e g d.input k.input;
    }
  where
    by : (w : ℕ) → w < length d.windows → (b : Bool) → (line.window == w) ≡ b → is_window_declared (record d { handlers = d.handlers ++ line ∷ [] }) w ≡ true
    by w within false other =
        ap (λ lines. are_of_window (record d { handlers = d.handlers ++ line ∷ [] }) w (view_lines d w) lines (body_lines d w)) (drops-last (λ line. line.window == w) d.handlers line other)
        ∙ window-kept d (record d { handlers = d.handlers ++ line ∷ [] }) (grows-handler d line) w (view_lines d w) (plain_lines d w) (body_lines d w) (k.each_window w within)
    by w within true same =
        let is : line.window ≡ w = eqb-true line.window w same in
        ap (λ lines. are_of_window (record d { handlers = d.handlers ++ line ∷ [] }) w (view_lines d w) lines (body_lines d w)) (keeps-last (λ line. line.window == w) d.handlers line same)
        ∙ handler_in (record d { handlers = d.handlers ++ line ∷ [] }) w (view_lines d w) (plain_lines d w) (body_lines d w) line
        (window-kept d (record d { handlers = d.handlers ++ line ∷ [] }) (grows-handler d line) w (view_lines d w) (plain_lines d w) (body_lines d w) (k.each_window w within))
        (subst (λ (n : ℕ). length (plain_lines d n) < 16) is few)
        (next_of d (record d { handlers = d.handlers ++ line ∷ [] }) w line.next refl (subst (λ (n : ℕ). is_handler_of d n line.next ≡ true) is next))
        (subst (λ (n : ℕ). IsNew ((codes "root" ∷ map (λ line. line.name) (view_lines d n)) ++ map (λ line. line.name) (plain_lines d n)) line.name) is name)
