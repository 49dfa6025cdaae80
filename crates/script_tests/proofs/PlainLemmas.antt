-- A plain script can be routed.
use Rattle.std.proofs.Common.{◌≡◌, ℕ, zero, suc, ◌+◌, ◌<◌, ◌≤◌, ◌==◌, Bool, true, false, cond, ◌&&◌, ◌||◌, not, List, [], ◌∷◌, length, take, filter, min, Option, Some, None, refl, ap, sym, ◌∙◌, arith, eqb-true, ne_eqb, length-take}
use Rattle.std.specs.Prelude.{slice_get, nat_lt, nat_le}
use Rattle.std.specs.List.{list_all, list_any}
use Rattle.std.proofs.lemmas.Bool.{lt-ltb, leb-true, and_from, not_from_false}
use Rattle.std.proofs.lemmas.Option.{slice_get_within}
use Rattle.be_facts.proofs.Truths.{and_first, and_second}
use Rattle.be_facts.proofs.Lists.{all_at}
use Rattle.be_handler.specs.declared.Rule.{Rule}
use Rattle.be_handler.specs.declared.Rule.TheVariants.{Skip, Pass, Redirect}
use Rattle.be_handler.specs.Growth.{is_there, has_owner, has_end, is_place, listed}
use Rattle.be_handler.specs.Routes.{Chain, same_target, has_body, is_common}
use Rattle.be_message.specs.declared.target.Target.{Target}
use Rattle.be_message.specs.declared.target.Target.TheVariants.{Window, View, Plain}
use Rattle.be_script.specs.declared.BodyLine.{BodyLine}
use Rattle.be_script.specs.declared.DrawLine.{DrawLine}
use Rattle.be_script.specs.declared.FilterLine.{FilterLine}
use Rattle.be_script.specs.declared.ViewLine.{ViewLine}
use Rattle.be_script.specs.Limits.{is_window, same_list}
use Rattle.script_tests.specs.Plain.{is_near, leads_near, is_plain_view, is_plain_filter, are_plain_bodies, is_plain_draw}
use Rattle.be_script.specs.Programs.{view_count}
use Rattle.be_script.specs.Routable.{IsRoutable, views_before, filters_before, bodies_before, can_add_view, can_add_filter, can_add_body}
use Rattle.be_script.specs.Script.{Declared}
use Rattle.be_script.specs.Windows.{chain_of, body_lines, declared_filter, declared_body}
use Rattle.be_script.proofs.RoutableLemmas.{parents-count, listed-is, bodies-count, has_body-any}

-- ---- lists

one_more : {X : Type 0} (b : Bool) (x : X) (kept : List X) (n : ℕ) → length kept ≤ n → length (cond b (x ∷ kept) kept) ≤ suc n
one_more true x kept n h = omega arith
one_more false x kept n h = omega arith

kept_fewer : {X : Type 0} (p : X → Bool) (xs : List X) → length (filter p xs) ≤ length xs
kept_fewer p [] = omega arith
kept_fewer p (x ∷ xs) = one_more (p x) x (filter p xs) (length xs) (kept_fewer p xs)

-- what is kept of those before an item
kept_before : {X : Type 0} (p : X → Bool) (xs : List X) (k : ℕ) (x : X) → slice_get xs k ≡ Some x → length (filter p (take k xs)) < length xs
kept_before p xs k x at =
    let within : k < length xs = slice_get_within xs k x at in
    let fewer : length (filter p (take k xs)) ≤ length (take k xs) = kept_fewer p (take k xs) in
    let count : length (take k xs) ≡ min k (length xs) = length-take k xs in
    omega arith

kept_any : {X : Type 0} (q : X → Bool) (b : Bool) (x : X) (kept : List X) → list_any q (cond b (x ∷ kept) kept) ≡ cond b (q x || list_any q kept) (list_any q kept)
kept_any q true x kept = refl
kept_any q false x kept = refl

none_here : (r p q any late : Bool) → (q ≡ true → p ≡ true) → (any ≡ false → late ≡ false) → (p || any) ≡ false → cond r (q || late) late ≡ false
none_here r true q any late h k e = cc
none_here r false true any late h k e =
    let odd : false ≡ true = h refl in cc
none_here true false false any late h k e = k e
none_here false false false any late h k e = k e

-- where none passes a weaker test, none of those that are kept passes
none_weaker : {X : Type 0} (p q r : X → Bool) → ((x : X) → q x ≡ true → p x ≡ true) → (xs : List X) → list_any p xs ≡ false → list_any q (filter r xs) ≡ false
none_weaker p q r each [] e = refl
none_weaker p q r each (x ∷ xs) e =
    kept_any q (r x) x (filter r xs)
    ∙ none_here (r x) (p x) (q x) (list_any p xs) (list_any q (filter r xs)) (each x) (none_weaker p q r each xs) e

-- ---- handlers that are near

near_there : (c : Chain) (t : Target) → 0 < length c.parents → is_near t ≡ true → is_there c t ≡ true
near_there c Window h e = refl
near_there c (View v) h e =
    let first : v ≡ 0 = eqb-true v 0 e in
    lt-ltb v (length c.parents) (omega arith)
near_there c (Plain k) h e = cc

owner_common : (c : Chain) (o : Option Target) → is_common o ≡ true → has_owner c o ≡ true
owner_common c None e = refl
owner_common c (Some t) e = cc

near_end : (c : Chain) (rule : Rule) → 0 < length c.parents → leads_near rule ≡ true → has_end c rule ≡ true
near_end c Skip h e = refl
near_end c Pass h e = refl
near_end c (Redirect t) h e = near_there c t h e

-- the root at least
some_view : (d : Declared) (w : ℕ) → 0 < length (chain_of d w).parents
some_view d w =
    let count : length (chain_of d w).parents ≡ view_count d w = parents-count d w in
    omega arith

-- ---- bodies

-- what a plain body says, and that none before it has its word
abbrev Rises : ℕ → ℕ → List BodyLine → ℕ → BodyLine → Type 0
Rises n low bodies k line =
    (nat_lt line.window n ≡ true) × (is_near line.target ≡ true) × (low ≤ line.what) × (list_any (λ other. other.what == line.what) (take k bodies) ≡ false)

rises : (n low : ℕ) (bodies : List BodyLine) (k : ℕ) (line : BodyLine) → are_plain_bodies n low bodies ≡ true → slice_get bodies k ≡ Some line → Rises n low bodies k line
rises n low [] k line h at = cc
rises n low (x ∷ xs) zero line h at =
    let same : x ≡ line = cc in
    let a = nat_lt x.window n in
    let b = is_near x.target in
    let c = nat_le low x.what in
    let abc = and_first ((a && b) && c) (are_plain_bodies n (x.what + 1) xs) h in
    let ab = and_first (a && b) c abc in (
      ap (λ (y : BodyLine). nat_lt y.window n) (sym same) ∙ and_first a b ab,
      ap (λ (y : BodyLine). is_near y.target) (sym same) ∙ and_second a b ab,
      leb-true low line.what (ap (λ (y : BodyLine). nat_le low y.what) (sym same) ∙ and_second (a && b) c abc),
      refl,
    )
rises n low (x ∷ xs) (suc k) line h at =
    let a = nat_lt x.window n in
    let b = is_near x.target in
    let c = nat_le low x.what in
    let first : low ≤ x.what = leb-true low x.what (and_second (a && b) c (and_first ((a && b) && c) (are_plain_bodies n (x.what + 1) xs) h)) in
    let rest = rises n (x.what + 1) xs k line (and_second ((a && b) && c) (are_plain_bodies n (x.what + 1) xs) h) at in
    let above : x.what + 1 ≤ line.what = rest.2 in
    let apart : (x.what == line.what) ≡ false = ne_eqb x.what line.what (λ e. let same : x.what ≡ line.what = e in absurd (omega arith)) in
    (rest.0, rest.1, omega arith, rw apart rest.3)

body-fits : (d : Declared) (k : ℕ) (line : BodyLine) → slice_get d.bodies k ≡ Some line → length d.bodies ≤ 512 → Rises (length d.windows) 0 d.bodies k line →
    can_add_body (chain_of (bodies_before d k) line.window) (declared_body line) ≡ true
body-fits d k line at most facts =
    let w = line.window in
    let c = chain_of (bodies_before d k) w in
    let fewer : length (body_lines (bodies_before d k) w) < length d.bodies = kept_before (λ other. other.window == w) d.bodies k line at in
    let count : length c.bodies ≡ length (body_lines (bodies_before d k) w) = bodies-count (bodies_before d k) w in
    let apart : has_body c line.what line.target ≡ false =
    has_body-any (bodies_before d k) w line.target line.what
    ∙ none_weaker (λ other. other.what == line.what) (λ other. same_target other.target line.target && other.what == line.what) (λ other. other.window == w)
    (λ other. and_second (same_target other.target line.target) (other.what == line.what)) (take k d.bodies) facts.3 in
    and_from (is_there c line.target && not (has_body c line.what line.target)) (nat_lt (length c.bodies) 512)
    (and_from (is_there c line.target) (not (has_body c line.what line.target)) (near_there c line.target (some_view (bodies_before d k) w) facts.1)
    (not_from_false (has_body c line.what line.target) apart))
    (lt-ltb (length c.bodies) 512 (omega arith))

-- ---- views and filters

view-fits : (d : Declared) (k : ℕ) (line : ViewLine) → slice_get d.views k ≡ Some line → length d.views < 32 → line.parent ≡ 0 →
    can_add_view (chain_of (views_before d k) line.window) line.parent ≡ true
view-fits d k line at most first =
    let w = line.window in
    let parents = length (chain_of (views_before d k) w).parents in
    let fewer : length (filter (λ other. other.window == w) (take k d.views)) < length d.views = kept_before (λ other. other.window == w) d.views k line at in
    let count : parents ≡ length (filter (λ other. other.window == w) (take k d.views)) + 1 = parents-count (views_before d k) w in
    and_from (nat_lt line.parent parents) (nat_lt parents 32) (lt-ltb line.parent parents (omega arith)) (lt-ltb parents 32 (omega arith))

filter-fits : (d : Declared) (k : ℕ) (line : FilterLine) → slice_get d.filters k ≡ Some line → length d.filters ≤ 32 → is_common line.list ≡ true → leads_near line.rule ≡ true →
    can_add_filter (chain_of (filters_before d k) line.window) (declared_filter line) ≡ true
filter-fits d k line at most list rule =
    let w = line.window in
    let c = chain_of (filters_before d k) w in
    let test : FilterLine → Bool = λ other. other.window == w && same_list other.list line.list in
    let fewer : length (filter test (take k d.filters)) < length d.filters = kept_before test d.filters k line at in
    let count : length (listed c line.list) ≡ length (filter test (take k d.filters)) = listed-is d k w line.list in
    and_from (is_place c line.list line.rule) (nat_lt (length (listed c line.list)) 32)
    (and_from (has_owner c line.list) (has_end c line.rule) (owner_common c line.list list) (near_end c line.rule (some_view (filters_before d k) w) rule))
    (lt-ltb (length (listed c line.list)) 32 (omega arith))

-- ---- all of a script

pub plain-routable : (d : Declared) → length d.windows ≤ 32 → length d.views < 32 → list_all (is_plain_view (length d.windows)) d.views ≡ true →
    length d.handlers < 1 → length d.filters ≤ 32 → list_all (is_plain_filter (length d.windows)) d.filters ≡ true →
    length d.bodies ≤ 512 → are_plain_bodies (length d.windows) 0 d.bodies ≡ true → list_all (is_plain_draw (length d.windows)) d.draws ≡ true → IsRoutable d
plain-routable d windows views all_views handlers filters all_filters bodies all_bodies draws =
    let n = length d.windows in
    record {
      windows = omega arith;
      views = λ k line at.
          let h = all_at (is_plain_view n) d.views k line all_views at in
          and_from (is_window d line.window) (can_add_view (chain_of (views_before d k) line.window) line.parent) (and_first (is_window d line.window) (line.parent == 0) h)
          (view-fits d k line at views (eqb-true line.parent 0 (and_second (is_window d line.window) (line.parent == 0) h)));
      handlers = λ k line at.
          let within : k < length d.handlers = slice_get_within d.handlers k line at in
          absurd (omega arith);
      filters = λ k line at.
          let h = all_at (is_plain_filter n) d.filters k line all_filters at in
          let front = and_first (is_window d line.window && is_common line.list) (leads_near line.rule) h in
          and_from (is_window d line.window) (can_add_filter (chain_of (filters_before d k) line.window) (declared_filter line)) (and_first (is_window d line.window) (is_common line.list) front)
          (filter-fits d k line at filters (and_second (is_window d line.window) (is_common line.list) front) (and_second (is_window d line.window && is_common line.list) (leads_near line.rule) h));
      bodies = λ k line at.
          let facts = rises n 0 d.bodies k line all_bodies at in
          and_from (is_window d line.window) (can_add_body (chain_of (bodies_before d k) line.window) (declared_body line)) facts.0 (body-fits d k line at bodies facts);
      draws = draws;
    }

-- the same by the lists as code has them
pub plain-read : (d : Declared) (n : ℕ) (views : List ViewLine) (filters : List FilterLine) (bodies : List BodyLine) (draws : List DrawLine) →
    n ≡ length d.windows → views ≡ d.views → filters ≡ d.filters → bodies ≡ d.bodies → draws ≡ d.draws →
    length d.windows ≤ 32 → length d.views < 32 → length d.handlers < 1 → length d.filters ≤ 32 → length d.bodies ≤ 512 →
    list_all (is_plain_view n) views ≡ true → list_all (is_plain_filter n) filters ≡ true → are_plain_bodies n 0 bodies ≡ true →
    list_all (is_plain_draw n) draws ≡ true → IsRoutable d
plain-read d n views filters bodies draws count is_views is_filters is_bodies is_draws a b c e f g h i j =
    let m = length d.windows in
    plain-routable d a b
    (sym (ap (λ k. list_all (is_plain_view k) views) count ∙ ap (list_all (is_plain_view m)) is_views) ∙ g) c e
    (sym (ap (λ k. list_all (is_plain_filter k) filters) count ∙ ap (list_all (is_plain_filter m)) is_filters) ∙ h) f
    (sym (ap (λ k. are_plain_bodies k 0 bodies) count ∙ ap (are_plain_bodies m 0) is_bodies) ∙ i)
    (sym (ap (λ k. list_all (is_plain_draw k) draws) count ∙ ap (list_all (is_plain_draw m)) is_draws) ∙ j)
