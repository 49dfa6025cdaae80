-- A script that keeps its limits can be routed.
use Rattle.std.proofs.Common.{◌≡◌, ℕ, zero, suc, ◌+◌, ◌<◌, ◌≤◌, ◌==◌, Bool, true, false, cond, ◌&&◌, ◌||◌, not, List, [], ◌∷◌, ◌++◌, length, take, filter, map, Option, Some, None, refl, ap, sym, ◌∙◌, subst, arith, ltb-true, length-append}
use Rattle.std.specs.Prelude.{slice_get, nat_lt}
use Rattle.std.specs.List.{list_all, list_any, range_with_len}
use Rattle.std.proofs.lemmas.Bool.{lt-ltb, leb-true, not_from_false, and_from}
use Rattle.std.proofs.lemmas.List.{length-map}
use Rattle.std.proofs.lemmas.List.Elements.{filter-append}
use Rattle.std.proofs.lemmas.List.FromFn.{get_or-range_with_len, length-range_with_len}
use Rattle.std.proofs.lemmas.Option.{slice_get_within, slice_get-get_or}
use Rattle.be_facts.proofs.Numbers.{eq_self}
use Rattle.be_facts.proofs.Lists.{all_weaker, all_at}
use Rattle.be_facts.proofs.Truths.{and_first, and_second}
use Rattle.be_handler.specs.declared.Rule.{Rule}
use Rattle.be_handler.specs.declared.Rule.TheVariants.{Skip, Pass, Redirect}
use Rattle.be_handler.specs.Growth.{is_there, has_owner, has_end, is_place, listed}
use Rattle.be_handler.specs.Lists.{is_in_list}
use Rattle.be_handler.specs.Routes.{Chain, Filter, same_target, has_body}
use Rattle.be_message.specs.declared.target.Target.{Target}
use Rattle.be_message.specs.declared.target.Target.TheVariants.{Window, View, Plain}
use Rattle.be_script.specs.declared.BodyLine.{BodyLine}
use Rattle.be_script.specs.declared.DrawLine.{DrawLine}
use Rattle.be_script.specs.declared.FilterLine.{FilterLine}
use Rattle.be_script.specs.declared.HandlerLine.{HandlerLine}
use Rattle.be_script.specs.declared.ViewLine.{ViewLine}
use Rattle.be_script.specs.Limits.{IsWithinLimits, is_at_most, is_window, lies_below, are_views_below, are_views, is_next, are_plain_from, plain_lines, are_handlers, is_rule, is_list, same_list, is_filter_word, is_filter_line, is_body_line, is_draw_line, is_window_declared}
use Rattle.be_script.specs.Programs.{view_count, plain_count, is_handler_of, is_body_program, is_draw_program}
use Rattle.be_actor.specs.Limits.{is_reserved, is_what}
use Rattle.be_script.specs.Names.{are_names}
use Rattle.be_script.specs.Routable.{IsRoutable, views_before, handlers_before, filters_before, bodies_before, can_add_view, can_add_plain, can_add_filter, can_add_body}
use Rattle.be_script.specs.Script.{Declared}
use Rattle.be_script.specs.Windows.{chain_of, view_lines, body_lines, declared_filter, declared_body}
use Rattle.be_script.proofs.WorkNumbers.{through_map}

-- ---- tests

-- a list round one of its items
split : {X : Type 0} (xs : List X) (k : ℕ) (x : X) → slice_get xs k ≡ Some x → (rest : List X) × (xs ≡ take k xs ++ x ∷ rest)
split [] k x at = cc
split (y ∷ ys) zero x at =
    let same : y ≡ x = cc in
    (ys, ap (λ z. z ∷ ys) same)
split (y ∷ ys) (suc k) x at =
    let rest = split ys k x at in
    (rest.0, ap (λ zs. y ∷ zs) rest.1)

kept_with : {X : Type 0} (p : X → Bool) (front : List X) (x : X) (rest : List X) → p x ≡ true →
    filter p (front ++ x ∷ rest) ≡ filter p front ++ x ∷ filter p rest
kept_with p front x rest h =
    filter-append p front (x ∷ rest) ∙ ap (λ b. filter p front ++ cond b (x ∷ filter p rest) (filter p rest)) h

kept_split : {X : Type 0} (p : X → Bool) (xs : List X) (k : ℕ) (x : X) → slice_get xs k ≡ Some x → p x ≡ true →
    (rest : List X) × (filter p xs ≡ filter p (take k xs) ++ x ∷ rest)
kept_split p xs k x at h =
    let s = split xs k x at in
    (filter p s.0, ap (filter p) s.1 ∙ kept_with p (take k xs) x s.0 h)

-- so many at most, with one more among them
room : {X : Type 0} (most : ℕ) (xs front rest : List X) (x : X) → is_at_most most xs ≡ true → xs ≡ front ++ x ∷ rest → length front < most
room most xs front rest x h e =
    let total : length xs ≤ most = leb-true (length xs) most h in
    let parts : length xs ≡ length front + suc (length rest) = ap length e ∙ length-append front (x ∷ rest) in
    omega arith

same_target-refl : (t : Target) → same_target t t ≡ true
same_target-refl Window = refl
same_target-refl (View v) = eq_self v
same_target-refl (Plain h) = eq_self h

same_list-refl : (o : Option Target) → same_list o o ≡ true
same_list-refl None = refl
same_list-refl (Some t) = same_target-refl t

-- ---- what a window declares

window-declared : (d : Declared) (w : ℕ) → list_all (is_window_declared d) (range_with_len 0 (length d.windows)) ≡ true → is_window d w ≡ true → is_window_declared d w ≡ true
window-declared d w h there =
    let n = length d.windows in
    let below : w < n = ltb-true w n there in
    let within : w < length (range_with_len 0 n) = subst (λ k. w < k) (sym (length-range_with_len 0 n)) below in
    let same : 0 + w ≡ w = omega arith in
    all_at (is_window_declared d) (range_with_len 0 n) w w h
    (slice_get-get_or (range_with_len 0 n) w 0 within ∙ ap (λ k. let o : Option ℕ = Some k in o) (get_or-range_with_len 0 n w 0 below ∙ same))

-- ---- views

view_below : (depths : List ℕ) (parent : ℕ) (rest : List ℕ → Bool) (o : Option ℕ) → slice_get depths parent ≡ o → lies_below depths o rest ≡ true → parent < length depths
view_below depths parent rest None at h = cc
view_below depths parent rest (Some depth) at h = slice_get_within depths parent depth at

views_behind : (depths : List ℕ) (rest : List ℕ → Bool) (o : Option ℕ) → lies_below depths o rest ≡ true → (depth : ℕ) × (rest (depths ++ (depth + 1) ∷ []) ≡ true)
views_behind depths rest None h = cc
views_behind depths rest (Some depth) h = (depth, and_second (nat_lt depth 8) (rest (depths ++ (depth + 1) ∷ [])) h)

parent_there : (front : List ViewLine) (line : ViewLine) (rest : List ViewLine) (depths : List ℕ) → are_views_below (front ++ line ∷ rest) depths ≡ true →
    line.parent < length depths + length front
parent_there [] line rest depths h =
    let below : line.parent < length depths = view_below depths line.parent (are_views_below rest) (slice_get depths line.parent) refl h in
    omega arith
parent_there (x ∷ front) line rest depths h =
    let more = views_behind depths (are_views_below (front ++ line ∷ rest)) (slice_get depths x.parent) h in
    let deeper = depths ++ (more.0 + 1) ∷ [] in
    let count : length deeper ≡ length depths + 1 = length-append depths ((more.0 + 1) ∷ []) in
    let below : line.parent < length deeper + length front = parent_there front line rest deeper more.1 in
    omega arith

view-fits : (d : Declared) (k : ℕ) (line : ViewLine) → slice_get d.views k ≡ Some line → are_views (view_lines d line.window) ≡ true →
    can_add_view (chain_of (views_before d k) line.window) line.parent ≡ true
unfolding chain_of
view-fits d k line at h =
    let w = line.window in
    let lines = view_lines d w in
    let front = filter (λ other. other.window == w) (take k d.views) in
    let kept = kept_split (λ other. other.window == w) d.views k line at (eq_self w) in
    let count : length (map (λ other. let o : Option ℕ = Some other.parent in o) front) ≡ length front = length-map front (λ other. let o : Option ℕ = Some other.parent in o) in
    let some_room : length front < 31 = room 31 lines front kept.0 line (and_first (is_at_most 31 lines) (are_views_below lines (1 ∷ [])) h) kept.1 in
    let below : line.parent < 1 + length front =
    parent_there front line kept.0 (1 ∷ []) (ap (λ ls. are_views_below ls (1 ∷ [])) (sym kept.1) ∙ and_second (is_at_most 31 lines) (are_views_below lines (1 ∷ [])) h) in
    let parents = length (chain_of (views_before d k) w).parents in
    and_from (nat_lt line.parent parents) (nat_lt parents 32) (lt-ltb line.parent parents (omega arith)) (lt-ltb parents 32 (omega arith))

-- ---- plain handlers

plain_at : (d : Declared) (w j : ℕ) (front : List HandlerLine) (line : HandlerLine) (rest : List HandlerLine) → are_plain_from d w j (front ++ line ∷ rest) ≡ true →
    is_next d w (j + length front) line.next ≡ true
plain_at d w j [] line rest h =
    let same : j ≡ j + 0 = omega arith in
    ap (λ n. is_next d w n line.next) (sym same) ∙ and_first (is_next d w j line.next) (are_plain_from d w (j + 1) rest) h
plain_at d w j (x ∷ front) line rest h =
    let same : j + 1 + length front ≡ j + suc (length front) = omega arith in
    ap (λ n. is_next d w n line.next) (sym same)
    ∙ plain_at d w (j + 1) front line rest (and_second (is_next d w j x.next) (are_plain_from d w (j + 1) (front ++ line ∷ rest)) h)

next_there : (d : Declared) (w n : ℕ) (c : Chain) (next : Target) → length c.parents ≡ view_count d w → length c.nexts ≡ n → is_next d w n next ≡ true → is_there c next ≡ true
next_there d w n c Window p q h = refl
next_there d w n c (View v) p q h = ap (nat_lt v) p ∙ h
next_there d w n c (Plain k) p q h = ap (nat_lt k) q ∙ h

-- the views of a chain that has all of them
pub parents-count : (d : Declared) (w : ℕ) → length (chain_of d w).parents ≡ view_count d w
unfolding chain_of
parents-count d w =
    let count : length (map (λ other. let o : Option ℕ = Some other.parent in o) (view_lines d w)) ≡ length (view_lines d w) = length-map (view_lines d w) (λ other. let o : Option ℕ = Some other.parent in o) in
    omega arith

nexts-count : (d : Declared) (w : ℕ) → length (chain_of d w).nexts ≡ plain_count d w
unfolding chain_of
nexts-count d w = length-map (filter (λ line. line.window == w) d.handlers) (λ line. line.next)

plain-fits : (d : Declared) (k : ℕ) (line : HandlerLine) → slice_get d.handlers k ≡ Some line → is_at_most 16 (plain_lines d line.window) ≡ true →
    are_plain_from d line.window 0 (plain_lines d line.window) ≡ true → can_add_plain (chain_of (handlers_before d k) line.window) line.next ≡ true
plain-fits d k line at most all =
    let w = line.window in
    let front = filter (λ other. other.window == w) (take k d.handlers) in
    let kept = kept_split (λ other. other.window == w) d.handlers k line at (eq_self w) in
    let some_room : length front < 16 = room 16 (plain_lines d w) front kept.0 line most kept.1 in
    let c = chain_of (handlers_before d k) w in
    let views : length c.parents ≡ view_count d w = parents-count (handlers_before d k) w in
    let count : length c.nexts ≡ length front = nexts-count (handlers_before d k) w in
    let same : 0 + length front ≡ length front = omega arith in
    let next : is_next d w (length front) line.next ≡ true =
    ap (λ n. is_next d w n line.next) (sym same) ∙ plain_at d w 0 front line kept.0 (ap (are_plain_from d w 0) (sym kept.1) ∙ all) in
    and_from (is_there c line.next) (nat_lt (length c.nexts) 16) (next_there d w (length front) c line.next views count next) (lt-ltb (length c.nexts) 16 (omega arith))

-- ---- filters

there : (d : Declared) (w : ℕ) (c : Chain) (t : Target) → length c.parents ≡ view_count d w → length c.nexts ≡ plain_count d w → is_handler_of d w t ≡ true → is_there c t ≡ true
there d w c Window p q h = refl
there d w c (View v) p q h = ap (nat_lt v) p ∙ h
there d w c (Plain k) p q h = ap (nat_lt k) q ∙ h

owner_there : (d : Declared) (w : ℕ) (c : Chain) (o : Option Target) → length c.parents ≡ view_count d w → length c.nexts ≡ plain_count d w → is_list d w o ≡ true → has_owner c o ≡ true
owner_there d w c None p q h = refl
owner_there d w c (Some t) p q h = there d w c t p q h

end_there : (d : Declared) (w : ℕ) (c : Chain) (rule : Rule) → length c.parents ≡ view_count d w → length c.nexts ≡ plain_count d w → is_rule d w rule ≡ true → has_end c rule ≡ true
end_there d w c Skip p q h = refl
end_there d w c Pass p q h = refl
end_there d w c (Redirect t) p q h = there d w c t p q h

in_list : (a b : Option Target) → same_list a b ≡ is_in_list b a
in_list None None = refl
in_list None (Some b) = refl
in_list (Some a) None = refl
in_list (Some a) (Some b) = refl

listed_one : (p : FilterLine → Bool) (q : Filter → Bool) (b : Bool) (x : FilterLine) (kept : List FilterLine) (all : List FilterLine) → q (declared_filter x) ≡ p x →
    length (filter q (map declared_filter kept)) ≡ length all →
    length (filter q (map declared_filter (cond b (x ∷ kept) kept))) ≡ length (cond (b && p x) (x ∷ all) all)
listed_one p q false x kept all e h = h
listed_one p q true x kept all e h =
    ap (λ c. length (cond c (declared_filter x ∷ filter q (map declared_filter kept)) (filter q (map declared_filter kept)))) e ∙ at (p x)
  where
    at : (c : Bool) → length (cond c (declared_filter x ∷ filter q (map declared_filter kept)) (filter q (map declared_filter kept))) ≡ length (cond c (x ∷ all) all)
    at true = ap suc h
    at false = h

listed_count : (w : ℕ) (list : Option Target) (lines : List FilterLine) →
    length (filter (λ f. is_in_list list f.list) (map declared_filter (filter (λ line. line.window == w) lines)))
    ≡ length (filter (λ other. other.window == w && same_list other.list list) lines)
listed_count w list [] = refl
listed_count w list (x ∷ lines) =
    listed_one (λ other. same_list other.list list) (λ f. is_in_list list f.list) (x.window == w) x (filter (λ line. line.window == w) lines)
    (filter (λ other. other.window == w && same_list other.list list) lines) (sym (in_list x.list list)) (listed_count w list lines)

pub listed-is : (d : Declared) (k w : ℕ) (list : Option Target) →
    length (listed (chain_of (filters_before d k) w) list) ≡ length (filter (λ other. other.window == w && same_list other.list list) (take k d.filters))
unfolding chain_of
listed-is d k w list = listed_count w list (take k d.filters)

filter-fits : (d : Declared) (k : ℕ) (line : FilterLine) → slice_get d.filters k ≡ Some line → is_list d line.window line.list ≡ true → is_rule d line.window line.rule ≡ true →
    is_at_most 32 (filter (λ other. other.window == line.window && same_list other.list line.list) d.filters) ≡ true →
    can_add_filter (chain_of (filters_before d k) line.window) (declared_filter line) ≡ true
filter-fits d k line at list rule most =
    let w = line.window in
    let c = chain_of (filters_before d k) w in
    let views : length c.parents ≡ view_count d w = parents-count (filters_before d k) w in
    let plains : length c.nexts ≡ plain_count d w = nexts-count (filters_before d k) w in
    let test : FilterLine → Bool = λ other. other.window == w && same_list other.list line.list in
    let kept = kept_split test d.filters k line at (and_from (w == w) (same_list line.list line.list) (eq_self w) (same_list-refl line.list)) in
    let some_room : length (filter test (take k d.filters)) < 32 = room 32 (filter test d.filters) (filter test (take k d.filters)) kept.0 line most kept.1 in
    let count : length (listed c line.list) ≡ length (filter test (take k d.filters)) = listed-is d k w line.list in
    and_from (is_place c line.list line.rule) (nat_lt (length (listed c line.list)) 32)
    (and_from (has_owner c line.list) (has_end c line.rule) (owner_there d w c line.list views plains list) (end_there d w c line.rule views plains rule))
    (lt-ltb (length (listed c line.list)) 32 (omega arith))

-- ---- bodies

one_kept : {X : Type 0} (b : Bool) (x : X) (kept : List X) (any : Bool) → (length kept < 1 → any ≡ false) → length (cond b (x ∷ kept) kept) < 1 → (b || any) ≡ false
one_kept true x kept any rest h = absurd (omega arith)
one_kept false x kept any rest h = rest h

none_kept : {X : Type 0} (p : X → Bool) (xs : List X) → length (filter p xs) < 1 → list_any p xs ≡ false
none_kept p [] h = refl
none_kept p (x ∷ xs) h = one_kept (p x) x (filter p xs) (list_any p xs) (none_kept p xs) h

pub bodies-count : (d : Declared) (w : ℕ) → length (chain_of d w).bodies ≡ length (body_lines d w)
unfolding chain_of
bodies-count d w = length-map (body_lines d w) declared_body

pub has_body-any : (d : Declared) (w : ℕ) (t : Target) (what : ℕ) →
    has_body (chain_of d w) what t ≡ list_any (λ line. same_target line.target t && line.what == what) (body_lines d w)
unfolding chain_of
has_body-any d w t what = through_map (λ b. same_target b.target t && b.what == what) declared_body (body_lines d w)

body-fits : (d : Declared) (k : ℕ) (line : BodyLine) → slice_get d.bodies k ≡ Some line → is_handler_of d line.window line.target ≡ true →
    is_at_most 1 (filter (λ other. same_target other.target line.target && other.what == line.what) (body_lines d line.window)) ≡ true →
    is_at_most 512 (body_lines d line.window) ≡ true → can_add_body (chain_of (bodies_before d k) line.window) (declared_body line) ≡ true
body-fits d k line at handler once most =
    let w = line.window in
    let c = chain_of (bodies_before d k) w in
    let front = body_lines (bodies_before d k) w in
    let test : BodyLine → Bool = λ other. same_target other.target line.target && other.what == line.what in
    let kept = kept_split (λ other. other.window == w) d.bodies k line at (eq_self w) in
    let views : length c.parents ≡ view_count d w = parents-count (bodies_before d k) w in
    let plains : length c.nexts ≡ plain_count d w = nexts-count (bodies_before d k) w in
    let count : length c.bodies ≡ length front = bodies-count (bodies_before d k) w in
    let some_room : length front < 512 = room 512 (body_lines d w) front kept.0 line most kept.1 in
    let tests : filter test (body_lines d w) ≡ filter test front ++ line ∷ filter test kept.0 =
    ap (filter test) kept.1 ∙ kept_with test front line kept.0
    (and_from (same_target line.target line.target) (line.what == line.what) (same_target-refl line.target) (eq_self line.what)) in
    let alone : length (filter test front) < 1 = room 1 (filter test (body_lines d w)) (filter test front) (filter test kept.0) line once tests in
    let apart : has_body c line.what line.target ≡ false = has_body-any (bodies_before d k) w line.target line.what ∙ none_kept test front alone in
    and_from (is_there c line.target && not (has_body c line.what line.target)) (nat_lt (length c.bodies) 512)
    (and_from (is_there c line.target) (not (has_body c line.what line.target)) (there d w c line.target views plains handler) (not_from_false (has_body c line.what line.target) apart))
    (lt-ltb (length c.bodies) 512 (omega arith))

-- ---- what the tests of a line say

are_views-of : (d : Declared) (w : ℕ) → are_handlers d w ≡ true → are_views (view_lines d w) ≡ true
are_views-of d w h =
    let a = are_views (view_lines d w) in
    let b = is_at_most 16 (plain_lines d w) in
    let c = are_plain_from d w 0 (plain_lines d w) in
    and_first a b (and_first (a && b) c (and_first ((a && b) && c) (are_names (map (λ line. line.name) (view_lines d w) ++ map (λ line. line.name) (plain_lines d w))) h))

plain_count-of : (d : Declared) (w : ℕ) → are_handlers d w ≡ true → is_at_most 16 (plain_lines d w) ≡ true
plain_count-of d w h =
    let a = are_views (view_lines d w) in
    let b = is_at_most 16 (plain_lines d w) in
    let c = are_plain_from d w 0 (plain_lines d w) in
    and_second a b (and_first (a && b) c (and_first ((a && b) && c) (are_names (map (λ line. line.name) (view_lines d w) ++ map (λ line. line.name) (plain_lines d w))) h))

are_plain-of : (d : Declared) (w : ℕ) → are_handlers d w ≡ true → are_plain_from d w 0 (plain_lines d w) ≡ true
are_plain-of d w h =
    let a = are_views (view_lines d w) in
    let b = is_at_most 16 (plain_lines d w) in
    let c = are_plain_from d w 0 (plain_lines d w) in
    and_second (a && b) c (and_first ((a && b) && c) (are_names (map (λ line. line.name) (view_lines d w) ++ map (λ line. line.name) (plain_lines d w))) h)

filter-parts : (d : Declared) (line : FilterLine) → is_filter_line d line ≡ true →
    (is_window d line.window ≡ true) × (is_list d line.window line.list ≡ true) × (is_rule d line.window line.rule ≡ true)
    × (is_at_most 32 (filter (λ other. other.window == line.window && same_list other.list line.list) d.filters) ≡ true)
filter-parts d line h =
    let a = is_window d line.window in
    let b = is_list d line.window line.list in
    let c = is_filter_word line.what in
    let e = is_rule d line.window line.rule in
    let f = is_at_most 32 (filter (λ other. other.window == line.window && same_list other.list line.list) d.filters) in
    let rules = and_first (((a && b) && c) && e) f h in
    let lists = and_first (a && b) c (and_first ((a && b) && c) e rules) in
    (and_first a b lists, and_second a b lists, and_second ((a && b) && c) e rules, and_second (((a && b) && c) && e) f h)

body-parts : (d : Declared) (line : BodyLine) → is_body_line d line ≡ true →
    (is_window d line.window ≡ true) × (is_handler_of d line.window line.target ≡ true)
    × (is_at_most 1 (filter (λ other. same_target other.target line.target && other.what == line.what) (body_lines d line.window)) ≡ true)
body-parts d line h =
    let a = is_window d line.window in
    let b = is_handler_of d line.window line.target in
    let c = is_what line.what in
    let e = not (is_reserved line.what) in
    let f = is_body_program d line.window line.program in
    let g = is_at_most 1 (filter (λ other. same_target other.target line.target && other.what == line.what) (body_lines d line.window)) in
    let front = and_first (a && b) c (and_first ((a && b) && c) e (and_first (((a && b) && c) && e) f (and_first ((((a && b) && c) && e) && f) g h))) in
    (and_first a b front, and_second a b front, and_second ((((a && b) && c) && e) && f) g h)

draw-window : (d : Declared) (line : DrawLine) → is_draw_line d line ≡ true → is_window d line.window ≡ true
draw-window d line h =
    let a = is_window d line.window in
    let b = nat_lt line.view (view_count d line.window) in
    let c = is_draw_program d line.window line.program in
    let e = is_at_most 1 (filter (λ other. other.window == line.window && other.view == line.view) d.draws) in
    and_first a b (and_first (a && b) c (and_first ((a && b) && c) e h))

-- ---- all of a script

-- from the limits of what is declared; the limit of the work isn't asked
pub routable-from : (d : Declared) → length d.windows ≤ 32 →
    list_all (λ line. is_window d line.window) d.views ≡ true → list_all (λ line. is_window d line.window) d.handlers ≡ true →
    list_all (is_filter_line d) d.filters ≡ true → list_all (is_body_line d) d.bodies ≡ true → list_all (is_draw_line d) d.draws ≡ true →
    list_all (is_window_declared d) (range_with_len 0 (length d.windows)) ≡ true → IsRoutable d
routable-from d count views handlers filters bodies draws declared = record {
  windows = omega arith;
  views = λ k line at.
      let w = line.window in
      let here : is_window d w ≡ true = all_at (λ line. is_window d line.window) d.views k line views at in
      let all = and_first (are_handlers d w) (is_at_most 512 (body_lines d w)) (window-declared d w declared here) in
      and_from (is_window d w) (can_add_view (chain_of (views_before d k) w) line.parent) here (view-fits d k line at (are_views-of d w all));
  handlers = λ k line at.
      let w = line.window in
      let here : is_window d w ≡ true = all_at (λ line. is_window d line.window) d.handlers k line handlers at in
      let all = and_first (are_handlers d w) (is_at_most 512 (body_lines d w)) (window-declared d w declared here) in
      and_from (is_window d w) (can_add_plain (chain_of (handlers_before d k) w) line.next) here (plain-fits d k line at (plain_count-of d w all) (are_plain-of d w all));
  filters = λ k line at.
      let f = filter-parts d line (all_at (is_filter_line d) d.filters k line filters at) in
      and_from (is_window d line.window) (can_add_filter (chain_of (filters_before d k) line.window) (declared_filter line)) f.0 (filter-fits d k line at f.1 f.2 f.3);
  bodies = λ k line at.
      let w = line.window in
      let b = body-parts d line (all_at (is_body_line d) d.bodies k line bodies at) in
      and_from (is_window d w) (can_add_body (chain_of (bodies_before d k) w) (declared_body line)) b.0
      (body-fits d k line at b.1 b.2 (and_second (are_handlers d w) (is_at_most 512 (body_lines d w)) (window-declared d w declared b.0)));
  draws = all_weaker (is_draw_line d) (λ line. is_window d line.window) (draw-window d) d.draws draws;
}

pub routable : (d : Declared) → IsWithinLimits d → IsRoutable d
routable d h = routable-from d h.counts.windows h.views h.handlers h.filters h.bodies h.draws h.declared
