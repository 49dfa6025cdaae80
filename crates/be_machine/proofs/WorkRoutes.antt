-- A message to a view that isn't there runs no more than one to its window.
use Rattle.std.proofs.Common.{◌≡◌, ℕ, zero, suc, ◌+◌, ◌≤◌, ◌⊎◌, inl, inr, Bool, true, false, cond, List, [], ◌∷◌, map, length, Option, Some, None, refl, ap, subst, ◌∙◌, arith}
use Rattle.std.specs.Prelude.{slice_get, option_and_then, filter, ◌==◌, ◌&&◌, nat_lt, if◌then◌else◌}
use Rattle.std.specs.List.{list_all, list_any}
use Rattle.std.proofs.lemmas.Bool.Decides.{nat_tests}
use Rattle.std.proofs.lemmas.List.{length-map}
use Rattle.std.proofs.lemmas.Option.{slice_get_past}
use Rattle.be_facts.proofs.Truths.{and_first, and_second}
use Rattle.be_facts.proofs.Numbers.{eq_tells}
use Rattle.be_handler.specs.declared.Route as route
use Rattle.be_handler.specs.declared.Rule.{Rule}
use Rattle.be_handler.specs.declared.Rule.TheVariants.{Skip, Pass, Redirect}
use Rattle.be_handler.specs.Routes.{Filter, Chain, same_target, next_handler, parent_target, matches, ruled, through, filtered, common_filters, is_own, own_filters, has_body, handler_from, routed, route_of}
use Rattle.be_message.specs.declared.target.Target.{Target}
use Rattle.be_message.specs.declared.target.Target.TheVariants as target
use Rattle.be_script.specs.declared.BodyLine.{BodyLine}
use Rattle.be_script.specs.declared.FilterLine.{FilterLine}
use Rattle.be_script.specs.declared.ViewLine.{ViewLine}
use Rattle.be_script.specs.Limits.{IsWithinLimits, is_list, is_filter_line, is_body_line}
use Rattle.be_script.specs.Programs.{view_count, is_handler_of}
use Rattle.be_script.specs.Script.{Declared}
use Rattle.be_script.specs.Windows.{view_lines, declared_filter, declared_body, chain_of}

-- ---- filters that see no target of their own

-- two targets go the same way, or both stay
Together : Target → Target → Option (Target × Bool) → Option (Target × Bool) → Type 0
Together a b x y = (x ≡ y) ⊎ ((x ≡ Some (a, false)) × (y ≡ Some (b, false)))

ruled_together : (what : ℕ) (fs : List Filter) (a b : Target) (r : Rule) → Together a b (through what fs (Some (a, false))) (through what fs (Some (b, false))) → Together a b (through what fs (ruled a false r)) (through what fs (ruled b false r))
unfolding Together
ruled_together what fs a b Skip h = inl refl
ruled_together what fs a b Pass h = h
ruled_together what fs a b (Redirect other) h = inl refl

step_together : (what : ℕ) (fs : List Filter) (a b : Target) (r : Rule) (m : Bool) → Together a b (through what fs (Some (a, false))) (through what fs (Some (b, false))) → Together a b (through what fs (if m then ruled a false r else Some (a, false))) (through what fs (if m then ruled b false r else Some (b, false)))
step_together what fs a b r true h = ruled_together what fs a b r h
step_together what fs a b r false h = h

through_together : (what : ℕ) (fs : List Filter) (a b : Target) → Together a b (through what fs (Some (a, false))) (through what fs (Some (b, false)))
unfolding Together
through_together what [] a b = inr (refl, refl)
through_together what (f ∷ fs) a b = step_together what fs a b f.rule (matches what f.what) (through_together what fs a b)

-- ---- a view that isn't there

not_below : (u v n : ℕ) → nat_lt u n ≡ true → n ≤ v → (u == v) ≡ false
not_below u v n lt le = grind (arith, nat_tests)

not_own : (d : Declared) (w v : ℕ) (list : Option Target) → is_list d w list ≡ true → view_count d w ≤ v → is_own (target.View v) list ≡ false
not_own d w v (Some target.Window) is past = refl
not_own d w v (Some (target.View u)) is past = not_below u v (view_count d w) is past
not_own d w v (Some (target.Plain h)) is past = refl
not_own d w v None is past = refl

filter_list : (d : Declared) (line : FilterLine) → is_filter_line d line ≡ true → is_list d line.window line.list ≡ true
filter_list d line h = search (and_first, and_second)

own_by : (d : Declared) (w v : ℕ) (line : FilterLine) (rest : List FilterLine) (b : Bool) → (line.window == w) ≡ b → is_list d line.window line.list ≡ true → view_count d w ≤ v → filter (λ f. is_own (target.View v) f.list) (map declared_filter rest) ≡ [] → filter (λ f. is_own (target.View v) f.list) (map declared_filter (cond b (line ∷ rest) rest)) ≡ []
own_by d w v line rest true here is past later =
    let window : line.window ≡ w = eq_tells line.window w here in
    let other : is_own (target.View v) line.list ≡ false = not_own d w v line.list (subst (λ n. is_list d n line.list ≡ true) window is) past in
    rw other later
own_by d w v line rest false here is past later = later

own_none : (d : Declared) (w v : ℕ) (lines : List FilterLine) → list_all (is_filter_line d) lines ≡ true → view_count d w ≤ v → filter (λ f. is_own (target.View v) f.list) (map declared_filter (filter (λ line. line.window == w) lines)) ≡ []
own_none d w v [] all past = refl
own_none d w v (line ∷ lines) all past =
    own_by d w v line (filter (λ x. x.window == w) lines) (line.window == w) refl (filter_list d line (and_first (is_filter_line d line) (list_all (is_filter_line d) lines) all)) past
    (own_none d w v lines (and_second (is_filter_line d line) (list_all (is_filter_line d) lines) all) past)

other_body : (d : Declared) (w v : ℕ) (t : Target) → is_handler_of d w t ≡ true → view_count d w ≤ v → same_target t (target.View v) ≡ false
other_body d w v target.Window is past = refl
other_body d w v (target.View u) is past = not_below u v (view_count d w) is past
other_body d w v (target.Plain h) is past = refl

body_target : (d : Declared) (line : BodyLine) → is_body_line d line ≡ true → is_handler_of d line.window line.target ≡ true
body_target d line h = search (and_first, and_second)

body_by : (d : Declared) (w v what : ℕ) (line : BodyLine) (rest : List BodyLine) (b : Bool) → (line.window == w) ≡ b → is_handler_of d line.window line.target ≡ true → view_count d w ≤ v → list_any (λ x. same_target x.target (target.View v) && x.what == what) (map declared_body rest) ≡ false → list_any (λ x. same_target x.target (target.View v) && x.what == what) (map declared_body (cond b (line ∷ rest) rest)) ≡ false
body_by d w v what line rest true here is past later =
    let window : line.window ≡ w = eq_tells line.window w here in
    let other : same_target line.target (target.View v) ≡ false = other_body d w v line.target (subst (λ n. is_handler_of d n line.target ≡ true) window is) past in
    rw other later
body_by d w v what line rest false here is past later = later

body_none : (d : Declared) (w v what : ℕ) (lines : List BodyLine) → list_all (is_body_line d) lines ≡ true → view_count d w ≤ v → list_any (λ x. same_target x.target (target.View v) && x.what == what) (map declared_body (filter (λ line. line.window == w) lines)) ≡ false
body_none d w v what [] all past = refl
body_none d w v what (line ∷ lines) all past =
    body_by d w v what line (filter (λ x. x.window == w) lines) (line.window == w) refl (body_target d line (and_first (is_body_line d line) (list_all (is_body_line d) lines) all)) past
    (body_none d w v what lines (and_second (is_body_line d line) (list_all (is_body_line d) lines) all) past)

parents_short : (d : Declared) (w v : ℕ) → view_count d w ≤ v → length (chain_of d w).parents ≤ v
unfolding chain_of
parents_short d w v past = omega (arith, length-map (view_lines d w) (λ (line : ViewLine). Some line.parent))

-- above it is nothing
no_parent : (d : Declared) (w v : ℕ) → view_count d w ≤ v → next_handler (chain_of d w) (target.View v) ≡ None
unfolding chain_of
no_parent d w v past =
    let none : slice_get (chain_of d w).parents v ≡ None = slice_get_past (chain_of d w).parents v (parents_short d w v past) in
    ap (option_and_then (λ parent. Some (parent_target parent))) none

unknown_by : (steps : ℕ) (d : Declared) (w v what : ℕ) → IsWithinLimits d → view_count d w ≤ v → handler_from steps (chain_of d w) what (target.View v) ≡ route.TheVariants.Unknown
unfolding chain_of
unknown_by zero d w v what limits past = refl
unknown_by (suc steps) d w v what limits past =
    let none : has_body (chain_of d w) what (target.View v) ≡ false = body_none d w v what d.bodies limits.bodies past in
    rw (none, no_parent d w v past) refl

own_empty : (d : Declared) (w v : ℕ) → IsWithinLimits d → view_count d w ≤ v → own_filters (chain_of d w) (target.View v) ≡ []
unfolding chain_of
own_empty d w v limits past = own_none d w v d.filters limits.filters past

-- ---- its route

left_of : Option (Target × Bool) → Option Target
left_of o = option_and_then (λ at. Some at.0) o

own_way : Chain → ℕ → Option Target → Option Target
own_way c what o = option_and_then (λ left. filtered what (own_filters c left) left) o

route_by : (d : Declared) (w v what : ℕ) → IsWithinLimits d → view_count d w ≤ v →
    let c : Chain = chain_of d w in
    Together (target.View v) target.Window (through what (common_filters c) (Some (target.View v, false))) (through what (common_filters c) (Some (target.Window, false))) →
    (route_of c what (target.View v) ≡ route.TheVariants.Unknown) ⊎ (route_of c what (target.View v) ≡ route_of c what target.Window)
unfolding Together route_of left_of own_way
route_by d w v what limits past (inl same) = inr (ap (λ o. routed (chain_of d w) what (own_way (chain_of d w) what (left_of o))) same)
route_by d w v what limits past (inr both) =
    let c : Chain = chain_of d w in
    let stays : routed c what (own_way c what (left_of (through what (common_filters c) (Some (target.View v, false))))) ≡ routed c what (own_way c what (Some (target.View v))) = ap (λ o. routed c what (own_way c what (left_of o))) both.0 in
    let alone : routed c what (own_way c what (Some (target.View v))) ≡ routed c what (Some (target.View v)) = ap (λ fs. routed c what (filtered what fs (target.View v))) (own_empty d w v limits past) in
    inl (stays ∙ alone ∙ unknown_by (length c.parents + length c.nexts + 1) d w v what limits past)

-- without a body, or that of a message to the window
pub view_route : (d : Declared) (w v what : ℕ) → IsWithinLimits d → view_count d w ≤ v → (route_of (chain_of d w) what (target.View v) ≡ route.TheVariants.Unknown) ⊎ (route_of (chain_of d w) what (target.View v) ≡ route_of (chain_of d w) what target.Window)
view_route d w v what limits past = route_by d w v what limits past (through_together what (common_filters (chain_of d w)) (target.View v) target.Window)
