-- Where a view may be put: its parent is there, isn't too deep, and its name is new.
use Rattle.std.proofs.Common.{◌≡◌, ℕ, ◌<◌, ◌≤◌, ◌||◌, ◌++◌, Bool, true, false, not, cond, List, length, get_or, Some, None, Ok, Err, refl, ap, sym, ◌∙◌, arith}
use Rattle.std.proofs.lemmas.Bool.{le-leb, lt-leb, lt-ltb}
use Rattle.std.proofs.lemmas.Grind.{get_or_default_zero}
use Rattle.std.proofs.lemmas.List.Folds.{list_any-append}
use Rattle.std.specs.List.{list_any}
use Rattle.std.specs.Prelude.{nat_le}
use Rattle.std.specs.Str.{bytes_eq}
use Rattle.be_facts.proofs.Truths.{or_true, or_false_first}
use Rattle.be_command.specs.declared.fault.NameFault.TheVariants as refused
use Rattle.be_command.specs.declared.fault.Reason.TheVariants.{NameTaken, Shape, TooMany}
use Rattle.be_command.specs.Names.{Known, name_fault}
use Rattle.be_handler.specs.Growth.{is_parent}
use Rattle.be_lex.specs.Names.{is_name, is_reserved_name}
use Rattle.be_script.specs.declared.ViewLine.{ViewLine}
use Rattle.be_said.specs.declared.inside.Inside.{Inside}
use Rattle.be_said.specs.Fits.{IsNew}
use Rattle.be_said.specs.Deeds.{adds_view}
use Rattle.be_said.specs.Inside.{IsInside}
use Rattle.be_said.specs.Judging.{depths_of, done, said_then}
use Rattle.be_said.specs.Names.{handler_names}
use Rattle.be_said.specs.SoFar.{SoFar, nothing, plain_names, view_names, views_in}
use Rattle.be_said.proofs.DueLemmas.{may-be-done, too-many}
use Rattle.be_said.proofs.DrawLemmas.{depths_count, view_count}
use Rattle.be_said.proofs.HandlerLemmas.{parent_length}

-- ---- new names

new_parts : (word : List ℕ) (named reserved there : Bool) → cond named (cond (reserved || there) (Err NameTaken) (Ok word)) (Err Shape) ≡ Ok word →
    (named ≡ true) × (reserved ≡ false) × (there ≡ false)
new_parts word true false false e = (refl, refl, refl)
new_parts word true false true e = (cc)
new_parts word true true there e = (cc)
new_parts word false reserved there e = (cc)

no_fault : (named reserved there full : Bool) → named ≡ true → reserved ≡ false → there ≡ false → full ≡ false →
    cond (not named) (Some refused.BadName) (cond (reserved || there) (Some refused.NameTaken) (cond full (Some refused.TooMany) None)) ≡ None
no_fault named reserved there full n r t f = rw (n, r, t, f) refl

-- and is taken where there is room
pub no_name_fault : (most : ℕ) (names : List (List ℕ)) (name : List ℕ) → IsNew names name → length names < most → name_fault most names name ≡ None
no_name_fault most names name new room =
    let parts = new_parts name (is_name name) (is_reserved_name name) (list_any (λ other. bytes_eq other name) names) new in
    no_fault (is_name name) (is_reserved_name name) (list_any (λ other. bytes_eq other name) names) (nat_le most (length names)) parts.0 parts.1 parts.2
    (lt-leb most (length names) room)

new_as : (word : List ℕ) (named reserved there : Bool) → named ≡ true → reserved ≡ false → there ≡ false →
    cond named (cond (reserved || there) (Err NameTaken) (Ok word)) (Err Shape) ≡ Ok word
new_as word named reserved there n r t = rw (n, r, t) refl

-- a name that is new among the handlers is new among the views
pub new_view_name : (names others : List (List ℕ)) (name : List ℕ) → IsNew (names ++ others) name → IsNew names name
new_view_name names others name new =
    let same : List ℕ → Bool = λ other. bytes_eq other name in
    let parts = new_parts name (is_name name) (is_reserved_name name) (list_any same (names ++ others)) new in
    new_as name (is_name name) (is_reserved_name name) (list_any same names) parts.0 parts.1
    (or_false_first (list_any same names) (list_any same others) (sym (list_any-append same names others) ∙ parts.2))

-- ---- parents and depths

pub parent_there : (said : SoFar) (line : ViewLine) (here : Inside) → IsInside said line.window here → said.begun ≡ nothing →
    line.parent < length (view_names said (Some line.window)) → is_parent here.chain (Some line.parent) ≡ true
parent_there said line here is free fits =
    lt-ltb line.parent (length here.chain.parents) (omega (arith, fits, view_count said line.window, parent_length said line.window here is free))

pub depth_is : (said : SoFar) (line : ViewLine) (here : Inside) (depth : ℕ) → IsInside said line.window here →
    line.parent < length (view_names said (Some line.window)) → depth ≡ get_or here.depths.items line.parent depth →
    depth ≡ get_or here.depths.items line.parent 0
depth_is said line here depth is fits at =
    at ∙ get_or_default_zero here.depths.items line.parent depth (omega (arith, fits, view_count said line.window, depths_count said line.window here is))

depth_said : (said : SoFar) (line : ViewLine) (here : Inside) (depth : ℕ) → IsInside said line.window here →
    line.parent < length (view_names said (Some line.window)) → depth ≡ get_or here.depths.items line.parent depth →
    depth ≡ get_or (depths_of (views_in said line.window)) line.parent 0
depth_said said line here depth is fits at = depth_is said line here depth is fits at ∙ ap (λ (ds : List ℕ). get_or ds line.parent 0) is.depths

pub view-deep : (said : SoFar) (line : ViewLine) (here : Inside) (depth : ℕ) → IsInside said line.window here →
    line.parent < length (view_names said (Some line.window)) → depth ≡ get_or here.depths.items line.parent depth → 8 ≤ depth →
    done said (adds_view line) ≡ Err TooMany
view-deep said line here depth is fits at deep =
    let full : Bool = nat_le 31 (length (views_in said line.window)) in
    let parent : ℕ = get_or (depths_of (views_in said line.window)) line.parent 0 in
    let either : Bool → Bool = λ b. full || b in
    too-many said (adds_view line) refl (ap either (le-leb 8 parent (omega (arith, deep, depth_said said line here depth is fits at))) ∙ or_true full)

pub view-many : (said : SoFar) (line : ViewLine) (here : Inside) → IsInside said line.window here → said.begun ≡ nothing →
    32 ≤ length here.chain.parents → done said (adds_view line) ≡ Err TooMany
view-many said line here is free many =
    let parent : ℕ = get_or (depths_of (views_in said line.window)) line.parent 0 in
    let either : Bool → Bool = λ b. b || nat_le 8 parent in
    too-many said (adds_view line) refl
    (ap either (le-leb 31 (length (views_in said line.window)) (omega (arith, many, parent_length said line.window here is free))))

pub view-done : (said : SoFar) (line : ViewLine) (here : Inside) (depth : ℕ) → IsInside said line.window here → said.begun ≡ nothing →
    line.parent < length (view_names said (Some line.window)) → depth ≡ get_or here.depths.items line.parent depth → depth < 8 →
    length here.chain.parents < 32 → done said (adds_view line) ≡ Ok (said_then said (adds_view line))
view-done said line here depth is free fits at low few =
    let parent : ℕ = get_or (depths_of (views_in said line.window)) line.parent 0 in
    let either : Bool → Bool = λ b. b || nat_le 8 parent in
    may-be-done said (adds_view line) refl
    (ap either (lt-leb 31 (length (views_in said line.window)) (omega (arith, few, parent_length said line.window here is free)))
    ∙ lt-leb 8 parent (omega (arith, low, depth_said said line here depth is fits at)))

-- there is room for its name
pub view_name_fits : (said : SoFar) (line : ViewLine) (here : Inside) → IsInside said line.window here → said.begun ≡ nothing →
    IsNew (handler_names said (Some line.window)) line.name → length here.chain.parents < 32 → name_fault 32 here.names.views line.name ≡ None
view_name_fits said line here is free new few =
    let names : here.names.views ≡ view_names said (Some line.window) = ap (λ (k : Known). k.views) is.names in
    ap (λ (ns : List (List ℕ)). name_fault 32 ns line.name) names
    ∙ no_name_fault 32 (view_names said (Some line.window)) line.name
    (new_view_name (view_names said (Some line.window)) (plain_names said (Some line.window)) line.name new)
    (omega (arith, few, view_count said line.window, parent_length said line.window here is free))
