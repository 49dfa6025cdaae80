-- Where a view's left top is, and how far from the window's.
use Rattle.std.specs.Prelude.{slice_get, option_map, option_and_then}
use Rattle.std.proofs.Common.{◌≡◌, ℕ, zero, suc, ◌-◌, ◌<◌, ◌≤◌, ℤ, ◌+ℤ◌, length, get_or, Option, Some, None, SFits, w16, w32, arith, rules, refl, sym, ap, ◌∙◌}
use Rattle.std.proofs.lemmas.Option.{none-some, same_Some, slice_get_read}
use Rattle.be_geom.specs.declared.point.Point.{Point}
use Rattle.be_geom.specs.declared.rect.Rect.{Rect}
use Rattle.be_geom.specs.Places.{sum_of, IsNear}
use Rattle.be_views.specs.Trees.{View, Tree, left_top, corner_in, place_from}
use Rattle.be_views.specs.Places.{pair_of}

pub near_fits : (steps : ℕ) (a b : ℤ) → SFits w16 a → 0 < steps → steps ≤ 32 → IsNear (steps - 1) b → SFits w32 (a +ℤ b)
near_fits steps a b f some few near =
    let low = near.0 in
    let high = near.1 in
    search rules

-- ---- places from places

pub view_read : (tree : Tree) (view now : View) (i v : ℕ) → i ≡ v → view ≡ now → i < length tree → now ≡ get_or tree i now → slice_get tree v ≡ Some view
view_read tree view now i v same is h read = rw (← same) (slice_get_read tree _ i now refl h read ∙ ap Some (sym is))

moved : (frame : Rect) (place : ℤ × ℤ) (o : Option Point) → Some place ≡ option_map pair_of o → option_map pair_of (option_map (sum_of (left_top frame)) o) ≡ Some (frame.left +ℤ place.0, frame.top +ℤ place.1)
moved frame place None h = absurd (none-some place (sym h))
moved frame place (Some p) h = ap (λ q. Some (frame.left +ℤ q.0, frame.top +ℤ q.1)) (sym (same_Some place (pair_of p) h))

pub place_below : (steps : ℕ) (tree : Tree) (v parent : ℕ) (view : View) (place : ℤ × ℤ) → 0 < steps → slice_get tree v ≡ Some view → view.parent ≡ Some parent → Some place ≡ option_map pair_of (place_from (steps - 1) tree parent) → Some (view.frame.left +ℤ place.0, view.frame.top +ℤ place.1) ≡ option_map pair_of (place_from steps tree v)
place_below zero tree v parent view place h got above below = absurd (omega arith)
place_below (suc n) tree v parent view place h got above below =
    let e : suc n - 1 ≡ n = omega arith in
    sym (ap (λ o. option_map pair_of (option_and_then (λ w. corner_in (place_from n tree) w.frame w.parent) o)) got ∙ ap (λ o. option_map pair_of (corner_in (place_from n tree) view.frame o)) above ∙ moved view.frame place (place_from n tree parent) (below ∙ ap (λ m. option_map pair_of (place_from m tree parent)) e))

pub place_alone : (steps : ℕ) (tree : Tree) (v : ℕ) (view : View) → 0 < steps → slice_get tree v ≡ Some view → view.parent ≡ None → Some (view.frame.left, view.frame.top) ≡ option_map pair_of (place_from steps tree v)
place_alone zero tree v view h got above = absurd (omega arith)
place_alone (suc n) tree v view h got above =
    sym (ap (λ o. option_map pair_of (option_and_then (λ w. corner_in (place_from n tree) w.frame w.parent) o)) got ∙ ap (λ o. option_map pair_of (corner_in (place_from n tree) view.frame o)) above)
