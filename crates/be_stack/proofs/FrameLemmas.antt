-- Lemmas on frames that stay in their range.
use Rattle.std.proofs.Common.{◌≡◌, ℤ, Bool, true, ◌+ℤ◌, cond, Result, Ok, Err, to_z, of_z, sym, ap, ◌∙◌, arith}
use Rattle.std.specs.Int.{w16}
use Rattle.std.proofs.lemmas.Int.{ints}
use Rattle.be_facts.proofs.Truths.{and_four}
use Rattle.be_geom.specs.declared.rect.Rect.{Rect}
use Rattle.be_geom.specs.Points.{in_range}
use Rattle.be_geom.specs.Rects.{rect_fits}
use Rattle.be_geom.proofs.Between.{between_tells}
use Rattle.be_stack.specs.declared.fault.ChangeFault.{ChangeFault}
use Rattle.be_stack.specs.declared.fault.ChangeFault.TheVariants.{OffRange}
use Rattle.be_stack.specs.Changes.{within_range, resized_rect}

abbrev frame_or_fault : Rect → Bool → Result Rect ChangeFault
frame_or_fault frame b = cond b (Ok frame) (Err OffRange)

-- an edge as it is kept lies in the range
pub kept_in_range : (z : ℤ) → in_range (to_z w16 (of_z w16 z)) ≡ true
kept_in_range z = grind (arith, ints, between_tells)

-- a frame whose edges all lie in the range
pub resized_fits : (frame : Rect) (width height left top right bottom : ℤ) → left ≡ frame.left → top ≡ frame.top → right ≡ frame.left +ℤ width → bottom ≡ frame.top +ℤ height → in_range left ≡ true → in_range top ≡ true → in_range right ≡ true → in_range bottom ≡ true → Ok (record { left = left; top = top; right = right; bottom = bottom }) ≡ within_range (resized_rect frame width height)
resized_fits frame width height left top right bottom e f g h l t r b =
    let fits : rect_fits (record { left = left; top = top; right = right; bottom = bottom }) ≡ true = and_four (in_range left) (in_range top) (in_range right) (in_range bottom) l t r b in
    let same : ◌≡◌ {A = Rect} (record { left = left; top = top; right = right; bottom = bottom }) (resized_rect frame width height) = rw (e, f, g, h) in
    sym (ap (frame_or_fault (record { left = left; top = top; right = right; bottom = bottom })) fits) ∙ ap within_range same
