-- Rectangles moved, and those that leave the range.
use Rattle.std.proofs.Common.{◌≡◌, ℕ, ◌+◌, ◌-◌, ◌<◌, ◌≤◌, ℤ, pos, negsuc, ◌+ℤ◌, ◌-ℤ◌, ◌<ℤ◌, Bool, true, false, not, ◌&&◌, ◌⊎◌, inl, inr, ◌↔◌, List, [], ◌∷◌, ◌++◌, length, get_or, set, take, drop, map, All, Result, Ok, Err, IsOk, IsErr, arith, refl, sym, ap, ◌∙◌}
use Rattle.std.specs.List.{list_all}
use Rattle.std.proofs.lemmas.Int.{ints}
use Rattle.std.proofs.lemmas.Bool.{and_cases, and_left, and_right, and_parts, or_cases, or_left, or_right, true≢false}
use Rattle.std.proofs.lemmas.List.{get_or_default, get_or-append_right, get_or-drop, length-append, length-map, length-take, length-drop, take_all, drop_all, append-nil, take_at}
use Rattle.std.proofs.lemmas.List.Edits.{map_over_more}
use Rattle.std.proofs.lemmas.List.Elements.{All-head, All-tail, All-map, All-weaker}
use Rattle.be_geom.specs.declared.rect.Rect.{Rect}
use Rattle.be_geom.specs.declared.point.OutOfRange.{OutOfRange}
use Rattle.be_geom.specs.Points.{between, in_range}
use Rattle.be_geom.specs.Rects.{rect_has, rect_fits, moved_rect}
use Rattle.be_geom.proofs.Between.{between_tells, between_parts}
use Rattle.be_region.specs.Regions.{region_has, IsNotEmpty, IsMoved, SomePixelLeaves}
use Rattle.be_region.specs.Bands.{IsBefore, RowsDiffer, AreBands}
use Rattle.be_region.proofs.PairLemmas.{pairs_head, pairs_tail, pairs_none, pairs_cons}
use Rattle.std.specs.List.{AllPairs}

pub fits_is_ok : (r : Result Rect OutOfRange) (b : Bool) → (IsErr r ↔ (b ≡ false)) → b ≡ true → IsOk r
fits_is_ok (Ok x) b h e = refl
fits_is_ok (Err x) b h e = absurd (true≢false (sym e ∙ h.0 refl))

between_moved : (low high z d : ℤ) → between (low +ℤ d) z (high +ℤ d) ≡ between low (z -ℤ d) high
between_moved low high z d = grind (arith, ints, between_tells)

moved_has : (r : Rect) (dx dy x y : ℤ) → rect_has (moved_rect r dx dy) x y ≡ rect_has r (x -ℤ dx) (y -ℤ dy)
moved_has r dx dy x y = rw (between_moved r.left r.right x dx, between_moved r.top r.bottom y dy) refl

pub moved_region : (rs : List Rect) (dx dy : ℤ) → IsMoved (map (λ r. moved_rect r dx dy) rs) rs dx dy
moved_region [] dx dy x y = refl
moved_region (r ∷ rs) dx dy x y = rw (moved_has r dx dy x y, moved_region rs dx dy x y) refl

moved_full : (dx dy : ℤ) (r : Rect) → IsNotEmpty r → IsNotEmpty (moved_rect r dx dy)
moved_full dx dy r full = record { across = omega (arith, ints); down = omega (arith, ints) }

moved_before : (dx dy : ℤ) (r q : Rect) → IsBefore r q → IsBefore (moved_rect r dx dy) (moved_rect q dx dy)
moved_before dx dy r q (inl h) =
    let apart = h.2 in
    inl (ap (λ (z : ℤ). z +ℤ dy) h.0, ap (λ (z : ℤ). z +ℤ dy) h.1, omega (arith, ints))
moved_before dx dy r q (inr h) = inr (omega (arith, ints))

moved_order : (rs : List Rect) (dx dy : ℤ) → AllPairs IsBefore rs → AllPairs IsBefore (map (λ r. moved_rect r dx dy) rs)
moved_order [] dx dy h = pairs_none IsBefore
moved_order (r ∷ rs) dx dy h =
    pairs_cons IsBefore (moved_rect r dx dy) (map (λ q. moved_rect q dx dy) rs) (All-map (IsBefore (moved_rect r dx dy)) (λ q. moved_rect q dx dy) rs (All-weaker (IsBefore r) (λ q. IsBefore (moved_rect r dx dy) (moved_rect q dx dy)) (moved_before dx dy r) rs (pairs_head IsBefore r rs h))) (moved_order rs dx dy (pairs_tail IsBefore r rs h))

back : (z d : ℤ) → (z +ℤ d) -ℤ d ≡ z
back z d = omega (arith, ints)

back_above : (z d : ℤ) → (z +ℤ d -ℤ pos 1) -ℤ d ≡ z -ℤ pos 1
back_above z d = omega (arith, ints)

moved_differs : (rs : List Rect) (dx dy : ℤ) (r : Rect) → RowsDiffer rs (r.top -ℤ pos 1) r.top → RowsDiffer (map (λ q. moved_rect q dx dy) rs) (r.top +ℤ dy -ℤ pos 1) (r.top +ℤ dy)
moved_differs rs dx dy r h =
    let x = h.0 +ℤ dx in
    (x, moved_region rs dx dy x (r.top +ℤ dy -ℤ pos 1) ∙ rw (back h.0 dx, back_above r.top dy) (h.1 ∙ ap not (sym (moved_region rs dx dy x (r.top +ℤ dy) ∙ rw (back h.0 dx, back r.top dy) refl))))

pub moved_bands : (rs : List Rect) (dx dy : ℤ) → AreBands rs → AreBands (map (λ r. moved_rect r dx dy) rs)
moved_bands rs dx dy h = record {
  none_empty = All-map IsNotEmpty (λ r. moved_rect r dx dy) rs (All-weaker IsNotEmpty (λ r. IsNotEmpty (moved_rect r dx dy)) (moved_full dx dy) rs h.none_empty);
  in_order = moved_order rs dx dy h.in_order;
  merged = All-map (λ r. RowsDiffer (map (λ q. moved_rect q dx dy) rs) (r.top -ℤ pos 1) r.top) (λ r. moved_rect r dx dy) rs (All-weaker (λ r. RowsDiffer rs (r.top -ℤ pos 1) r.top) (λ r. RowsDiffer (map (λ q. moved_rect q dx dy) rs) (r.top +ℤ dy -ℤ pos 1) (r.top +ℤ dy)) (moved_differs rs dx dy) rs h.merged);
}

same_length : (olds rs : List Rect) (dx dy : ℤ) (i : ℕ) → i < length olds → rs ≡ map (λ q. moved_rect q dx dy) (take i olds) ++ drop i olds → length rs ≡ length olds
same_length olds rs dx dy i h e =
    omega (arith, ap length e, length-append (map (λ q. moved_rect q dx dy) (take i olds)) (drop i olds), length-map (take i olds) (λ q. moved_rect q dx dy), length-take i olds, length-drop i olds)

-- one more rectangle is moved in place
pub move_step : (olds rs : List Rect) (dx dy : ℤ) (i : ℕ) (r d : Rect) → i < length olds → rs ≡ map (λ q. moved_rect q dx dy) (take i olds) ++ drop i olds → r ≡ moved_rect (get_or rs i d) dx dy → set rs i r ≡ map (λ q. moved_rect q dx dy) (take (i + 1) olds) ++ drop (i + 1) olds
move_step olds rs dx dy i r d h e f =
    let n = same_length olds rs dx dy i h e in
    rw f (map_over_more (λ q. moved_rect q dx dy) olds rs i (get_or rs i d) h e (get_or_default rs i d (get_or rs i d) (omega arith)))

-- where none is moved yet
pub not_moved : (olds rs : List Rect) (dx dy : ℤ) (i : ℕ) (d : Rect) → i < length olds → rs ≡ map (λ q. moved_rect q dx dy) (take i olds) ++ drop i olds → get_or rs i d ≡ get_or olds i d
not_moved olds rs dx dy i d h e =
    ap (λ t. get_or t i d) e ∙ get_or-append_right (map (λ q. moved_rect q dx dy) (take i olds)) (drop i olds) i i d (omega (arith, length-map (take i olds) (λ q. moved_rect q dx dy), length-take i olds)) (omega arith) ∙ get_or-drop i olds (i - i) d ∙ ap (λ k. get_or olds k d) (omega arith)

-- where all are moved
pub all_moved : (olds rs : List Rect) (dx dy : ℤ) (i : ℕ) → length olds ≤ i → rs ≡ map (λ q. moved_rect q dx dy) (take i olds) ++ drop i olds → rs ≡ map (λ q. moved_rect q dx dy) olds
all_moved olds rs dx dy i h e =
    e ∙ rw (take_all i olds h, drop_all i olds h) (append-nil (map (λ q. moved_rect q dx dy) olds))

some_end : (a b c d : Bool) → (a && b && c && d) ≡ false → ((a && b) ≡ false) ⊎ ((c && d) ≡ false)
some_end false b c d e = inl refl
some_end true false c d e = inl refl
some_end true true c d e = inr e

rect_leaves : (r : Rect) (dx dy : ℤ) → IsNotEmpty r → rect_fits (moved_rect r dx dy) ≡ false → (x : ℤ) × ((y : ℤ) × ((rect_has r x y ≡ true) × ((in_range (x +ℤ dx) && in_range (y +ℤ dy)) ≡ false)))
rect_leaves r dx dy full e =
    elim (some_end (in_range (r.left +ℤ dx)) (in_range (r.top +ℤ dy)) (in_range (r.right +ℤ dx)) (in_range (r.bottom +ℤ dy)) e) [ inl h ↦ (r.left, (r.top, (grind (arith, ints, between_tells), h))) | inr h ↦ (r.right, (r.bottom, (grind (arith, ints, between_tells), h))) ]

-- where a rectangle, moved, leaves the range, a pixel does
pub some_leaves : (rs : List Rect) (dx dy : ℤ) → All IsNotEmpty rs → list_all (λ r. rect_fits (moved_rect r dx dy)) rs ≡ false → SomePixelLeaves rs dx dy
some_leaves [] dx dy full e = absurd (true≢false e)
some_leaves (r ∷ rs) dx dy full e =
    elim (and_cases (rect_fits (moved_rect r dx dy)) (list_all (λ q. rect_fits (moved_rect q dx dy)) rs) e) [ inl h ↦ let p = rect_leaves r dx dy (All-head IsNotEmpty r rs full) h in (p.0, (p.1.0, (or_left (rect_has r p.0 p.1.0) (region_has rs p.0 p.1.0) p.1.1.0, p.1.1.1))) | inr h ↦ let p = some_leaves rs dx dy (All-tail IsNotEmpty r rs full) h in (p.0, (p.1.0, (or_right (rect_has r p.0 p.1.0) (region_has rs p.0 p.1.0) p.1.1.0, p.1.1.1))) ]

out_below : (z : ℤ) → z <ℤ negsuc 32767 → in_range z ≡ false
out_below z h = grind (arith, ints, between_tells)

out_above : (z : ℤ) → pos 32767 <ℤ z → in_range z ≡ false
out_above z h = grind (arith, ints, between_tells)

end_leaves : (low high z d : ℤ) → between low z high ≡ true → in_range (z +ℤ d) ≡ false → (in_range (low +ℤ d) ≡ false) ⊎ (in_range (high +ℤ d) ≡ false)
end_leaves low high z d h e =
    let parts = between_parts low high z h in
    elim (between_tells (negsuc 32767) (z +ℤ d) (pos 32767)) [ inl t ↦ absurd (true≢false (sym t.0 ∙ e)) | inr t ↦ elim t.1 [ inl k ↦ inl (out_below (low +ℤ d) (omega (arith, ints))) | inr k ↦ inr (out_above (high +ℤ d) (omega (arith, ints))) ] ]

one_fails : (a b c d : Bool) → ((a ≡ false) ⊎ (c ≡ false)) ⊎ ((b ≡ false) ⊎ (d ≡ false)) → (a && b && c && d) ≡ false
one_fails a b c d h = grind arith

leaves_rect : (r : Rect) (dx dy x y : ℤ) → rect_has r x y ≡ true → (in_range (x +ℤ dx) && in_range (y +ℤ dy)) ≡ false → rect_fits (moved_rect r dx dy) ≡ false
leaves_rect r dx dy x y h e =
    let both = and_parts (between r.left x r.right) (between r.top y r.bottom) h in
    one_fails (in_range (r.left +ℤ dx)) (in_range (r.top +ℤ dy)) (in_range (r.right +ℤ dx)) (in_range (r.bottom +ℤ dy)) (elim (and_cases (in_range (x +ℤ dx)) (in_range (y +ℤ dy)) e) [ inl k ↦ inl (end_leaves r.left r.right x dx both.0 k) | inr k ↦ inr (end_leaves r.top r.bottom y dy both.1 k) ])

-- where a pixel, moved, leaves the range, a rectangle does
pub leaves_some : (rs : List Rect) (dx dy x y : ℤ) → region_has rs x y ≡ true → (in_range (x +ℤ dx) && in_range (y +ℤ dy)) ≡ false → list_all (λ r. rect_fits (moved_rect r dx dy)) rs ≡ false
leaves_some [] dx dy x y h e = absurd (true≢false (sym h))
leaves_some (r ∷ rs) dx dy x y h e =
    elim (or_cases (rect_has r x y) (region_has rs x y) h) [ inl k ↦ and_left (rect_fits (moved_rect r dx dy)) (list_all (λ q. rect_fits (moved_rect q dx dy)) rs) (leaves_rect r dx dy x y k e) | inr k ↦ and_right (rect_fits (moved_rect r dx dy)) (list_all (λ q. rect_fits (moved_rect q dx dy)) rs) (leaves_some rs dx dy x y k e) ]

-- what a vector has after its items were lent and moved
pub moved_back : (n : ℕ) (news lent items : List Rect) (dx dy : ℤ) → news ≡ map (λ r. moved_rect r dx dy) lent → lent ≡ items → n ≡ length items → take n (news ++ drop (length news) items) ≡ map (λ r. moved_rect r dx dy) items
moved_back n news lent items dx dy e f g =
    take_at news (drop (length news) items) n (ap length e ∙ length-map lent (λ r. moved_rect r dx dy) ∙ ap length f ∙ sym g) ∙ e ∙ ap (map (λ r. moved_rect r dx dy)) f
