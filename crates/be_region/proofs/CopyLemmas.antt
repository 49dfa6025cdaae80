-- A line as spans.
use Rattle.std.proofs.Common.{◌≡◌, ℕ, zero, suc, ◌-◌, ◌<◌, ◌≤◌, ℤ, pos, ◌+ℤ◌, ◌-ℤ◌, ◌≤ℤ◌, ◌<ℤ◌, true, false, ◌||◌, List, [], ◌∷◌, length, get_or, take, map, arith, refl, sym, ap, ◌∙◌}
use Rattle.std.proofs.lemmas.Bool.{or_from, or_left, true≢false}
use Rattle.std.proofs.lemmas.Int.{ints, by_lt_z}
use Rattle.std.proofs.lemmas.List.{take_all}
use Rattle.be_geom.specs.declared.rect.Rect.{Rect}
use Rattle.be_geom.specs.Points.{between}
use Rattle.be_region.specs.declared.span.Span.{Span}
use Rattle.be_region.specs.Rows.{line_has, IsLine, IsLineAfter, edge_of}
use Rattle.be_region.specs.Spans.{spans_have, span_of, AreSpans, AreWithin}
use Rattle.std.specs.Prelude.{int_le}
use Rattle.be_geom.proofs.Between.{is_above, is_between}
use Rattle.be_region.proofs.LawLemmas.{same_default}
use Rattle.be_region.proofs.LineLemmas.{line_rest, before_first}

pub copied_have : (line : List Rect) (x : ℤ) → spans_have (map span_of line) x ≡ line_has line x
copied_have [] x = refl
copied_have (r ∷ rs) x = ap (λ b. between r.left x r.right || b) (copied_have rs x)

within_after : (low : ℤ) (line : List Rect) → IsLineAfter low line → (high : ℤ) × AreWithin low (map span_of line) high
within_after low [] h = (low +ℤ pos 1, omega (arith, ints))
within_after low (r ∷ rs) h =
    let rest = within_after (r.right +ℤ pos 1) rs h.2 in (rest.0, (h.0, h.1, rest.1))

pub copied_apart : (line : List Rect) → IsLine line → AreSpans (map span_of line)
copied_apart [] h = (pos 0, (pos 1, omega (arith, ints)))
copied_apart (r ∷ rs) h =
    let rest = within_after (r.right +ℤ pos 1) rs h.1 in
    (r.left -ℤ pos 1, (rest.0, (omega (arith, ints), h.0, rest.1)))

pub all_copied : (spans : List Span) (line : List Rect) (i : ℕ) → length line ≤ i → spans ≡ map span_of (take i line) → spans ≡ map span_of line
all_copied spans line i h e = e ∙ ap (map span_of) (take_all i line h)

pub copied_apart_at : (spans : List Span) (line : List Rect) → spans ≡ map span_of line → IsLine line → AreSpans spans
copied_apart_at spans line e h = rw e (copied_apart line h)

pub copied_have_at : (spans : List Span) (line : List Rect) → spans ≡ map span_of line → (x : ℤ) → spans_have spans x ≡ line_has line x
copied_have_at spans line e x = rw e (copied_have line x)

-- ---- a line of which another has all columns in one rectangle

last_after : (low : ℤ) (rs : List Rect) (n : ℕ) (d : Rect) → IsLineAfter low rs → suc n ≡ length rs → low <ℤ (get_or rs n d).right
last_after low [] n d h e = absurd (omega arith)
last_after low (r ∷ rs) zero d h e = let before = h.0 in let full = h.1 in omega (arith, ints)
last_after low (r ∷ rs) (suc n) d h e =
    let before = h.0 in
    let full = h.1 in
    let rest = last_after (r.right +ℤ pos 1) rs n d h.2 (omega arith) in
    omega (arith, ints)

none_left : (rs : List Rect) (z : ℤ) → 1 ≡ suc (length rs) → line_has rs z ≡ false
none_left [] z e = refl
none_left (r ∷ rs) z e = absurd (omega arith)

-- no column behind the last rectangle
behind_last : (rs : List Rect) (n : ℕ) (d : Rect) → IsLine rs → suc n ≡ length rs → (z : ℤ) → (get_or rs n d).right <ℤ z → line_has rs z ≡ false
behind_last [] n d h e z k = refl
behind_last (r ∷ rs) zero d h e z k =
    or_from (between r.left z r.right) (line_has rs z) (is_above r.left z r.right k) (none_left rs z (omega arith))
behind_last (r ∷ rs) (suc n) d h e z k =
    let after = last_after (r.right +ℤ pos 1) rs n d h.1 (omega arith) in
    or_from (between r.left z r.right) (line_has rs z) (is_above r.left z r.right (omega (arith, ints))) (behind_last rs n d (line_rest (r.right +ℤ pos 1) rs h.1) (omega arith) z k)

first_edge : (rs : List Rect) (first : Rect) → 0 < length rs → first ≡ get_or rs 0 first → edge_of false rs ≡ first.left
first_edge [] first some e = absurd (omega arith)
first_edge (r ∷ rs) first some e = ap (λ (q : Rect). q.left) (sym e)

pub all_covered : (whole line : List Rect) (rect first last : Rect) → whole ≡ rect ∷ [] → IsLine line → 0 < length line → first ≡ get_or line 0 first → last ≡ get_or line (length line - 1) last → rect.left ≤ℤ first.left → last.right ≤ℤ rect.right → (x : ℤ) → line_has line x ≡ true → line_has whole x ≡ true
all_covered whole line rect first last e h some f l left right x there =
    let edge = first_edge line first some f in
    let from : first.left ≤ℤ x = by_lt_z {P = first.left ≤ℤ x} x first.left (λ k. absurd (true≢false (sym there ∙ before_first line h x (rw edge k)))) (λ k. k) in
    let to : x ≤ℤ last.right = by_lt_z {P = x ≤ℤ last.right} last.right x (λ k. absurd (true≢false (sym there ∙ behind_last line (length line - 1) last h (omega arith) x (rw (← l) k)))) (λ k. k) in
    rw e (or_left (between rect.left x rect.right) false (is_between rect.left x rect.right (omega (arith, ints)) (omega (arith, ints))))

-- what stands past the end of a line
abbrev pub no_rect : Rect
no_rect = record { left = pos 0; top = pos 0; right = pos 0; bottom = pos 0 }

single : (whole : List Rect) (d : Rect) → 1 ≤ length whole → length whole < 2 → whole ≡ get_or whole 0 d ∷ []
single [] d some few = absurd (omega arith)
single (r ∷ []) d some few = refl
single (r ∷ s ∷ rs) d some few = absurd (omega arith)

le_from : (a b : ℤ) → int_le a b ≡ true → a ≤ℤ b
le_from a b e = grind (arith, ints)

pub covered_at : (whole line : List Rect) (d : Rect) → 1 ≤ length whole → length whole < 2 → IsLine line → 0 < length line → int_le (get_or whole 0 d).left (get_or line 0 d).left ≡ true → int_le (get_or line (length line - 1) d).right (get_or whole 0 d).right ≡ true → (x : ℤ) → line_has line x ≡ true → line_has whole x ≡ true
covered_at whole line d some few h some' left right x there =
    all_covered whole line (get_or whole 0 d) (get_or line 0 d) (get_or line (length line - 1) d) (single whole d some few) h some' (same_default line 0 d (get_or line 0 d) some') (same_default line (length line - 1) d (get_or line (length line - 1) d) (omega arith)) (le_from (get_or whole 0 d).left (get_or line 0 d).left left) (le_from (get_or line (length line - 1) d).right (get_or whole 0 d).right right) x there
