-- Spans of a line that is being made.
use Rattle.std.proofs.Common.{◌≡◌, ℤ, pos, ◌+ℤ◌, ◌≤ℤ◌, ◌<ℤ◌, ◌||◌, List, [], ◌∷◌, ◌++◌, arith, sym, ap, ◌∙◌}
use Rattle.std.proofs.lemmas.Int.{ints}
use Rattle.std.proofs.lemmas.List.Folds.{list_any-append}
use Rattle.be_facts.proofs.Truths.{with_or_false}
use Rattle.be_geom.specs.Points.{between}
use Rattle.be_region.specs.declared.span.Span.{Span}
use Rattle.be_region.specs.Spans.{spans_have, AreWithin}

pub within-push : (low : ℤ) (spans : List Span) (s : Span) (further : ℤ) → AreWithin low spans s.left → s.left ≤ℤ s.right → (s.right +ℤ pos 1) <ℤ further → AreWithin low (spans ++ s ∷ []) further
within-push low [] s further h full k = (h, full, k)
within-push low (t ∷ spans) s further h full k = (h.0, h.1, within-push (t.right +ℤ pos 1) spans s further h.2 full k)

pub within-wider : (low : ℤ) (spans : List Span) (high further : ℤ) → AreWithin low spans high → high ≤ℤ further → AreWithin low spans further
within-wider low [] high further h k = omega (arith, ints)
within-wider low (t ∷ spans) high further h k = (h.0, h.1, within-wider (t.right +ℤ pos 1) spans high further h.2 k)

pub spans_have-push : (spans : List Span) (s : Span) (z : ℤ) → spans_have (spans ++ s ∷ []) z ≡ (spans_have spans z || between s.left z s.right)
spans_have-push spans s z =
    list_any-append (λ t. between t.left z t.right) spans (s ∷ []) ∙ ap (λ b. spans_have spans z || b) (sym (with_or_false (between s.left z s.right)))
