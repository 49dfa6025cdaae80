-- Whether two rectangles are one.
use Rattle.std.specs.Ordering.{int_eq}
use Rattle.std.proofs.Common.{◌≡◌, Bool, true, false, not, ◌&&◌, Decides, refl, sym, ap, ◌∙◌}
use Rattle.std.proofs.lemmas.Bool.{true≢false}
use Rattle.std.proofs.lemmas.Bool.Decides.{Decides-like, Decides-and, Decides-int_eq}
use Rattle.be_geom.specs.declared.rect.Rect.{Rect}
use Rattle.be_geom.proofs.RectLemmas.{same_rects}

-- their edges are compared one by one
abbrev pub edges_same : Rect → Rect → Bool
edges_same a b =
    int_eq a.left b.left
    && (int_eq a.top b.top && (int_eq a.right b.right && int_eq a.bottom b.bottom))

pub rect_decides : (a b : Rect) → Decides (edges_same a b) (a ≡ b)
rect_decides a b =
    Decides-like (int_eq a.left b.left && (int_eq a.top b.top && (int_eq a.right b.right && int_eq a.bottom b.bottom)))
    (λ h. same_rects a.left b.left a.top b.top a.right b.right a.bottom b.bottom h.0 h.1.0 h.1.1.0 h.1.1.1)
    (λ e. (ap (λ (s : Rect). s.left) e, (ap (λ (s : Rect). s.top) e, (ap (λ (s : Rect). s.right) e, ap (λ (s : Rect). s.bottom) e))))
    (Decides-and (int_eq a.left b.left) (int_eq a.top b.top && (int_eq a.right b.right && int_eq a.bottom b.bottom)) (Decides-int_eq a.left b.left)
    (Decides-and (int_eq a.top b.top) (int_eq a.right b.right && int_eq a.bottom b.bottom) (Decides-int_eq a.top b.top)
    (Decides-and (int_eq a.right b.right) (int_eq a.bottom b.bottom) (Decides-int_eq a.right b.right) (Decides-int_eq a.bottom b.bottom))))

-- they are, where they aren't found to differ
pub rect_same : (a b : Rect) (differ : Bool) → differ ≡ not (edges_same a b) → differ ≡ false → a ≡ b
rect_same a b differ e f = (rect_decides a b).0 (holds (edges_same a b) (sym e ∙ f))
  where
    holds : (t : Bool) → not t ≡ false → t ≡ true
    holds true h = refl
    holds false h = absurd (true≢false h)
