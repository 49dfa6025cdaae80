-- Whether two lists of spans are one.
use Rattle.std.proofs.Common.{◌≡◌, ℤ, ◌&&◌, Decides, ap, refl}
use Rattle.std.specs.Ordering.{int_eq}
use Rattle.std.proofs.lemmas.Bool.Decides.{Decides-like, Decides-and, Decides-int_eq}
use Rattle.be_region.specs.declared.span.Span.{Span}

rebuilt : (l l' r r' : ℤ) → (l ≡ l') × (r ≡ r') → ◌≡◌ {A = Span} record { left = l; right = r } record { left = l'; right = r' }
rebuilt l l' r r' h = rw (h.0, h.1) refl

pub span_decides : (a b : Span) → Decides (int_eq a.left b.left && int_eq a.right b.right) (a ≡ b)
span_decides a b =
    Decides-like (int_eq a.left b.left && int_eq a.right b.right) (λ h. rebuilt a.left b.left a.right b.right h) (λ e. (ap (λ (s : Span). s.left) e, ap (λ (s : Span). s.right) e)) (Decides-and (int_eq a.left b.left) (int_eq a.right b.right) (Decides-int_eq a.left b.left) (Decides-int_eq a.right b.right))
