-- Two different lists of spans differ at some column.
use Rattle.std.proofs.Common.{◌≡◌, ℤ, pos, ◌+ℤ◌, ◌≤ℤ◌, ◌<ℤ◌, ◌⊎◌, inl, inr, Bool, true, false, not, List, [], ◌∷◌, arith, refl, sym, ◌∙◌}
use Rattle.std.proofs.lemmas.Int.{ints, by_lt_z}
use Rattle.std.proofs.lemmas.Bool.{or_from, or_left, or_right, true≢false}
use Rattle.be_geom.specs.Points.{between}
use Rattle.be_geom.proofs.Between.{is_below, is_above, is_between}
use Rattle.be_region.specs.declared.span.Span.{Span}
use Rattle.be_region.specs.Spans.{spans_have, AreSpans, AreWithin}

-- no column up to the one behind which the spans begin
pub before_spans : (low : ℤ) (spans : List Span) (high : ℤ) → AreWithin low spans high → (z : ℤ) → z ≤ℤ low → spans_have spans z ≡ false
before_spans low [] high h z k = refl
before_spans low (s ∷ spans) high h z k =
    or_from (between s.left z s.right) (spans_have spans z) (let before = h.0 in is_below s.left z s.right (omega (arith, ints))) (let before = h.0 in let full = h.1 in before_spans (s.right +ℤ pos 1) spans high h.2 z (omega (arith, ints)))

column_after : (low : ℤ) (spans : List Span) (high : ℤ) → AreWithin low spans high → (z : ℤ) → spans_have spans z ≡ true → low <ℤ z
column_after low spans high h z e =
    by_lt_z {P = low <ℤ z} low z (λ k. k) (λ k. absurd (true≢false (sym e ∙ before_spans low spans high h z k)))

abbrev pub DifferAt : List Span → List Span → ℤ → Type 0
DifferAt p q x =
    ((spans_have p x ≡ true) × (spans_have q x ≡ false)) ⊎ ((spans_have p x ≡ false) × (spans_have q x ≡ true))

abbrev pub Differ : List Span → List Span → Type 0
Differ p q = (x : ℤ) × DifferAt p q x

flipped_at : (p q : List Span) (x : ℤ) → DifferAt p q x → DifferAt q p x
flipped_at p q x (inl h) = inr (h.1, h.0)
flipped_at p q x (inr h) = inl (h.1, h.0)

flipped : (p q : List Span) → Differ p q → Differ q p
flipped p q h = (h.0, flipped_at p q h.0 h.1)

-- the first list begins further left
left_differs : (low : ℤ) (s t : Span) (p q : List Span) (high : ℤ) → s.left ≤ℤ s.right → AreWithin low (t ∷ q) high → s.left <ℤ t.left → Differ (s ∷ p) (t ∷ q)
left_differs low s t p q high full h k =
    let full' = h.1 in
    (s.left, inl (or_left (between s.left s.left s.right) (spans_have p s.left) (is_between s.left s.left s.right (omega (arith, ints)) full), or_from (between t.left s.left t.right) (spans_have q s.left) (is_below t.left s.left t.right k) (before_spans (t.right +ℤ pos 1) q high h.2 s.left (omega (arith, ints)))))

-- the first span of the first list ends further left
right_differs : (s t : Span) (p q : List Span) (high : ℤ) → t.left ≤ℤ s.right → AreWithin (s.right +ℤ pos 1) p high → s.right <ℤ t.right → Differ (s ∷ p) (t ∷ q)
right_differs s t p q high full h k =
    let x = s.right +ℤ pos 1 in
    (x, inr (or_from (between s.left x s.right) (spans_have p x) (is_above s.left x s.right (omega (arith, ints))) (before_spans x p high h x (omega (arith, ints))), or_left (between t.left x t.right) (spans_have q x) (is_between t.left x t.right (omega (arith, ints)) (omega (arith, ints)))))

rebuilt : (l l' r r' : ℤ) → l ≡ l' → r ≡ r' → ◌≡◌ {A = Span} record { left = l; right = r } record { left = l'; right = r' }
rebuilt l l' r r' h k = rw (h, k) refl

same_span : (s t : Span) → s.left ≡ t.left → s.right ≡ t.right → s ≡ t
same_span s t h k = rebuilt s.left t.left s.right t.right h k

same_then : (s : Span) (p q : List Span) (a b : ℤ) → AreWithin (s.right +ℤ pos 1) p a → AreWithin (s.right +ℤ pos 1) q b → (x : ℤ) → DifferAt p q x → DifferAt (s ∷ p) (s ∷ q) x
same_then s p q a b h k x (inl d) =
    inl (or_right (between s.left x s.right) (spans_have p x) d.0, or_from (between s.left x s.right) (spans_have q x) (let after = column_after (s.right +ℤ pos 1) p a h x d.0 in is_above s.left x s.right (omega (arith, ints))) d.1)
same_then s p q a b h k x (inr d) =
    inr (or_from (between s.left x s.right) (spans_have p x) (let after = column_after (s.right +ℤ pos 1) q b k x d.1 in is_above s.left x s.right (omega (arith, ints))) d.0, or_right (between s.left x s.right) (spans_have q x) d.1)

same_heads : (s t : Span) (p q : List Span) (a b : ℤ) → s ≡ t → AreWithin (s.right +ℤ pos 1) p a → AreWithin (s.right +ℤ pos 1) q b → Differ p q → Differ (s ∷ p) (t ∷ q)
same_heads s t p q a b e h k d = (d.0, rw (← e) (same_then s p q a b h k d.0 d.1))

same_lists : (s t : Span) (p q : List Span) → s ≡ t → p ≡ q → s ∷ p ≡ t ∷ q
same_lists s t p q e f = rw (e, f) refl

last_differs : (s t : Span) (p q : List Span) (a b : ℤ) → s ≡ t → AreWithin (s.right +ℤ pos 1) p a → AreWithin (t.right +ℤ pos 1) q b → (s ∷ p ≡ t ∷ q → ⊥) → (AreWithin (s.right +ℤ pos 1) q b → (p ≡ q → ⊥) → Differ p q) → Differ (s ∷ p) (t ∷ q)
last_differs s t p q a b e h k ne rest =
    let k' : AreWithin (s.right +ℤ pos 1) q b = rw e k in
    same_heads s t p q a b e h k' (rest k' (λ f. ne (same_lists s t p q e f)))

le_both : (a b : ℤ) → a ≤ℤ b → b ≤ℤ a → a ≡ b
le_both a b h k = omega (arith, ints)

pub differ : (low : ℤ) (p : List Span) (a : ℤ) (q : List Span) (b : ℤ) → AreWithin low p a → AreWithin low q b → (p ≡ q → ⊥) → Differ p q
differ low [] a [] b h k ne = absurd (ne refl)
differ low [] a (t ∷ q) b h k ne =
    (t.left, inr (refl, or_left (between t.left t.left t.right) (spans_have q t.left) (is_between t.left t.left t.right (omega (arith, ints)) k.1)))
differ low (s ∷ p) a [] b h k ne =
    (s.left, inl (or_left (between s.left s.left s.right) (spans_have p s.left) (is_between s.left s.left s.right (omega (arith, ints)) h.1), refl))
differ low (s ∷ p) a (t ∷ q) b h k ne =
    let full = h.1 in
    let full' = k.1 in
    by_lt_z {P = Differ (s ∷ p) (t ∷ q)} s.left t.left (λ l. left_differs low s t p q b h.1 k l) (λ l.
    by_lt_z {P = Differ (s ∷ p) (t ∷ q)} t.left s.left (λ m. flipped (t ∷ q) (s ∷ p) (left_differs low t s q p a k.1 h m)) (λ m.
    by_lt_z {P = Differ (s ∷ p) (t ∷ q)} s.right t.right (λ r. right_differs s t p q a (omega (arith, ints)) h.2 r) (λ r.
    by_lt_z {P = Differ (s ∷ p) (t ∷ q)} t.right s.right (λ v. flipped (t ∷ q) (s ∷ p) (right_differs t s q p b (omega (arith, ints)) k.2 v)) (λ v.
    last_differs s t p q a b (same_span s t (le_both s.left t.left m l) (le_both s.right t.right v r)) h.2 k.2 ne (λ k' ne'. differ (s.right +ℤ pos 1) p a q b h.2 k' ne')))))

lower : (low low' : ℤ) (p : List Span) (high : ℤ) → AreWithin low p high → low' ≤ℤ low → AreWithin low' p high
lower low low' [] high h k = omega (arith, ints)
lower low low' (s ∷ p) high h k = (let before = h.0 in omega (arith, ints), h.1, h.2)

not_same : (a b : Bool) → ((a ≡ true) × (b ≡ false)) ⊎ ((a ≡ false) × (b ≡ true)) → a ≡ not b
not_same a b (inl h) = rw (h.0, h.1) refl
not_same a b (inr h) = rw (h.0, h.1) refl

pub spans_differ : (p q : List Span) → AreSpans p → AreSpans q → (p ≡ q → ⊥) → (x : ℤ) × (spans_have p x ≡ not (spans_have q x))
spans_differ p q h k ne =
    let found : Differ p q = by_lt_z {P = Differ p q} h.0 k.0 (λ l. differ h.0 p h.1.0 q k.1.0 h.1.1 (lower k.0 h.0 q k.1.0 k.1.1 (omega (arith, ints))) ne) (λ l. differ k.0 p h.1.0 q k.1.0 (lower h.0 k.0 p h.1.0 h.1.1 l) k.1.1 ne) in
    (found.0, not_same (spans_have p found.0) (spans_have q found.0) found.1)
