-- Two lines, walked rectangle by rectangle, and the spans that are made of them.
use Rattle.std.proofs.Common.{◌≡◌, ℤ, pos, negsuc, ◌+ℤ◌, ◌-ℤ◌, ◌≤ℤ◌, ◌<ℤ◌, ◌⊎◌, inl, inr, Bool, true, false, not, ◌||◌, ◌&&◌, List, [], ◌∷◌, ◌++◌, length, arith, refl, sym, ap, ◌∙◌}
use Rattle.std.specs.Prelude.{int_le}
use Rattle.std.specs.Int.{int_max, int_min}
use Rattle.std.proofs.lemmas.Int.{ints, clamps, by_lt_z}
use Rattle.be_facts.proofs.Truths.{and_false, or_false, or_assoc}
use Rattle.be_geom.specs.declared.rect.Rect.{Rect}
use Rattle.be_geom.specs.Points.{between}
use Rattle.be_geom.proofs.Between.{between_tells}
use Rattle.be_region.specs.declared.rule.Rule.{Rule}
use Rattle.be_region.specs.declared.rule.Rule.TheVariants.{Union, Difference, Intersection}
use Rattle.be_region.specs.declared.span.Span.{Span}
use Rattle.be_region.specs.Rules.{keeps}
use Rattle.be_region.specs.Rows.{line_has, IsLine, edge_of}
use Rattle.be_region.specs.Spans.{spans_have, AreSpans, AreWithin}
use Rattle.be_region.proofs.LineLemmas.{before_first, edge_after, line_rest, before_line}
use Rattle.be_region.proofs.SpanLemmas.{spans_have-push, within-push}

pub keeps_none : (rule : Rule) → keeps rule false false ≡ false
keeps_none Union = refl
keeps_none Difference = refl
keeps_none Intersection = refl

pub no_line : (rs : List Rect) → length rs ≡ 0 → rs ≡ []
no_line [] e = refl
no_line (r ∷ rs) e = absurd (omega arith)

-- a column of a line is not before its first rectangle
pub line_from : (rs : List Rect) → IsLine rs → (z : ℤ) → (line_has rs z ≡ false) ⊎ (edge_of false rs ≤ℤ z)
line_from rs h z = by_lt_z {P = (line_has rs z ≡ false) ⊎ (edge_of false rs ≤ℤ z)} z (edge_of false rs) (λ k. inl (before_first rs h z k)) (λ k. inr k)

pub rest_line : (line : List Rect) (r : Rect) (rs : List Rect) → line ≡ r ∷ rs → IsLine line → IsLine rs
rest_line line r rs e h = let k = rw e at h in line_rest (r.right +ℤ pos 1) rs k.1

-- what is left of a line begins behind its first rectangle
pub rest_behind : (line : List Rect) (r : Rect) (rs : List Rect) → line ≡ r ∷ rs → IsLine line → r.right ≤ℤ pos 32767 → (r.right +ℤ pos 1) <ℤ edge_of false rs
rest_behind line r rs e h k = let l = rw e at h in edge_after (r.right +ℤ pos 1) rs l.1 (omega (arith, ints))

pub first_full : (line : List Rect) (r : Rect) (rs : List Rect) → line ≡ r ∷ rs → IsLine line → r.left ≤ℤ r.right
first_full line r rs e h = let l = rw e at h in l.0

pub first_edge : (line : List Rect) (r : Rect) (rs : List Rect) → line ≡ r ∷ rs → edge_of false line ≡ r.left
first_edge line r rs e = rw e refl

pub last_edge : (line : List Rect) (r : Rect) (rs : List Rect) → line ≡ r ∷ rs → edge_of true line ≡ (r.right +ℤ pos 1)
last_edge line r rs e = rw e refl

-- ---- the union

pub none_apart : (spans : List Span) → spans ≡ [] → AreSpans spans
none_apart spans e = rw e (pos 0, (pos 1, omega (arith, ints)))

wider_has : (l r a b z : ℤ) → l ≤ℤ a → a ≤ℤ (r +ℤ pos 1) → l ≤ℤ r → a ≤ℤ b → between l z (int_max r b) ≡ (between l z r || between a z b)
wider_has l r a b z h k m n = grind (arith, ints, clamps, between_tells)

pub grown_has : (s : Bool) (l r a b z : ℤ) → l ≤ℤ a → a ≤ℤ (r +ℤ pos 1) → l ≤ℤ r → a ≤ℤ b → (s || between l z (int_max r b)) ≡ ((s || between l z r) || between a z b)
grown_has s l r a b z h k m n = rw (wider_has l r a b z h k m n) (sym (or_assoc s (between l z r) (between a z b)))

pub pushed_has : (spans new : List Span) (s : Span) (q : Bool) (z : ℤ) → new ≡ spans ++ s ∷ [] → (spans_have new z || q) ≡ ((spans_have spans z || between s.left z s.right) || q)
pushed_has spans new s q z e = ap (λ b. b || q) (ap (λ (t : List Span). spans_have t z) e ∙ spans_have-push spans s z)

pub pushed_within : (low : ℤ) (spans new : List Span) (s : Span) (further : ℤ) → new ≡ spans ++ s ∷ [] → AreWithin low spans s.left → s.left ≤ℤ s.right → (s.right +ℤ pos 1) <ℤ further → AreWithin low new further
pushed_within low spans new s further e h full k = rw e (within-push low spans s further h full k)

-- the spans, the last one and what is left have the columns of both lines
pub record AreUnited (one other : List Rect) (spans : List Span) (last : Span) (a b : List Rect) : Type 0 where
  pub columns : (x : ℤ) → (line_has one x || line_has other x) ≡ ((spans_have spans x || between last.left x last.right) || (line_has a x || line_has b x))
  pub apart : (low : ℤ) × AreWithin low spans last.left
  pub full : last.left ≤ℤ last.right
  pub order : (last.left ≤ℤ edge_of false a) × (last.left ≤ℤ edge_of false b)
  pub one_line : IsLine a
  pub other_line : IsLine b

pub united_first : (one other : List Rect) (spans : List Span) (s : Span) (a b : List Rect) → spans ≡ [] → s.left ≤ℤ s.right → IsLine a × IsLine b → (s.left ≤ℤ edge_of false a) × (s.left ≤ℤ edge_of false b) → ((x : ℤ) → (line_has one x || line_has other x) ≡ (between s.left x s.right || (line_has a x || line_has b x))) → AreUnited one other spans s a b
united_first one other spans s a b none full lines order columns = rw none (record {
  columns = columns;
  apart = (s.left -ℤ pos 1, omega (arith, ints));
  full = full;
  order = order;
  one_line = lines.0;
  other_line = lines.1;
})

pub united_next : (one other : List Rect) (spans new : List Span) (last next r : Span) (a b a' b' : List Rect) → AreUnited one other spans last a b → next.left ≤ℤ next.right → next.left ≤ℤ r.left → ((low : ℤ) → AreWithin low spans last.left → AreWithin low new next.left) → ((x : ℤ) → (spans_have new x || between next.left x next.right) ≡ ((spans_have spans x || between last.left x last.right) || between r.left x r.right)) → IsLine a' × IsLine b' → (r.left ≤ℤ edge_of false a') × (r.left ≤ℤ edge_of false b') → ((x : ℤ) → (line_has a x || line_has b x) ≡ (between r.left x r.right || (line_has a' x || line_has b' x))) → AreUnited one other new next a' b'
united_next one other spans new last next r a b a' b' h full left apart columns lines order taken = record {
  columns = λ x. h.columns x ∙ rw (taken x) (sym (rw (columns x) (or_assoc (spans_have spans x || between last.left x last.right) (between r.left x r.right) (line_has a' x || line_has b' x))));
  apart = (h.apart.0, apart h.apart.0 h.apart.1);
  full = full;
  order = (let p = order.0 in omega (arith, ints), let p = order.1 in omega (arith, ints));
  one_line = lines.0;
  other_line = lines.1;
}

pub united_apart : (one other : List Rect) (spans new : List Span) (last : Span) (a b : List Rect) → AreUnited one other spans last a b → new ≡ spans ++ last ∷ [] → AreSpans new
united_apart one other spans new last a b h e =
    (h.apart.0, (last.right +ℤ pos 2, pushed_within h.apart.0 spans new last (last.right +ℤ pos 2) e h.apart.1 h.full (omega (arith, ints))))

-- ---- the intersection

common_has : (l r a b z : ℤ) (p q : Bool) → (p ≡ false) ⊎ ((r +ℤ pos 1) <ℤ z) → (q ≡ false) ⊎ ((b +ℤ pos 1) <ℤ z) → r <ℤ b → ((between l z r || p) && (between a z b || q)) ≡ (between (int_max l a) z r || (p && (between a z b || q)))
common_has l r a b z p q h k m = grind (arith, ints, clamps, between_tells)

common_has_other : (l r a b z : ℤ) (p q : Bool) → (p ≡ false) ⊎ ((r +ℤ pos 1) <ℤ z) → (q ≡ false) ⊎ ((b +ℤ pos 1) <ℤ z) → b ≤ℤ r → ((between l z r || p) && (between a z b || q)) ≡ (between (int_max l a) z b || ((between l z r || p) && q))
common_has_other l r a b z p q h k m = grind (arith, ints, clamps, between_tells)

-- no column of the rest of a line up to the one behind its first rectangle
pub rest_from : (line : List Rect) (r : Rect) (rs : List Rect) → line ≡ r ∷ rs → IsLine line → (z : ℤ) → (line_has rs z ≡ false) ⊎ ((r.right +ℤ pos 1) <ℤ z)
rest_from line r rs e h z =
    let k = rw e at h in
    by_lt_z {P = (line_has rs z ≡ false) ⊎ ((r.right +ℤ pos 1) <ℤ z)} (r.right +ℤ pos 1) z (λ m. inr m) (λ m. inl (before_line (r.right +ℤ pos 1) rs k.1 z m))

pub met_one : (one other : List Rect) (r s : Rect) (rs ss : List Rect) (left right : ℤ) → one ≡ r ∷ rs → other ≡ s ∷ ss → IsLine one → IsLine other → left ≡ int_max r.left s.left → right ≡ r.right → r.right <ℤ s.right → (x : ℤ) → (line_has one x && line_has other x) ≡ (between left x right || (line_has rs x && line_has other x))
met_one one other r s rs ss left right e f h k m o n x =
    rw (e, f, m, o) (common_has r.left r.right s.left s.right x (line_has rs x) (line_has ss x) (rest_from one r rs e h x) (rest_from other s ss f k x) n)

pub met_other : (one other : List Rect) (r s : Rect) (rs ss : List Rect) (left right : ℤ) → one ≡ r ∷ rs → other ≡ s ∷ ss → IsLine one → IsLine other → left ≡ int_max r.left s.left → right ≡ s.right → s.right ≤ℤ r.right → (x : ℤ) → (line_has one x && line_has other x) ≡ (between left x right || (line_has one x && line_has ss x))
met_other one other r s rs ss left right e f h k m o n x =
    rw (e, f, m, o) (common_has_other r.left r.right s.left s.right x (line_has rs x) (line_has ss x) (rest_from one r rs e h x) (rest_from other s ss f k x) n)

pub met_order : (one other : List Rect) (r s : Rect) (rs ss : List Rect) (left right : ℤ) → one ≡ r ∷ rs → other ≡ s ∷ ss → IsLine one → IsLine other → r.right ≤ℤ pos 32767 → left ≡ int_max r.left s.left → right ≡ r.right → r.right <ℤ s.right → (left ≤ℤ int_max (edge_of false rs) (edge_of false other)) × ((right +ℤ pos 1) <ℤ int_max (edge_of false rs) (edge_of false other))
met_order one other r s rs ss left right e f h k m p o n =
    let full = first_full one r rs e h in
    let behind = rest_behind one r rs e h m in
    let edge = first_edge other s ss f in
    (omega (arith, ints, clamps), omega (arith, ints, clamps))

pub met_order_other : (one other : List Rect) (r s : Rect) (rs ss : List Rect) (left right : ℤ) → one ≡ r ∷ rs → other ≡ s ∷ ss → IsLine one → IsLine other → s.right ≤ℤ pos 32767 → left ≡ int_max r.left s.left → right ≡ s.right → s.right ≤ℤ r.right → (left ≤ℤ int_max (edge_of false one) (edge_of false ss)) × ((right +ℤ pos 1) <ℤ int_max (edge_of false one) (edge_of false ss))
met_order_other one other r s rs ss left right e f h k m p o n =
    let full = first_full other s ss f k in
    let behind = rest_behind other s ss f k m in
    let edge = first_edge one r rs e in
    (omega (arith, ints, clamps), omega (arith, ints, clamps))

-- the spans and what is left of both lines have the columns of both
pub record AreMet (one other : List Rect) (spans : List Span) (a b : List Rect) : Type 0 where
  pub columns : (x : ℤ) → (line_has one x && line_has other x) ≡ (spans_have spans x || (line_has a x && line_has b x))
  pub apart : (low : ℤ) × AreWithin low spans (int_max (edge_of false a) (edge_of false b))
  pub one_line : IsLine a
  pub other_line : IsLine b

pub met_first : (one other : List Rect) (spans : List Span) → spans ≡ [] → IsLine one → IsLine other → AreMet one other spans one other
met_first one other spans none h k = rw none (record {
  columns = λ x. refl;
  apart = (int_max (edge_of false one) (edge_of false other) -ℤ pos 1, omega (arith, ints));
  one_line = h;
  other_line = k;
})

pub met_next : (one other : List Rect) (spans new : List Span) (left right : ℤ) (a b a' b' : List Rect) → AreMet one other spans a b → left ≡ int_max (edge_of false a) (edge_of false b) → IsLine a' × IsLine b' → (left ≤ℤ int_max (edge_of false a') (edge_of false b')) × ((right +ℤ pos 1) <ℤ int_max (edge_of false a') (edge_of false b')) → ((x : ℤ) → (line_has a x && line_has b x) ≡ (between left x right || (line_has a' x && line_has b' x))) → ((low high : ℤ) → AreWithin low spans left → left ≤ℤ high → (right +ℤ pos 1) <ℤ high → AreWithin low new high) → ((x : ℤ) → spans_have new x ≡ (spans_have spans x || between left x right)) → AreMet one other new a' b'
met_next one other spans new left right a b a' b' h e lines order taken apart columns = record {
  columns = λ x. h.columns x ∙ rw (taken x) (sym (rw (columns x) (or_assoc (spans_have spans x) (between left x right) (line_has a' x && line_has b' x))));
  apart = (h.apart.0, apart h.apart.0 (int_max (edge_of false a') (edge_of false b')) (rw e h.apart.1) order.0 order.1);
  one_line = lines.0;
  other_line = lines.1;
}

none_common : (a b : List Rect) → (a ≡ []) ⊎ (b ≡ []) → (x : ℤ) → (line_has a x && line_has b x) ≡ false
none_common a b (inl e) x = rw e refl
none_common a b (inr e) x = rw e (and_false (line_has a x))

pub met_have : (one other : List Rect) (spans : List Span) (a b : List Rect) → AreMet one other spans a b → (a ≡ []) ⊎ (b ≡ []) → (x : ℤ) → spans_have spans x ≡ (line_has one x && line_has other x)
met_have one other spans a b h e x = sym (h.columns x ∙ rw (none_common a b e x) (or_false (spans_have spans x)))

pub met_apart : (one other : List Rect) (spans : List Span) (a b : List Rect) → AreMet one other spans a b → AreSpans spans
met_apart one other spans a b h = (h.apart.0, (int_max (edge_of false a) (edge_of false b), h.apart.1))

-- ---- the difference

cut_none_has : (left l r from z : ℤ) (p : Bool) → l ≤ℤ left → left ≤ℤ (r +ℤ pos 1) → (p ≡ false) ⊎ ((r +ℤ pos 1) <ℤ z) → (p ≡ false) ⊎ (from ≤ℤ z) → ((int_le left z && (between l z r || p)) && true) ≡ (between left z r || ((int_le from z && p) && true))
cut_none_has left l r from z p h k m n = grind (arith, ints, between_tells)

cut_rest_has : (left l r s t from z : ℤ) (p q : Bool) → l ≤ℤ left → left ≤ℤ (r +ℤ pos 1) → r ≤ℤ t → (p ≡ false) ⊎ ((r +ℤ pos 1) <ℤ z) → (p ≡ false) ⊎ (from ≤ℤ z) → (q ≡ false) ⊎ ((t +ℤ pos 1) <ℤ z) → ((int_le left z && (between l z r || p)) && not (between s z t || q)) ≡ (between left z (int_min r (s -ℤ pos 1)) || ((int_le from z && p) && not (between s z t || q)))
cut_rest_has left l r s t from z p q h k m n o u = grind (arith, ints, clamps, between_tells)

cut_hole_has : (left l r s t z : ℤ) (p q : Bool) → l ≤ℤ left → s ≤ℤ t → t <ℤ r → (p ≡ false) ⊎ ((r +ℤ pos 1) <ℤ z) → (q ≡ false) ⊎ ((t +ℤ pos 1) <ℤ z) → ((int_le left z && (between l z r || p)) && not (between s z t || q)) ≡ (between left z (s -ℤ pos 1) || ((int_le (int_max left (t +ℤ pos 1)) z && (between l z r || p)) && not q))
cut_hole_has left l r s t z p q h k m n o = grind (arith, ints, clamps, between_tells)

pub cut_none : (one other : List Rect) (left from right : ℤ) (r : Rect) (rs : List Rect) → one ≡ r ∷ rs → length other ≡ 0 → IsLine one → edge_of false one ≤ℤ left → left ≤ℤ edge_of true one → from ≡ edge_of false rs → right ≡ r.right → (x : ℤ) → ((int_le left x && line_has one x) && not (line_has other x)) ≡ (between left x right || ((int_le from x && line_has rs x) && not (line_has other x)))
cut_none one other left from right r rs e f h k m n o x =
    rw (e, no_line other f, n, o) (cut_none_has left r.left r.right (edge_of false rs) x (line_has rs x) (rw e at k) (rw e at m) (rest_from one r rs e h x) (line_from rs (rest_line one r rs e h) x))

pub cut_rest : (one other : List Rect) (left from right : ℤ) (r s : Rect) (rs ss : List Rect) → one ≡ r ∷ rs → other ≡ s ∷ ss → IsLine one → IsLine other → edge_of false one ≤ℤ left → left ≤ℤ edge_of true one → from ≡ edge_of false rs → right ≡ int_min r.right (s.left -ℤ pos 1) → r.right ≤ℤ s.right → (x : ℤ) → ((int_le left x && line_has one x) && not (line_has other x)) ≡ (between left x right || ((int_le from x && line_has rs x) && not (line_has other x)))
cut_rest one other left from right r s rs ss e f h h' k m n o u x =
    rw (e, f, n, o) (cut_rest_has left r.left r.right s.left s.right (edge_of false rs) x (line_has rs x) (line_has ss x) (rw e at k) (rw e at m) u (rest_from one r rs e h x) (line_from rs (rest_line one r rs e h) x) (rest_from other s ss f h' x))

pub cut_hole : (one other : List Rect) (left from right : ℤ) (r s : Rect) (rs ss : List Rect) → one ≡ r ∷ rs → other ≡ s ∷ ss → IsLine one → IsLine other → edge_of false one ≤ℤ left → from ≡ int_max left (s.right +ℤ pos 1) → right ≡ (s.left -ℤ pos 1) → s.right <ℤ r.right → (x : ℤ) → ((int_le left x && line_has one x) && not (line_has other x)) ≡ (between left x right || ((int_le from x && line_has one x) && not (line_has ss x)))
cut_hole one other left from right r s rs ss e f h h' k n o u x =
    rw (e, f, n, o) (cut_hole_has left r.left r.right s.left s.right x (line_has rs x) (line_has ss x) (rw e at k) (first_full other s ss f h') u (rest_from one r rs e h x) (rest_from other s ss f h' x))

-- the first column of a line is in its first rectangle
pub edges_apart : (line : List Rect) → IsLine line → edge_of false line ≤ℤ edge_of true line
edges_apart [] h = omega (arith, ints)
edges_apart (r ∷ rs) h = let full = h.0 in omega (arith, ints)

-- the spans and what is left of both lines have the columns of the first that the second lacks
pub record AreCut (one other : List Rect) (spans : List Span) (a : List Rect) (left : ℤ) (b : List Rect) : Type 0 where
  pub columns : (x : ℤ) → (line_has one x && not (line_has other x)) ≡ (spans_have spans x || ((int_le left x && line_has a x) && not (line_has b x)))
  pub apart : (low : ℤ) × AreWithin low spans left
  pub range : negsuc 32767 ≤ℤ left
  pub from : edge_of false a ≤ℤ left
  pub to : left ≤ℤ edge_of true a
  pub one_line : IsLine a
  pub other_line : IsLine b

le_from : (a b : ℤ) → a ≤ℤ b → int_le a b ≡ true
le_from a b h = grind (arith, ints)

from_edge : (left x : ℤ) (p : Bool) → (p ≡ false) ⊎ (left ≤ℤ x) → p ≡ (int_le left x && p)
from_edge left x p (inl e) = rw e (sym (and_false (int_le left x)))
from_edge left x p (inr h) = rw (le_from left x h) refl

pub cut_first : (one other : List Rect) (spans : List Span) (left : ℤ) → spans ≡ [] → IsLine one → IsLine other → left ≡ edge_of false one → negsuc 32767 ≤ℤ left → AreCut one other spans one left other
cut_first one other spans left none h k e low = rw none (record {
  columns = λ x. ap (λ b. b && not (line_has other x)) (from_edge left x (line_has one x) (rw e (line_from one h x)));
  apart = (left -ℤ pos 1, omega (arith, ints));
  range = low;
  from = omega (arith, ints);
  to = let apart = edges_apart one h in omega (arith, ints);
  one_line = h;
  other_line = k;
})

pub cut_next : (one other : List Rect) (spans new : List Span) (left right from : ℤ) (a b a' b' : List Rect) → AreCut one other spans a left b → IsLine a' × IsLine b' → negsuc 32767 ≤ℤ from → (edge_of false a' ≤ℤ from) × (from ≤ℤ edge_of true a') → (left ≤ℤ from) × ((right +ℤ pos 1) <ℤ from) → ((x : ℤ) → ((int_le left x && line_has a x) && not (line_has b x)) ≡ (between left x right || ((int_le from x && line_has a' x) && not (line_has b' x)))) → ((low high : ℤ) → AreWithin low spans left → left ≤ℤ high → (right +ℤ pos 1) <ℤ high → AreWithin low new high) → ((x : ℤ) → spans_have new x ≡ (spans_have spans x || between left x right)) → AreCut one other new a' from b'
cut_next one other spans new left right from a b a' b' h lines low edges order taken apart columns = record {
  columns = λ x. h.columns x ∙ rw (taken x) (sym (rw (columns x) (or_assoc (spans_have spans x) (between left x right) ((int_le from x && line_has a' x) && not (line_has b' x)))));
  apart = (h.apart.0, apart h.apart.0 from h.apart.1 order.0 order.1);
  range = low;
  from = edges.0;
  to = edges.1;
  one_line = lines.0;
  other_line = lines.1;
}

pub cut_have : (one other : List Rect) (spans : List Span) (a : List Rect) (left : ℤ) (b : List Rect) → AreCut one other spans a left b → a ≡ [] → (x : ℤ) → spans_have spans x ≡ (line_has one x && not (line_has other x))
cut_have one other spans a left b h e x =
    sym (h.columns x ∙ rw (e, and_false (int_le left x)) (or_false (spans_have spans x)))

pub cut_apart : (one other : List Rect) (spans : List Span) (a : List Rect) (left : ℤ) (b : List Rect) → AreCut one other spans a left b → AreSpans spans
cut_apart one other spans a left b h = (h.apart.0, (left, h.apart.1))

-- ---- a span that may be empty

pub pushed_some : (spans new : List Span) (s : Span) (left right : ℤ) → new ≡ spans ++ s ∷ [] → s.left ≡ left → s.right ≡ right → (x : ℤ) → spans_have new x ≡ (spans_have spans x || between left x right)
pushed_some spans new s left right e l r x = rw (sym l, sym r, e) (spans_have-push spans s x)

pub pushed_some_within : (spans new : List Span) (s : Span) (left right : ℤ) → new ≡ spans ++ s ∷ [] → s.left ≡ left → s.right ≡ right → left ≤ℤ right → (low high : ℤ) → AreWithin low spans left → left ≤ℤ high → (right +ℤ pos 1) <ℤ high → AreWithin low new high
pushed_some_within spans new s left right e l r some low high h k m =
    pushed_within low spans new s high e (rw l h) (omega (arith, ints)) (omega (arith, ints))

pub pushed_none : (b : Bool) (left right x : ℤ) → right <ℤ left → b ≡ (b || between left x right)
pushed_none true left right x h = refl
pushed_none false left right x h = grind (arith, ints, between_tells)
