-- Two regions, walked band by band.
use Rattle.std.proofs.Common.{◌≡◌, ℕ, ◌+◌, ◌-◌, ◌<◌, suc, ℤ, pos, negsuc, ◌+ℤ◌, ◌≤ℤ◌, ◌<ℤ◌, false, ◌||◌, ◌&&◌, List, [], arith, refl, sym, ◌∙◌}
use Rattle.std.specs.Int.{int_min}
use Rattle.std.proofs.lemmas.Int.{ints, clamps, by_lt_z}
use Rattle.be_facts.proofs.Truths.{or_false}
use Rattle.be_geom.specs.declared.rect.Rect.{Rect}
use Rattle.be_geom.specs.Points.{between}
use Rattle.be_geom.proofs.Between.{is_below, is_between}
use Rattle.be_region.specs.declared.rule.Rule.{Rule}
use Rattle.be_region.specs.declared.bands.Bands.{Bands}
use Rattle.be_region.specs.declared.span.Span.{Span}
use Rattle.be_region.specs.Regions.{region_has}
use Rattle.be_region.specs.Rules.{keeps}
use Rattle.be_region.specs.Rows.{line_has, AreFrom, AreAbove}
use Rattle.be_region.specs.Spans.{spans_have, AreOpenBands, kept_of, bands_of}
use Rattle.be_region.proofs.MergeLemmas.{keeps_none}
use Rattle.be_region.proofs.RowLemmas.{none_above}

-- what is left of a region from a row on
pub record IsRest (all rest : List Rect) (y : ℤ) : Type 0 where
  pub same : (x z : ℤ) → y ≤ℤ z → region_has all x z ≡ region_has rest x z
  pub from : AreFrom y rest

-- the rows before y are made
pub record AreRowsMade (rule : Rule) (kept one other : List Rect) (bands : Bands) (a b : List Rect) (y : ℤ) : Type 0 where
  pub made : (x z : ℤ) → z <ℤ y → region_has (bands_of bands) x z ≡ keeps rule (region_has one x z) (region_has other x z)
  pub one_rest : IsRest one a y
  pub other_rest : IsRest other b y
  pub above : AreAbove y (bands_of bands)
  pub is_open : AreOpenBands bands
  pub stays : kept_of bands ≡ kept
  pub low : negsuc 32767 ≤ℤ y
  pub high : y ≤ℤ pos 32768

-- ---- the measure

pub rows_left : ℤ → ℕ
rows_left (pos n) = 32768 - n
rows_left (negsuc n) = 32768 + suc n

pub rows_smaller : (x y : ℤ) → x <ℤ y → x <ℤ pos 32768 → rows_left y < rows_left x
unfolding rows_left
rows_smaller (pos m) (pos n) h k = omega (arith, ints)
rows_smaller (pos m) (negsuc n) h k = absurd (omega (arith, ints))
rows_smaller (negsuc m) (pos n) h k = omega (arith, ints)
rows_smaller (negsuc m) (negsuc n) h k = omega (arith, ints)

-- ---- the start

pub rest_first : (all : List Rect) (first y : ℤ) → y ≤ℤ first → AreFrom first all → IsRest all all y
rest_first all first y h from = record {
  same = λ x z k. refl;
  from = λ k d m. let ends = from k d m in omega (arith, ints);
}

pub rows_first : (rule : Rule) (kept one other : List Rect) (bands : Bands) (y e f : ℤ) → y ≡ int_min e f → AreFrom e one → AreFrom f other → ((x z : ℤ) → z <ℤ e → region_has one x z ≡ false) → ((x z : ℤ) → z <ℤ f → region_has other x z ≡ false) → bands_of bands ≡ [] → AreOpenBands bands → kept_of bands ≡ kept → negsuc 32767 ≤ℤ e → negsuc 32767 ≤ℤ f → e ≤ℤ pos 32768 → AreRowsMade rule kept one other bands one other y
rows_first rule kept one other bands y e f m he hf ne nf none is_open stays low low' high = record {
  made = λ x z k. rw (none, ne x z (omega (arith, ints, clamps)), nf x z (omega (arith, ints, clamps))) (sym (keeps_none rule));
  one_rest = rest_first one e y (omega (arith, ints, clamps)) he;
  other_rest = rest_first other f y (omega (arith, ints, clamps)) hf;
  above = rw none (λ k d h. absurd (omega arith));
  is_open = is_open;
  stays = stays;
  low = omega (arith, ints, clamps);
  high = omega (arith, ints, clamps);
}

-- ---- a step

pub rest_next : (all rest next : List Rect) (y bottom : ℤ) → IsRest all rest y → y ≤ℤ bottom → AreFrom (bottom +ℤ pos 1) next → ((x z : ℤ) → bottom <ℤ z → region_has next x z ≡ region_has rest x z) → IsRest all next (bottom +ℤ pos 1)
rest_next all rest next y bottom h k from same = record {
  same = λ x z m. h.same x z (omega (arith, ints)) ∙ sym (same x z (omega (arith, ints)));
  from = from;
}

pub rest_rows : (all rest : List Rect) (line : List Rect) (y last bottom : ℤ) → IsRest all rest y → y ≤ℤ bottom → bottom ≤ℤ last → ((x : ℤ) → line_has line x ≡ region_has rest x y) → ((x z : ℤ) → y ≤ℤ z → z ≤ℤ last → region_has rest x z ≡ region_has rest x y) → (x z : ℤ) → y ≤ℤ z → z ≤ℤ bottom → region_has all x z ≡ line_has line x
rest_rows all rest line y last bottom h down within columns same x z from to =
    h.same x z from ∙ same x z from (omega (arith, ints)) ∙ sym (columns x)

pub made_more : (rule : Rule) (kept one other : List Rect) (bands new : Bands) (a b : List Rect) (y bottom : ℤ) (spans : List Span) (line line' : List Rect) → AreRowsMade rule kept one other bands a b y → ((x z : ℤ) → region_has (bands_of new) x z ≡ (region_has (bands_of bands) x z || (between y z bottom && spans_have spans x))) → ((x : ℤ) → spans_have spans x ≡ keeps rule (line_has line x) (line_has line' x)) → ((x z : ℤ) → y ≤ℤ z → z ≤ℤ bottom → region_has one x z ≡ line_has line x) → ((x z : ℤ) → y ≤ℤ z → z ≤ℤ bottom → region_has other x z ≡ line_has line' x) → (x z : ℤ) → z <ℤ (bottom +ℤ pos 1) → region_has (bands_of new) x z ≡ keeps rule (region_has one x z) (region_has other x z)
made_more rule kept one other bands new a b y bottom spans line line' h pixels columns p q x z k =
    pixels x z ∙ by_lt_z {P = (region_has (bands_of bands) x z || (between y z bottom && spans_have spans x)) ≡ keeps rule (region_has one x z) (region_has other x z)} z y (λ m. rw (is_below y z bottom m) (or_false (region_has (bands_of bands) x z) ∙ h.made x z m)) (λ m. rw (none_above y (bands_of bands) h.above x z m, is_between y z bottom m (omega (arith, ints)), columns x, p x z m (omega (arith, ints)), q x z m (omega (arith, ints))) refl)

pub rows_next : (rule : Rule) (kept one other : List Rect) (bands new : Bands) (a b a' b' : List Rect) (y bottom : ℤ) (spans : List Span) (line line' : List Rect) → AreRowsMade rule kept one other bands a b y → y ≤ℤ bottom → bottom ≤ℤ pos 32767 → ((x z : ℤ) → y ≤ℤ z → z ≤ℤ bottom → region_has a x z ≡ region_has a x y) → ((x z : ℤ) → y ≤ℤ z → z ≤ℤ bottom → region_has b x z ≡ region_has b x y) → ((x : ℤ) → line_has line x ≡ region_has a x y) → ((x : ℤ) → line_has line' x ≡ region_has b x y) → ((x : ℤ) → spans_have spans x ≡ keeps rule (line_has line x) (line_has line' x)) → AreOpenBands new → kept_of new ≡ kept_of bands → AreAbove (bottom +ℤ pos 1) (bands_of new) → ((x z : ℤ) → region_has (bands_of new) x z ≡ (region_has (bands_of bands) x z || (between y z bottom && spans_have spans x))) → AreFrom (bottom +ℤ pos 1) a' → AreFrom (bottom +ℤ pos 1) b' → ((x z : ℤ) → bottom <ℤ z → region_has a' x z ≡ region_has a x z) → ((x z : ℤ) → bottom <ℤ z → region_has b' x z ≡ region_has b x z) → AreRowsMade rule kept one other new a' b' (bottom +ℤ pos 1)
rows_next rule kept one other bands new a b a' b' y bottom spans line line' h down low sa sb la lb columns is_open stays above pixels fa fb na nb = record {
  made = made_more rule kept one other bands new a b y bottom spans line line' h pixels columns (rest_rows one a line y bottom bottom h.one_rest down (omega (arith, ints)) la sa) (rest_rows other b line' y bottom bottom h.other_rest down (omega (arith, ints)) lb sb);
  one_rest = rest_next one a a' y bottom h.one_rest down fa na;
  other_rest = rest_next other b b' y bottom h.other_rest down fb nb;
  above = above;
  is_open = is_open;
  stays = stays ∙ h.stays;
  low = let l = h.low in omega (arith, ints);
  high = omega (arith, ints);
}

-- ---- the end

pub all_made : (rule : Rule) (kept one other : List Rect) (bands : Bands) (a b : List Rect) (y : ℤ) → AreRowsMade rule kept one other bands a b y → a ≡ [] → b ≡ [] → (x z : ℤ) → region_has (bands_of bands) x z ≡ keeps rule (region_has one x z) (region_has other x z)
all_made rule kept one other bands a b y h p q x z =
    by_lt_z {P = region_has (bands_of bands) x z ≡ keeps rule (region_has one x z) (region_has other x z)} z y (λ m. h.made x z m) (λ m. none_above y (bands_of bands) h.above x z m ∙ sym (rw (h.one_rest.same x z m, h.other_rest.same x z m, p, q) (keeps_none rule)))
