-- Bands that stay as they are above those that are walked and below them.
use Rattle.std.proofs.Common.{◌≡◌, ℕ, ◌<◌, ℤ, pos, ◌-ℤ◌, ◌≤ℤ◌, ◌<ℤ◌, inl, inr, Bool, true, false, not, ◌||◌, List, [], ◌∷◌, ◌++◌, length, get_or, All, arith, refl, sym, ap, subst, ◌∙◌}
use Rattle.std.specs.List.{AllPairs}
use Rattle.std.proofs.lemmas.Int.{ints, by_lt_z}
use Rattle.std.proofs.lemmas.Bool.{true≢false}
use Rattle.std.proofs.lemmas.List.Elements.{All-head, All-cons, All-append, All-weaker}
use Rattle.be_facts.proofs.Truths.{or_false, or_true}
use Rattle.be_geom.specs.declared.rect.Rect.{Rect}
use Rattle.be_region.specs.declared.rule.Rule.{Rule}
use Rattle.be_region.specs.Regions.{region_has, IsNotEmpty}
use Rattle.be_region.specs.Bands.{IsBefore, RowsDiffer, AreBands}
use Rattle.be_region.specs.Parts.{IsCut}
use Rattle.be_region.specs.Rules.{keeps}
use Rattle.be_region.proofs.CountLemmas.{has-append}
use Rattle.be_region.proofs.FrameLemmas.{corners}
use Rattle.be_region.proofs.LawLemmas.{some_any}
use Rattle.be_region.proofs.MergeLemmas.{keeps_none}
use Rattle.be_region.proofs.PairLemmas.{pairs_head, pairs_append}
use Rattle.be_region.proofs.PartLemmas.{All-left, All-right, pairs_left, pairs_right, pairs_cross}
use Rattle.be_region.proofs.RowLemmas.{none_above, none_below}

-- bands cut in three, of which those in the middle were walked with another region, which has no pixel beside them
pub record AreWalked (rule : Rule) (one other above middle below made : List Rect) (first last : ℤ) : Type 0 where
  pub cut : IsCut one first last above middle below
  pub bands : AreBands one
  pub alone : (p : Bool) → keeps rule p false ≡ p
  pub over : (x y : ℤ) → y ≤ℤ first → region_has other x y ≡ false
  pub under : (x y : ℤ) → last ≤ℤ y → region_has other x y ≡ false
  pub walked : AreBands made
  pub pixels : (x y : ℤ) → region_has made x y ≡ keeps rule (region_has middle x y) (region_has other x y)

-- ---- the pixels

three_tests : (rule : Rule) → ((p : Bool) → keeps rule p false ≡ p) → (a m z w o : Bool) → w ≡ keeps rule m o → (a ≡ true → o ≡ false) → (z ≡ true → o ≡ false) → (a || (w || z)) ≡ keeps rule (a || (m || z)) o
three_tests rule alone true m z w o e over under = sym (ap (keeps rule true) (over refl) ∙ alone true)
three_tests rule alone false m true w o e over under =
    rw (or_true w, or_true m) (sym (ap (keeps rule true) (under refl) ∙ alone true))
three_tests rule alone false m false w o e over under = rw (or_false w, or_false m) e

three_have : (as' bs cs : List Rect) (x y : ℤ) → region_has (as' ++ (bs ++ cs)) x y ≡ (region_has as' x y || (region_has bs x y || region_has cs x y))
three_have as' bs cs x y = has-append as' (bs ++ cs) x y ∙ ap (λ b. region_has as' x y || b) (has-append bs cs x y)

pub walked_pixels : (rule : Rule) (one other above middle below made : List Rect) (first last : ℤ) → AreWalked rule one other above middle below made first last → (x y : ℤ) → region_has (above ++ (made ++ below)) x y ≡ keeps rule (region_has one x y) (region_has other x y)
walked_pixels rule one other above middle below made first last h x y =
    three_have above made below x y ∙ three_tests rule h.alone (region_has above x y) (region_has middle x y) (region_has below x y) (region_has made x y) (region_has other x y) (h.pixels x y) (λ e. by_lt_z {P = region_has other x y ≡ false} y first (λ k. h.over x y (omega (arith, ints))) (λ k. absurd (true≢false (sym e ∙ none_above first above h.cut.above_first x y k)))) (λ e. by_lt_z {P = region_has other x y ≡ false} last y (λ k. h.under x y (omega (arith, ints))) (λ k. absurd (true≢false (sym e ∙ none_below last below h.cut.below_last x y k)))) ∙ ap (λ b. keeps rule b (region_has other x y)) (sym (ap (λ (rs : List Rect). region_has rs x y) h.cut.whole ∙ three_have above middle below x y))

-- the rows beside the other region stay
stays_over : (rule : Rule) (one other above middle below made : List Rect) (first last : ℤ) → AreWalked rule one other above middle below made first last → (x y : ℤ) → y ≤ℤ first → region_has (above ++ (made ++ below)) x y ≡ region_has one x y
stays_over rule one other above middle below made first last h x y k =
    walked_pixels rule one other above middle below made first last h x y ∙ ap (keeps rule (region_has one x y)) (h.over x y k) ∙ h.alone (region_has one x y)

stays_under : (rule : Rule) (one other above middle below made : List Rect) (first last : ℤ) → AreWalked rule one other above middle below made first last → (x y : ℤ) → last ≤ℤ y → region_has (above ++ (made ++ below)) x y ≡ region_has one x y
stays_under rule one other above middle below made first last h x y k =
    walked_pixels rule one other above middle below made first last h x y ∙ ap (keeps rule (region_has one x y)) (h.under x y k) ∙ h.alone (region_has one x y)

-- ---- the order

-- a band that ends above the rows is above one that doesn't
ends_before : (a m : Rect) (first : ℤ) → IsBefore a m → a.bottom <ℤ first → first ≤ℤ m.bottom → a.bottom <ℤ m.top
ends_before a m first (inl h) k l = let e = h.1 in absurd (omega (arith, ints))
ends_before a m first (inr h) k l = h

-- a band that begins below the rows is below one that doesn't
begins_after : (m z : Rect) (last : ℤ) → IsBefore m z → m.top ≤ℤ last → last <ℤ z.top → m.bottom <ℤ z.top
begins_after m z last (inl h) k l = let e = h.0 in absurd (omega (arith, ints))
begins_after m z last (inr h) k l = h

above_middle : (one above middle below : List Rect) (first last : ℤ) → IsCut one first last above middle below → AreBands one → All (λ (a : Rect). All (λ m. a.bottom <ℤ m.top) middle) above
above_middle one above middle below first last cut bands i d k =
    let order = rw cut.whole at bands.in_order in
    let cross = pairs_cross IsBefore above (middle ++ below) order i d k in
    λ j e l. ends_before (get_or above i d) (get_or middle j e) first (All-left (IsBefore (get_or above i d)) middle below cross j e l) (cut.above_first i d k) (cut.from_first j e l)

middle_below : (one above middle below : List Rect) (first last : ℤ) → IsCut one first last above middle below → AreBands one → All (λ (m : Rect). All (λ z. m.bottom <ℤ z.top) below) middle
middle_below one above middle below first last cut bands i d k =
    let order = rw cut.whole at bands.in_order in
    let cross = pairs_cross IsBefore middle below (pairs_right IsBefore above (middle ++ below) order) i d k in
    λ j e l. begins_after (get_or middle i d) (get_or below j e) last (cross j e l) (cut.to_last i d k) (cut.below_last j e l)

-- a rectangle has its corners
own_top : (rs : List Rect) (i : ℕ) (d : Rect) → All IsNotEmpty rs → i < length rs → region_has rs (get_or rs i d).left (get_or rs i d).top ≡ true
own_top rs i d full k = some_any rs i d (get_or rs i d).left (get_or rs i d).top k (corners (get_or rs i d) (full i d k)).0

own_bottom : (rs : List Rect) (i : ℕ) (d : Rect) → All IsNotEmpty rs → i < length rs → region_has rs (get_or rs i d).right (get_or rs i d).bottom ≡ true
own_bottom rs i d full k = some_any rs i d (get_or rs i d).right (get_or rs i d).bottom k (corners (get_or rs i d) (full i d k)).1

-- no pixel is made in rows where neither has one
none_made : (rule : Rule) (one other above middle below made : List Rect) (first last : ℤ) → AreWalked rule one other above middle below made first last → (x y : ℤ) → region_has middle x y ≡ false → region_has other x y ≡ false → region_has made x y ≡ false
none_made rule one other above middle below made first last h x y e f = h.pixels x y ∙ rw (e, f) (keeps_none rule)

above_made : (rule : Rule) (one other above middle below made : List Rect) (first last : ℤ) → AreWalked rule one other above middle below made first last → All (λ (a : Rect). All (λ w. a.bottom <ℤ w.top) made) above
above_made rule one other above middle below made first last h i d k j e l =
    let a : Rect = get_or above i d in
    let w : Rect = get_or made j e in
    let ends : a.bottom <ℤ first = h.cut.above_first i d k in
    by_lt_z {P = a.bottom <ℤ w.top} a.bottom w.top (λ m. m) (λ m. absurd (true≢false (sym (own_top made j e h.walked.none_empty l) ∙ none_made rule one other above middle below made first last h w.left w.top (none_below a.bottom middle (above_middle one above middle below first last h.cut h.bands i d k) w.left w.top m) (h.over w.left w.top (omega (arith, ints))))))

made_below : (rule : Rule) (one other above middle below made : List Rect) (first last : ℤ) → AreWalked rule one other above middle below made first last → All (λ (w : Rect). All (λ z. w.bottom <ℤ z.top) below) made
made_below rule one other above middle below made first last h j e l i d k =
    let z : Rect = get_or below i d in
    let w : Rect = get_or made j e in
    let begins : last <ℤ z.top = h.cut.below_last i d k in
    by_lt_z {P = w.bottom <ℤ z.top} w.bottom z.top (λ m. m) (λ m. absurd (true≢false (sym (own_bottom made j e h.walked.none_empty l) ∙ none_made rule one other above middle below made first last h w.right w.bottom (none_above z.top middle (λ n f o. middle_below one above middle below first last h.cut h.bands n f o i d k) w.right w.bottom m) (h.under w.right w.bottom (omega (arith, ints))))))

walked_order : (rule : Rule) (one other above middle below made : List Rect) (first last : ℤ) → AreWalked rule one other above middle below made first last → AllPairs IsBefore (above ++ (made ++ below))
walked_order rule one other above middle below made first last h =
    let order = rw h.cut.whole at h.bands.in_order in
    pairs_append IsBefore above (made ++ below) (pairs_left IsBefore above (middle ++ below) order) (pairs_append IsBefore made below h.walked.in_order (pairs_right IsBefore middle below (pairs_right IsBefore above (middle ++ below) order)) (λ j e l i d k. inr (made_below rule one other above middle below made first last h j e l i d k))) (λ i d k. All-append (IsBefore (get_or above i d)) made below (λ j e l. inr (above_made rule one other above middle below made first last h i d k j e l)) (All-right (IsBefore (get_or above i d)) middle below (pairs_cross IsBefore above (middle ++ below) order i d k)))

-- ---- bands that touch differ

-- a row that no band above has, and none below
made_alone : (above made below : List Rect) (x y bottom : ℤ) → All (λ (a : Rect). a.bottom <ℤ y) above → All (λ (z : Rect). bottom <ℤ z.top) below → y ≤ℤ bottom → region_has (above ++ (made ++ below)) x y ≡ region_has made x y
made_alone above made below x y bottom h k l =
    three_have above made below x y ∙ rw (none_above y above h x y (omega (arith, ints)), none_below bottom below k x y l) (or_false (region_has made x y))

differ_alone : (above made below : List Rect) (w : Rect) → IsNotEmpty w → All (λ (a : Rect). a.bottom <ℤ (w.top -ℤ pos 1)) above → All (λ (z : Rect). w.bottom <ℤ z.top) below → RowsDiffer made (w.top -ℤ pos 1) w.top → RowsDiffer (above ++ (made ++ below)) (w.top -ℤ pos 1) w.top
differ_alone above made below w full h k d =
    let down = full.down in
    let h' : All (λ (a : Rect). a.bottom <ℤ w.top) above = All-weaker (λ (a : Rect). a.bottom <ℤ (w.top -ℤ pos 1)) (λ a. a.bottom <ℤ w.top) (λ a l. omega (arith, ints)) above h in
    (d.0, made_alone above made below d.0 (w.top -ℤ pos 1) w.bottom h k (omega (arith, ints)) ∙ d.1 ∙ ap not (sym (made_alone above made below d.0 w.top w.bottom h' k down)))

differ_over : (rule : Rule) (one other above middle below made : List Rect) (first last : ℤ) → AreWalked rule one other above middle below made first last → (top : ℤ) → top ≤ℤ first → RowsDiffer one (top -ℤ pos 1) top → RowsDiffer (above ++ (made ++ below)) (top -ℤ pos 1) top
differ_over rule one other above middle below made first last h top k d =
    (d.0, stays_over rule one other above middle below made first last h d.0 (top -ℤ pos 1) (omega (arith, ints)) ∙ d.1 ∙ ap not (sym (stays_over rule one other above middle below made first last h d.0 top k)))

differ_under : (rule : Rule) (one other above middle below made : List Rect) (first last : ℤ) → AreWalked rule one other above middle below made first last → (top : ℤ) → last <ℤ top → RowsDiffer one (top -ℤ pos 1) top → RowsDiffer (above ++ (made ++ below)) (top -ℤ pos 1) top
differ_under rule one other above middle below made first last h top k d =
    (d.0, stays_under rule one other above middle below made first last h d.0 (top -ℤ pos 1) (omega (arith, ints)) ∙ d.1 ∙ ap not (sym (stays_under rule one other above middle below made first last h d.0 top (omega (arith, ints)))))

least_top : (r s : Rect) → IsNotEmpty r → IsBefore r s → r.top ≤ℤ s.top
least_top r s full (inl h) = let e = h.0 in omega (arith, ints)
least_top r s full (inr h) = let down = full.down in omega (arith, ints)

le_both : (a b : ℤ) → a ≤ℤ b → b ≤ℤ a → a ≡ b
le_both a b h k = omega (arith, ints)

touching : (rs qs : List Rect) → rs ≡ qs → All (λ (q : Rect). RowsDiffer rs (q.top -ℤ pos 1) q.top) rs → All (λ (q : Rect). RowsDiffer rs (q.top -ℤ pos 1) q.top) qs
touching rs qs e l = let Q : List Rect → Type 0 = λ ps. All (λ (q : Rect). RowsDiffer rs (q.top -ℤ pos 1) q.top) ps in subst Q e l

-- a band that was made above the first row of the other region is one of the middle, or goes on from there
made_differs : (rule : Rule) (one other above middle below made : List Rect) (first last : ℤ) → AreWalked rule one other above middle below made first last → (i : ℕ) (d : Rect) → i < length made → (get_or made i d).top ≤ℤ first → RowsDiffer (above ++ (made ++ below)) ((get_or made i d).top -ℤ pos 1) (get_or made i d).top
made_differs rule one other above [] below made first last h i d k to =
    let w : Rect = get_or made i d in
    absurd (true≢false (sym (own_top made i d h.walked.none_empty k) ∙ none_made rule one other above [] below made first last h w.left w.top refl (h.over w.left w.top to)))
made_differs rule one other above (m ∷ ms) below made first last h i d k to =
    let w : Rect = get_or made i d in
    let P : Type 0 = RowsDiffer (above ++ (made ++ below)) (w.top -ℤ pos 1) w.top in
    let order = pairs_right IsBefore above ((m ∷ ms) ++ below) (rw h.cut.whole at h.bands.in_order) in
    let full = All-right IsNotEmpty above ((m ∷ ms) ++ below) (rw h.cut.whole at h.bands.none_empty) in
    let fm : IsNotEmpty m = All-head IsNotEmpty m (ms ++ below) full in
    by_lt_z {P = P} w.top m.top (λ less. absurd (true≢false (sym (own_top made i d h.walked.none_empty k) ∙ none_made rule one other above (m ∷ ms) below made first last h w.left w.top (none_below w.top (m ∷ ms) (All-cons (λ (q : Rect). w.top <ℤ q.top) m ms less (All-weaker (IsBefore m) (λ q. w.top <ℤ q.top) (λ q b. let l = least_top m q fm b in omega (arith, ints)) ms (All-left (IsBefore m) ms below (pairs_head IsBefore m (ms ++ below) order)))) w.left w.top (omega (arith, ints))) (h.over w.left w.top to)))) (λ from. by_lt_z {P = P} m.top w.top (λ more. differ_alone above made below w (h.walked.none_empty i d k) (All-weaker (λ (a : Rect). All (λ q. a.bottom <ℤ q.top) (m ∷ ms)) (λ a. a.bottom <ℤ (w.top -ℤ pos 1)) (λ a l. let b = All-head (λ (q : Rect). a.bottom <ℤ q.top) m ms l in omega (arith, ints)) above (above_middle one above (m ∷ ms) below first last h.cut h.bands)) (made_below rule one other above (m ∷ ms) below made first last h i d k) (h.walked.merged i d k)) (λ up. let same : m.top ≡ w.top = le_both m.top w.top from up in differ_over rule one other above (m ∷ ms) below made first last h w.top to (rw (← same) (All-head (λ (q : Rect). RowsDiffer one (q.top -ℤ pos 1) q.top) m (ms ++ below) (All-right (λ (q : Rect). RowsDiffer one (q.top -ℤ pos 1) q.top) above ((m ∷ ms) ++ below) (touching one (above ++ ((m ∷ ms) ++ below)) h.cut.whole h.bands.merged))))))

pub walked_bands : (rule : Rule) (one other above middle below made : List Rect) (first last : ℤ) → AreWalked rule one other above middle below made first last → AreBands (above ++ (made ++ below))
walked_bands rule one other above middle below made first last h =
    let rs : List Rect = above ++ (made ++ below) in
    let full : All IsNotEmpty (above ++ (middle ++ below)) = rw h.cut.whole at h.bands.none_empty in
    let touch = touching one (above ++ (middle ++ below)) h.cut.whole h.bands.merged in
    record {
      none_empty = All-append IsNotEmpty above (made ++ below) (All-left IsNotEmpty above (middle ++ below) full) (All-append IsNotEmpty made below h.walked.none_empty (All-right IsNotEmpty middle below (All-right IsNotEmpty above (middle ++ below) full)));
      in_order = walked_order rule one other above middle below made first last h;
      merged = All-append (λ (r : Rect). RowsDiffer rs (r.top -ℤ pos 1) r.top) above (made ++ below) (λ i d k. let a : Rect = get_or above i d in let f : IsNotEmpty a = All-left IsNotEmpty above (middle ++ below) full i d k in let down = f.down in let ends = h.cut.above_first i d k in differ_over rule one other above middle below made first last h a.top (omega (arith, ints)) (All-left (λ (q : Rect). RowsDiffer one (q.top -ℤ pos 1) q.top) above (middle ++ below) touch i d k)) (All-append (λ (r : Rect). RowsDiffer rs (r.top -ℤ pos 1) r.top) made below (λ i d k. by_lt_z {P = RowsDiffer rs ((get_or made i d).top -ℤ pos 1) (get_or made i d).top} first (get_or made i d).top (λ after. differ_alone above made below (get_or made i d) (h.walked.none_empty i d k) (All-weaker (λ (a : Rect). a.bottom <ℤ first) (λ a. a.bottom <ℤ ((get_or made i d).top -ℤ pos 1)) (λ a l. omega (arith, ints)) above h.cut.above_first) (made_below rule one other above middle below made first last h i d k) (h.walked.merged i d k)) (λ to. made_differs rule one other above middle below made first last h i d k to)) (λ i d k. differ_under rule one other above middle below made first last h (get_or below i d).top (h.cut.below_last i d k) (All-right (λ (q : Rect). RowsDiffer one (q.top -ℤ pos 1) q.top) middle below (All-right (λ (q : Rect). RowsDiffer one (q.top -ℤ pos 1) q.top) above (middle ++ below) touch) i d k)));
    }
