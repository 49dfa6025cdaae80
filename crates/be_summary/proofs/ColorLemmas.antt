-- How many colours there are where there is one more cell.
use Rattle.std.proofs.Common.{◌≡◌, ℕ, ◌+◌, Bool, true, false, ◌&&◌, ◌||◌, List, [], ◌∷◌, ◌++◌}
use Rattle.std.proofs.Common.{refl, sym, ap, ◌∙◌}
use Rattle.std.specs.Prelude.{if◌then◌else◌}
use Rattle.std.specs.List.{list_any}
use Rattle.std.proofs.lemmas.List.Folds.{list_any-append}
use Rattle.be_facts.proofs.Truths.{same_truth}
use Rattle.be_color.specs.declared.colors.Rgb.{Rgb}
use Rattle.be_span.specs.declared.Cell.{Cell}
use Rattle.be_written.specs.ScreenText.{same_rgb}
use Rattle.be_written.proofs.ScreenRows.{same_itself, same_is}
use Rattle.be_summary.specs.Summary.{color_count, has_color}

-- ---- truths

both : (p q r : Bool) → ((p && q) && r) ≡ true → (p ≡ true) × (q ≡ true) × (r ≡ true)
both true true true e = (refl, refl, refl)
both true true false e = absurd (cc)
both true false r e = absurd (cc)
both false q r e = absurd (cc)

-- ---- colours

pub is_same : (a b : Rgb) → a ≡ b → same_rgb a b ≡ true
is_same a b e = ap (same_rgb a) (sym e) ∙ same_itself a

pub same_back : (a b : Rgb) → same_rgb a b ≡ same_rgb b a
same_back a b =
    same_truth (same_rgb a b) (same_rgb b a) (λ e. is_same b a (sym (same_is a b e)))
    (λ e. is_same a b (sym (same_is b a e)))

-- ---- one more cell

-- whether the first cell's colour is that of the one behind, whether it stands in between, and
-- whether the other's does
count_by_truths : (same first behind : Bool) (n : ℕ) → (same ≡ true → first ≡ behind)
    → (if first || (same || false) then (if behind then n else n + 1)
    else (if behind then n else n + 1) + 1)
    ≡ (if same || behind then (if first then n else n + 1) else (if first then n else n + 1) + 1)
count_by_truths true true true n h = refl
count_by_truths true true false n h = let no : true ≡ false = h refl in absurd (cc)
count_by_truths true false true n h = let no : false ≡ true = h refl in absurd (cc)
count_by_truths true false false n h = refl
count_by_truths false true true n h = refl
count_by_truths false true false n h = refl
count_by_truths false false true n h = refl
count_by_truths false false false n h = refl

-- it is one more exactly where no earlier cell has the colour
pub count_more : (cs : List Cell) (c : Cell)
    → color_count (cs ++ c ∷ [])
    ≡ (if list_any (has_color c.rgb) cs then color_count cs else color_count cs + 1)
unfolding color_count
count_more [] c = refl
count_more (x ∷ xs) c =
    let same = same_rgb c.rgb x.rgb in
    let first = list_any (has_color x.rgb) xs in
    let behind = list_any (has_color c.rgb) xs in
    let n = color_count xs in
    ap (λ (k : ℕ). if list_any (has_color x.rgb) (xs ++ c ∷ []) then k else k + 1)
    (count_more xs c)
    ∙ ap (λ (b : Bool). if b then (if behind then n else n + 1)
    else (if behind then n else n + 1) + 1)
    (list_any-append (has_color x.rgb) xs (c ∷ []))
    ∙ count_by_truths same first behind n
    (λ e. ap (λ (rgb : Rgb). list_any (has_color rgb) xs) (sym (same_is c.rgb x.rgb e)))
    ∙ ap (λ (b : Bool). if b || behind then (if first then n else n + 1)
    else (if first then n else n + 1) + 1)
    (same_back c.rgb x.rgb)
