-- What a window covers is in its frame.
use Rattle.std.specs.Prelude.{ℤ, ◌&&◌, slice_get}
use Rattle.std.specs.Option.{option_map}
use Rattle.std.proofs.Common.{◌≡◌, ℕ, ◌+◌, ◌<◌, ◌≤◌, Bool, true, false, ◌||◌, inl, inr, List, length, get_or, take, Option, Some, None, refl, sym, ap, ◌∙◌}
use Rattle.std.proofs.lemmas.Bool.{true≢false}
use Rattle.std.proofs.lemmas.List.{take_all}
use Rattle.std.proofs.lemmas.List.Folds.{list_any_more}
use Rattle.std.proofs.lemmas.Option.{get_or_from_slice_get, same_Some}
use Rattle.be_facts.proofs.Truths.{and_both, true_or_false}
use Rattle.be_geom.specs.declared.rect.Rect.{Rect}
use Rattle.be_geom.specs.Rects.{rect_has, AreDisjoint}
use Rattle.be_region.specs.Regions.{region_has}
use Rattle.be_span.proofs.LaidLemmas.{rect_inside}
use Rattle.be_stack.specs.Owner.{covers, covers_pixel}
use Rattle.be_stack.specs.Visible.{IsVisible}
use Rattle.be_stack.specs.Windows.{Windows, passes, is_shown_window}
use Rattle.be_stack.specs.declared.window.Window.{Window}
use Rattle.be_desk.specs.Affected.{AreApart, CoversNone, IsBeside, OwnsNone}
use Rattle.be_desk.proofs.OthersLemmas.{unowned}

-- the frame of a window, if there is one
abbrev pub frame_in : Option Window → Option Rect
frame_in o = option_map (λ window. window.frame) o

covered_in : (o : Option Window) (frame : Rect) (x y : ℤ) → frame_in o ≡ Some frame → passes (covers_pixel x y) o ≡ true → rect_has frame x y ≡ true
covered_in (Some window) frame x y e covered =
    sym (ap (λ (r : Rect). rect_has r x y) (same_Some window.frame frame e)) ∙ (and_both (is_shown_window window) (rect_has window.frame x y) covered).1
covered_in None frame x y e covered = cc

pub covers_within : (s : Windows) (u : ℕ) (frame : Rect) (region : List Rect) → frame_in (slice_get s.windows u) ≡ Some frame → ((x y : ℤ) → rect_has frame x y ≡ true → region_has region x y ≡ false) → CoversNone s u region
covers_within s u frame region e none x y covered = none x y (covered_in (slice_get s.windows u) frame x y e covered)

-- one that isn't there covers none
pub covers_nothing : (s : Windows) (u : ℕ) (region : List Rect) → frame_in (slice_get s.windows u) ≡ None → CoversNone s u region
covers_nothing s u region e x y covered = absurd (none_covers (slice_get s.windows u) x y e covered)
  where
    none_covers : (o : Option Window) (x y : ℤ) → frame_in o ≡ None → passes (covers_pixel x y) o ≡ true → ⊥
    none_covers (Some window) x y e covered = cc
    none_covers None x y e covered = cc

-- where it covers none it owns none
pub covered_owned : (s : Windows) (u : ℕ) (region : List Rect) → CoversNone s u region → OwnsNone s u region
covered_owned s u region none x y has = elim (true_or_false (covers s.windows x y u)) [
  | inl covered ↦ absurd (true≢false (sym has ∙ none x y covered))
  | inr free ↦ unowned s u x y free
]

-- ---- a rectangle beside those of a region

neither : (a b c : Bool) → a ≡ true → b ≡ false → (a && c) ≡ false → (b || c) ≡ false
neither true false c has none apart = apart
neither true true c has none apart = none
neither false b c has none apart = cc

-- the first of them have none of its pixels
abbrev pub IsBesideFirst : Rect → List Rect → ℕ → Type 0
IsBesideFirst r region n = IsBeside r (take n region)

-- and the next one hasn't
pub beside_more : (r next : Rect) (region : List Rect) (n : ℕ) → n < length region → slice_get region n ≡ Some next → IsBesideFirst r region n → AreDisjoint r next → IsBesideFirst r region (n + 1)
beside_more r next region n less got before apart x y has =
    list_any_more (λ (q : Rect). rect_has q x y) region n next less
    ∙ neither (rect_has r x y) (region_has (take n region) x y) (rect_has (get_or region n next) x y) has (before x y has)
    (ap (λ (q : Rect). rect_has r x y && rect_has q x y) (get_or_from_slice_get region n next next got) ∙ apart x y)

pub beside_all : (r : Rect) (region : List Rect) (n : ℕ) → length region ≤ n → IsBesideFirst r region n → IsBeside r region
beside_all r region n all before x y has = ap (λ (l : List Rect). region_has l x y) (sym (take_all n region all)) ∙ before x y has

not_both : (a b c : Bool) → (a ≡ true → c ≡ false) → (b ≡ true → c ≡ true) → (a && b) ≡ false
not_both true true c none some = absurd (true≢false (sym (some refl) ∙ none refl))
not_both true false c none some = refl
not_both false b c none some = refl

-- a rectangle beside a region is beside each of its rectangles
pub beside_part : (r part : Rect) (region : List Rect) (n : ℕ) → slice_get region n ≡ Some part → IsBeside r region → AreDisjoint r part
beside_part r part region n got beside x y =
    not_both (rect_has r x y) (rect_has part x y) (region_has region x y) (beside x y) (rect_inside region n part x y got)

-- ---- regions beside each other

-- the first rectangles of a region are beside another
abbrev pub AreFirstApart : List Rect → List Rect → ℕ → Type 0
AreFirstApart one other n = AreApart (take n one) other

another_apart : (a b c : Bool) → (a || b) ≡ true → (a ≡ true → c ≡ false) → (b ≡ true → c ≡ false) → c ≡ false
another_apart true b c has first next = first refl
another_apart false b c has first next = next has

pub apart_more : (one other : List Rect) (n : ℕ) (next : Rect) → n < length one → slice_get one n ≡ Some next → AreFirstApart one other n → IsBeside next other → AreFirstApart one other (n + 1)
apart_more one other n next less got before beside x y has =
    another_apart (region_has (take n one) x y) (rect_has next x y) (region_has other x y)
    (ap (λ (q : Rect). region_has (take n one) x y || rect_has q x y) (sym (get_or_from_slice_get one n next next got)) ∙ sym (list_any_more (λ (q : Rect). rect_has q x y) one n next less) ∙ has)
    (before x y) (beside x y)

pub apart_all : (one other : List Rect) (n : ℕ) → length one ≤ n → AreFirstApart one other n → AreApart one other
apart_all one other n all before x y has = before x y (ap (λ (l : List Rect). region_has l x y) (take_all n one all) ∙ has)

pub apart_part : (one other : List Rect) (n : ℕ) (part : Rect) → slice_get one n ≡ Some part → AreApart one other → IsBeside part other
apart_part one other n part got apart x y has = apart x y (rect_inside one n part x y got has)

-- ---- what is owned of a region

pub apart_owned : (own region : List Rect) (s : Windows) (u : ℕ) → IsVisible own s u → AreApart own region → OwnsNone s u region
apart_owned own region s u visible apart x y has = elim (true_or_false (region_has own x y)) [
  | inl owned ↦ absurd (true≢false (sym has ∙ apart x y owned))
  | inr free ↦ sym (visible x y) ∙ free
]

pub owned_apart : (own region : List Rect) (s : Windows) (u : ℕ) → IsVisible own s u → OwnsNone s u region → AreApart own region
owned_apart own region s u visible none x y owned = elim (true_or_false (region_has region x y)) [
  | inl has ↦ absurd (true≢false (sym (sym (visible x y) ∙ owned) ∙ none x y has))
  | inr free ↦ free
]
