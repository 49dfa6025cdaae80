-- What of a window is to be seen: what its frame has on the screen, without what the windows in front cover.
use Rattle.std.specs.Prelude.{◌==◌, position, find, int_le, int_lt}
use Rattle.std.specs.List.{list_any, position_or_len}
use Rattle.std.proofs.Common.{◌≡◌, ℕ, ℤ, pos, zero, suc, ◌+◌, ◌<◌, Bool, true, false, cond, not, ◌&&◌, ◌||◌, List, [], ◌∷◌, length, get_or, take, Option, Some, None, refl, sym, ap, ◌∙◌, arith}
use Rattle.std.proofs.lemmas.Bool.{eqb-true}
use Rattle.std.proofs.lemmas.List.Quantifiers.{position-Some}
use Rattle.be_geom.proofs.RectLemmas.{four_tests}
use Rattle.be_geom.specs.declared.rect.Rect.{Rect}
use Rattle.be_geom.specs.Numbers.{is_number}
use Rattle.be_geom.specs.Points.{between}
use Rattle.be_geom.specs.Rects.{rect_has}
use Rattle.be_region.specs.Regions.{region_has, HasPixelsOf}
use Rattle.be_stack.specs.Owner.{is_on_screen, covers, owner_at}
use Rattle.be_stack.specs.Visible.{IsVisible}
use Rattle.be_stack.specs.Windows.{Windows}
use Rattle.be_stack.proofs.OrderLemmas.{searched}

-- ---- the part of a frame that is on the screen

-- along one direction
cut_across : (low z high first last : ℤ) (size : ℕ) → int_le low z ≡ (int_le (pos 0) z && int_le first z) → int_le z high ≡ (int_lt z (pos size) && int_le z last) → between low z high ≡ (is_on_screen size z && between first z last)
unfolding between
cut_across low z high first last size e f =
    rw (e, f) (four_tests (int_le (pos 0) z) (int_le first z) (int_lt z (pos size)) (int_le z last))

pub cut : (frame part : Rect) (width height : ℕ) → ((z : ℤ) → int_le part.left z ≡ (int_le (pos 0) z && int_le frame.left z)) → ((z : ℤ) → int_le part.top z ≡ (int_le (pos 0) z && int_le frame.top z)) → ((z : ℤ) → int_le z part.right ≡ (int_lt z (pos width) && int_le z frame.right)) → ((z : ℤ) → int_le z part.bottom ≡ (int_lt z (pos height) && int_le z frame.bottom)) → (x y : ℤ) → rect_has part x y ≡ (is_on_screen width x && is_on_screen height y && rect_has frame x y)
cut frame part width height l t r b x y =
    rw (cut_across part.left x part.right frame.left frame.right width (l x) (r x), cut_across part.top y part.bottom frame.top frame.bottom height (t y) (b y)) (four_tests (is_on_screen width x) (between frame.left x frame.right) (is_on_screen height y) (between frame.top y frame.bottom))

-- ---- the windows in front

-- what doesn't pass isn't found
missed_first : (b : Bool) (p : ℕ → Bool) (w x : ℕ) (found : Option ℕ) → (x == w) ≡ b → p w ≡ false → is_number w found ≡ false → is_number w (cond (p x) (Some x) found) ≡ false
missed_first true p w x found e none rest =
    let there : p x ≡ false = ap p (eqb-true x w e) ∙ none in rw there rest
missed_first false p w x found e none rest =
    elim (p x) as (λ c. is_number w (cond c (Some x) found) ≡ false) [ true ↦ e | false ↦ rest ]

pub missed : (p : ℕ → Bool) (w : ℕ) (xs : List ℕ) → p w ≡ false → is_number w (find p xs) ≡ false
missed p w [] none = refl
missed p w (x ∷ xs) none = missed_first (x == w) p w x (find p xs) refl none (missed p w xs none)

-- ---- the first of a list that passes, where w stands behind some that are others

front_of : (p : ℕ → Bool) (w x : ℕ) (found : Option ℕ) → (x == w) ≡ true → (p w ≡ false → is_number w found ≡ false) → is_number w (cond (p x) (Some x) found) ≡ (p w && true)
front_of p w x found e rest =
    let same : p x ≡ p w = ap p (eqb-true x w e) in
    rw same (by_test (p w) refl)
  where
    by_test : (b : Bool) → p w ≡ b → is_number w (cond b (Some x) found) ≡ (b && true)
    by_test true passes = e
    by_test false none = rest none

behind_of : (b : Bool) (p : ℕ → Bool) (w x : ℕ) (found : Option ℕ) (c : Bool) → (x == w) ≡ false → is_number w found ≡ (p w && not c) → is_number w (cond b (Some x) found) ≡ (p w && not (b || c))
behind_of true p w x found c e rest = e ∙ elim (p w) as (λ q. false ≡ (q && false)) [ true ↦ refl | false ↦ refl ]
behind_of false p w x found c e rest = rest

found_behind : (p : ℕ → Bool) (w : ℕ) (xs : List ℕ) (i : ℕ) → i < length xs → (get_or xs i 0 == w) ≡ true → ((k : ℕ) → k < i → (get_or xs k 0 == w) ≡ false) → is_number w (find p xs) ≡ (p w && not (list_any p (take i xs)))
found_behind p w [] i within here before = absurd (omega arith)
found_behind p w (x ∷ xs) zero within here before = front_of p w x (find p xs) here (missed p w xs)
found_behind p w (x ∷ xs) (suc i) within here before =
    behind_of (p x) p w x (find p xs) (list_any p (take i xs)) (before 0 (omega arith)) (found_behind p w xs i (omega arith) here (λ k l. before (suc k) (omega arith)))

pub owned_behind : (p : ℕ → Bool) (w : ℕ) (xs : List ℕ) (i : ℕ) → Some i ≡ position (λ v. v == w) xs → is_number w (find p xs) ≡ (p w && not (list_any p (take i xs)))
owned_behind p w xs i found =
    let there = position-Some (λ v. v == w) xs i 0 (sym found) in
    found_behind p w xs i there.0 there.1 there.2

-- what isn't in a list isn't found there
unlisted_first : (b : Bool) (w x n m : ℕ) (c : Bool) (found : Option ℕ) → (x == w) ≡ b → cond (not b) (1 + n) 0 ≡ suc m → (n ≡ m → is_number w found ≡ false) → is_number w (cond c (Some x) found) ≡ false
unlisted_first true w x n m c found e h rest = absurd (omega arith)
unlisted_first false w x n m true found e h rest = e
unlisted_first false w x n m false found e h rest = rest (omega arith)

unlisted : (p : ℕ → Bool) (w : ℕ) (xs : List ℕ) → position_or_len (λ v. v == w) xs ≡ length xs → is_number w (find p xs) ≡ false
unlisted p w [] h = refl
unlisted p w (x ∷ xs) h =
    unlisted_first (x == w) w x (position_or_len (λ v. v == w) xs) (length xs) (p x) (find p xs) refl h (unlisted p w xs)

pub owned_nowhere : (p : ℕ → Bool) (w : ℕ) (xs : List ℕ) → None ≡ position (λ v. v == w) xs → is_number w (find p xs) ≡ false
owned_nowhere p w xs none = unlisted p w xs (searched w xs none)

-- ---- what a window owns

on_screen_alone : (b c d : Bool) (w : ℕ) (found : Option ℕ) → is_number w found ≡ (c && not d) → is_number w (cond b found None) ≡ ((b && c) && not d)
on_screen_alone true c d w found e = e
on_screen_alone false c d w found e = refl

none_on_screen : (b : Bool) (w : ℕ) (found : Option ℕ) → is_number w found ≡ false → is_number w (cond b found None) ≡ false
none_on_screen true w found e = e
none_on_screen false w found e = refl

-- a window that isn't in the order owns nothing
pub unlisted_owns_none : (s : Windows) (w : ℕ) → None ≡ position (λ v. v == w) s.order → (x y : ℤ) → is_number w (owner_at s x y) ≡ false
unfolding owner_at
unlisted_owns_none s w none x y =
    none_on_screen (is_on_screen s.width x && is_on_screen s.height y) w (find (covers s.windows x y) s.order) (owned_nowhere (covers s.windows x y) w s.order none)

-- a window that isn't shown owns nothing
pub hidden_owns_none : (s : Windows) (w : ℕ) → ((x y : ℤ) → covers s.windows x y w ≡ false) → (x y : ℤ) → is_number w (owner_at s x y) ≡ false
unfolding owner_at
hidden_owns_none s w none x y =
    none_on_screen (is_on_screen s.width x && is_on_screen s.height y) w (find (covers s.windows x y) s.order) (missed (covers s.windows x y) w s.order (none x y))

-- a window owns what its frame has on the screen and no window in front of it covers
pub owns_its_part : (s : Windows) (w place : ℕ) (frame part : Rect) (region rest : List Rect) → Some place ≡ position (λ v. v == w) s.order → ((x y : ℤ) → covers s.windows x y w ≡ rect_has frame x y) → ((x y : ℤ) → rect_has part x y ≡ (is_on_screen s.width x && is_on_screen s.height y && rect_has frame x y)) → HasPixelsOf region part → ((x y : ℤ) → region_has rest x y ≡ (region_has region x y && not (list_any (covers s.windows x y) (take place s.order)))) → IsVisible rest s w
unfolding owner_at
owns_its_part s w place frame part region rest found shown on_screen whole off x y =
    let on : Bool = is_on_screen s.width x && is_on_screen s.height y in
    let behind : Bool = list_any (covers s.windows x y) (take place s.order) in
    off x y ∙ ap (λ b. b && not behind) (whole x y ∙ on_screen x y ∙ ap (λ b. on && b) (sym (shown x y))) ∙ sym (on_screen_alone on (covers s.windows x y w) behind w (find (covers s.windows x y) s.order) (owned_behind (covers s.windows x y) w s.order place found))
