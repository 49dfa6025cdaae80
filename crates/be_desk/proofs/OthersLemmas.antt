-- What a change of one window leaves of the others.
use Rattle.std.specs.Prelude.{◌↔◌, ◌⊎◌, ◌==◌, IsTrue, find, slice_get, slice_set}
use Rattle.std.proofs.Common.{◌≡◌, ℕ, zero, suc, ℤ, ◌-ℤ◌, Bool, true, false, cond, not, ◌&&◌, inl, inr, List, [], ◌∷◌, length, Option, Some, None, Result, Ok, eq-eqb, refl, sym, ap, ◌∙◌}
use Rattle.std.proofs.lemmas.Bool.{and_parts, eqb-true, false≢true, ne_eqb, true≢false}
use Rattle.be_geom.specs.declared.change.Change.{Change}
use Rattle.be_geom.specs.declared.change.Change.TheVariants.{Show, Hide, MoveTo, MoveBy, ResizeTo, Activate, Behind, Focus, Close}
use Rattle.be_geom.specs.Numbers.{is_number}
use Rattle.be_geom.specs.Rects.{moved_rect}
use Rattle.be_geom.specs.declared.rect.Rect.{Rect}
use Rattle.be_region.specs.Regions.{region_has, IsDifference}
use Rattle.be_stack.specs.Changes.{within_range, resized_rect, windows_after}
use Rattle.be_stack.specs.Order.{others, put_behind}
use Rattle.be_stack.specs.Owner.{is_on_screen, covers, covers_pixel, owner_at}
use Rattle.be_stack.specs.Visible.{IsVisible}
use Rattle.be_stack.specs.Windows.{Windows, passes}
use Rattle.be_stack.specs.declared.fault.ChangeFault.{ChangeFault}
use Rattle.be_stack.specs.declared.window.Window.{Window}
use Rattle.be_stack.proofs.LawLemmas.{Shown, by_change, as_after, with_frame}
use Rattle.be_stack.proofs.VisibleLemmas.{missed}
use Rattle.be_desk.specs.Affected.{CoversNone, IsZone, OthersStay, OwnsNone, OwnsTheSame}
use Rattle.be_desk.specs.declared.zone.Zone.{Zone}

-- ---- the order without a window

dropped : (w : ℕ) (xs : List ℕ) → others w (w ∷ xs) ≡ others w xs
dropped w xs = ap (λ b. cond (not b) (w ∷ others w xs) (others w xs)) (eq-eqb w w refl)

kept_twice : (b : Bool) (w x : ℕ) (xs : List ℕ) → (x == w) ≡ b → others w (others w xs) ≡ others w xs → others w (cond (not b) (x ∷ others w xs) (others w xs)) ≡ cond (not b) (x ∷ others w xs) (others w xs)
kept_twice true w x xs e rest = rest
kept_twice false w x xs e rest = ap (λ b. cond (not b) (x ∷ others w (others w xs)) (others w (others w xs))) e ∙ ap (λ l. x ∷ l) rest

others_twice : (w : ℕ) (xs : List ℕ) → others w (others w xs) ≡ others w xs
others_twice w [] = refl
others_twice w (x ∷ xs) = kept_twice (x == w) w x xs refl (others_twice w xs)

-- the others before and behind a first one
behind_first : (b : Bool) (front w x : ℕ) (xs : List ℕ) → others w (put_behind front w xs) ≡ others w xs → others w (cond b (x ∷ w ∷ xs) (x ∷ put_behind front w xs)) ≡ others w (x ∷ xs)
behind_first true front w x xs rest = ap (λ l. cond (not (x == w)) (x ∷ l) l) (dropped w xs)
behind_first false front w x xs rest = ap (λ l. cond (not (x == w)) (x ∷ l) l) rest

put_among : (front w : ℕ) (xs : List ℕ) → others w (put_behind front w xs) ≡ others w xs
put_among front w [] = dropped w []
put_among front w (x ∷ xs) = behind_first (x == front) front w x xs (put_among front w xs)

-- ---- what is kept of the others

same_many : (xs : List Window) (w : ℕ) (x : Window) → length (slice_set xs w x) ≡ length xs
same_many [] w x = refl
same_many (y ∷ ys) zero x = refl
same_many (y ∷ ys) (suc w) x = ap suc (same_many ys w x)

same_window : (xs : List Window) (w u : ℕ) (x : Window) → (u ≡ w → ⊥) → slice_get (slice_set xs w x) u ≡ slice_get xs u
same_window [] w u x other = refl
same_window (y ∷ ys) zero zero x other = absurd (other refl)
same_window (y ∷ ys) zero (suc u) x other = refl
same_window (y ∷ ys) (suc w) zero x other = refl
same_window (y ∷ ys) (suc w) (suc u) x other = same_window ys w u x (λ e. other (ap suc e))

-- ---- change by change

as_they_are : (s : Windows) (w : ℕ) → OthersStay s s w
as_they_are s w = record { width = refl; height = refl; many = refl; order = refl; windows = λ u other. refl }

-- something else is kept of the window, and the order and the active window may be others
with_new : (s : Windows) (w : ℕ) (x : Window) (order : List ℕ) (active : Option ℕ) → others w order ≡ others w s.order → OthersStay s (record s { order = order; windows = slice_set s.windows w x; active = active }) w
with_new s w x order active same = record {
  width = refl;
  height = refl;
  many = same_many s.windows w x;
  order = same;
  windows = λ u other. same_window s.windows w u x other;
}

with_order : (s : Windows) (w : ℕ) (order : List ℕ) (active : Option ℕ) → others w order ≡ others w s.order → OthersStay s (record s { order = order; active = active }) w
with_order s w order active same = record { width = refl; height = refl; many = refl; order = same; windows = λ u other. refl }

stays_behind : (b : Bool) (s t : Windows) (w front : ℕ) → ◌≡◌ {A = Result Windows ChangeFault} (Ok (cond b s (record s { order = put_behind front w (others w s.order) }))) (Ok t) → OthersStay s t w
stays_behind true s t w front e = as_after (λ r. OthersStay s r w) s t e (as_they_are s w)
stays_behind false s t w front e =
    as_after (λ r. OthersStay s r w) _ t e (with_order s w _ s.active (put_among front w (others w s.order) ∙ others_twice w s.order))

stay_in : (s t : Windows) (w : ℕ) (change : Change) → Shown (λ r. OthersStay s r w) s t w change
stay_in s t w Show window there opened e = as_after (λ r. OthersStay s r w) _ t e (with_new s w _ s.order s.active refl)
stay_in s t w Hide window there opened e = as_after (λ r. OthersStay s r w) _ t e (with_new s w _ s.order _ refl)
stay_in s t w (MoveTo corner) window there opened e =
    with_frame (λ r. OthersStay s r w) s t w window (within_range (moved_rect window.frame (corner.x -ℤ window.frame.left) (corner.y -ℤ window.frame.top))) (λ r. with_new s w _ s.order s.active refl) e
stay_in s t w (MoveBy dx dy) window there opened e =
    with_frame (λ r. OthersStay s r w) s t w window (within_range (moved_rect window.frame dx dy)) (λ r. with_new s w _ s.order s.active refl) e
stay_in s t w (ResizeTo width height) window there opened e =
    with_frame (λ r. OthersStay s r w) s t w window (within_range (resized_rect window.frame width height)) (λ r. with_new s w _ s.order s.active refl) e
stay_in s t w Activate window there opened e =
    as_after (λ r. OthersStay s r w) _ t e (with_order s w _ _ (dropped w (others w s.order) ∙ others_twice w s.order))
stay_in s t w (Behind front) window there opened e = stays_behind (w == front) s t w front e
stay_in s t w (Focus view) window there opened e = as_after (λ r. OthersStay s r w) s t e (as_they_are s w)
stay_in s t w Close window there opened e =
    as_after (λ r. OthersStay s r w) _ t e (with_new s w _ _ _ (others_twice w s.order))

pub others_stay : (s t : Windows) (w : ℕ) (change : Change) → windows_after s w change ≡ Ok t → OthersStay s t w
others_stay s t w change e = by_change (λ r. OthersStay s r w) s t w change (stay_in s t w change) e

-- ---- who owns what

-- where the first that passes isn't window w, it is the first of the others
found_first : (b c : Bool) (w x : ℕ) (found among : Option ℕ) → (x == w) ≡ b → is_number w (cond c (Some x) found) ≡ false → (is_number w found ≡ false → found ≡ among) → cond c (Some x) found ≡ cond (not b) (cond c (Some x) among) among
found_first true true w x found among e none rest = absurd (false≢true (sym none ∙ e))
found_first true false w x found among e none rest = rest none
found_first false true w x found among e none rest = refl
found_first false false w x found among e none rest = rest none

found_in : (b : Bool) (p : ℕ → Bool) (x : ℕ) (xs : List ℕ) → find p (cond b (x ∷ xs) xs) ≡ cond b (cond (p x) (Some x) (find p xs)) (find p xs)
found_in true p x xs = refl
found_in false p x xs = refl

found_among : (p : ℕ → Bool) (w : ℕ) (xs : List ℕ) → is_number w (find p xs) ≡ false → find p xs ≡ find p (others w xs)
found_among p w [] none = refl
found_among p w (x ∷ xs) none =
    found_first (x == w) (p x) w x (find p xs) (find p (others w xs)) refl none (found_among p w xs)
    ∙ sym (found_in (not (x == w)) p x (others w xs))

alike_first : (b : Bool) (p q : ℕ → Bool) (w x : ℕ) (xs : List ℕ) → (x == w) ≡ b → ((u : ℕ) → (u ≡ w → ⊥) → p u ≡ q u) → find p (others w xs) ≡ find q (others w xs) → find p (cond (not b) (x ∷ others w xs) (others w xs)) ≡ find q (cond (not b) (x ∷ others w xs) (others w xs))
alike_first true p q w x xs e same rest = rest
alike_first false p q w x xs e same rest =
    let other : x ≡ w → ⊥ = λ is. false≢true (sym e ∙ ap (λ v. v == w) is ∙ eq-eqb w w refl) in
    ap (λ c. cond c (Some x) (find p (others w xs))) (same x other) ∙ ap (λ o. cond (q x) (Some x) o) rest

alike : (p q : ℕ → Bool) (w : ℕ) (xs : List ℕ) → ((u : ℕ) → (u ≡ w → ⊥) → p u ≡ q u) → find p (others w xs) ≡ find q (others w xs)
alike p q w [] same = refl
alike p q w (x ∷ xs) same = alike_first (x == w) p q w x xs refl same (alike p q w xs same)

covers_alike : (s t : Windows) (w : ℕ) (x y : ℤ) → OthersStay s t w → (u : ℕ) → (u ≡ w → ⊥) → covers s.windows x y u ≡ covers t.windows x y u
covers_alike s t w x y stay u other = ap (passes (covers_pixel x y)) (sym (stay.windows u other))

same_found : (b : Bool) (p q : ℕ → Bool) (w : ℕ) (xs ys : List ℕ) → others w ys ≡ others w xs → ((u : ℕ) → (u ≡ w → ⊥) → p u ≡ q u) → is_number w (cond b (find p xs) None) ≡ false → is_number w (cond b (find q ys) None) ≡ false → cond b (find p xs) None ≡ cond b (find q ys) None
same_found true p q w xs ys order same before after =
    found_among p w xs before ∙ alike p q w xs same ∙ ap (find q) (sym order) ∙ sym (found_among q w ys after)
same_found false p q w xs ys order same before after = refl

-- a pixel that window w owns neither before nor after has the same owner
same_owner : (s t : Windows) (w : ℕ) (x y : ℤ) → OthersStay s t w → is_number w (owner_at s x y) ≡ false → is_number w (owner_at t x y) ≡ false → owner_at s x y ≡ owner_at t x y
unfolding owner_at
same_owner s t w x y stay before after =
    let r : Option ℕ = find (covers t.windows x y) t.order in
    let size : owner_at t x y ≡ cond (is_on_screen s.width x && is_on_screen s.height y) r None =
    ap (λ n. cond (is_on_screen n x && is_on_screen t.height y) r None) stay.width
    ∙ ap (λ n. cond (is_on_screen s.width x && is_on_screen n y) r None) stay.height in
    same_found (is_on_screen s.width x && is_on_screen s.height y) (covers s.windows x y) (covers t.windows x y) w s.order t.order stay.order (covers_alike s t w x y stay) before (sym (ap (is_number w) size) ∙ after) ∙ sym size

unfound : (b : Bool) (p : ℕ → Bool) (u : ℕ) (xs : List ℕ) → p u ≡ false → is_number u (cond b (find p xs) None) ≡ false
unfound true p u xs none = missed p u xs none
unfound false p u xs none = refl

-- a window that doesn't cover a pixel doesn't own it
pub unowned : (s : Windows) (u : ℕ) (x y : ℤ) → covers s.windows x y u ≡ false → is_number u (owner_at s x y) ≡ false
unfolding owner_at
unowned s u x y none = unfound (is_on_screen s.width x && is_on_screen s.height y) (covers s.windows x y) u s.order none

same_where : (b : Bool) (s t : Windows) (w u : ℕ) (x y : ℤ) → OthersStay s t w → (u ≡ w → ⊥) → (b ≡ true → (is_number w (owner_at s x y) ≡ false) × (is_number w (owner_at t x y) ≡ false)) → covers s.windows x y u ≡ b → is_number u (owner_at s x y) ≡ is_number u (owner_at t x y)
same_where true s t w u x y stay other beside covered =
    let none = beside refl in ap (is_number u) (same_owner s t w x y stay none.0 none.1)
same_where false s t w u x y stay other beside covered =
    unowned s u x y covered ∙ sym (unowned t u x y (sym (covers_alike s t w x y stay u other) ∙ covered))

-- ---- beside what window w owns

free : (a b : Bool) → (a && not b) ≡ false → b ≡ false → a ≡ false
free a true e none = cc
free true false e none = cc
free false false e none = refl

-- window w owns no pixel that another one covers beside what it gives up and what it owns then
beside_both : (s t : Windows) (w u : ℕ) (zone : Zone) (x y : ℤ) → IsZone s t w zone → CoversNone s u zone.given → region_has zone.new x y ≡ false → covers s.windows x y u ≡ true → (is_number w (owner_at s x y) ≡ false) × (is_number w (owner_at t x y) ≡ false)
beside_both s t w u zone x y is given new covered =
    let after = sym (is.new x y) ∙ new in
    (free (is_number w (owner_at s x y)) (is_number w (owner_at t x y)) (sym (is.given x y) ∙ given x y covered) after, after)

-- so a window that covers none of either owns the same
pub unaltered : (s t : Windows) (w u : ℕ) (zone : Zone) → OthersStay s t w → IsZone s t w zone → (u ≡ w → ⊥) → CoversNone s u zone.given → CoversNone s u zone.new → OwnsTheSame s t u
unaltered s t w u zone stay is other given new x y =
    same_where (covers s.windows x y u) s t w u x y stay other (λ covered. beside_both s t w u zone x y is given (new x y covered) covered) refl

another : (w u : ℕ) (o : Option ℕ) → is_number w o ≡ true → (u ≡ w → ⊥) → is_number u o ≡ false
another w u (Some v) e other = ne_eqb v u (λ same. other (sym same ∙ eqb-true v w e))
another w u None e other = cc

rest_of : (b : Bool) (s t : Windows) (w u : ℕ) (zone : Zone) (owned : Bool) (x y : ℤ) → OthersStay s t w → IsZone s t w zone → (u ≡ w → ⊥) → CoversNone s u zone.given → owned ≡ is_number u (owner_at s x y) → region_has zone.new x y ≡ b → (owned && not b) ≡ is_number u (owner_at t x y)
rest_of true s t w u zone owned x y stay is other given e new =
    elim owned as (λ a. (a && false) ≡ false) [ true ↦ refl | false ↦ refl ] ∙ sym (another w u (owner_at t x y) (sym (is.new x y) ∙ new) other)
rest_of false s t w u zone owned x y stay is other given e new =
    elim owned as (λ a. (a && true) ≡ a) [ true ↦ refl | false ↦ refl ] ∙ e
    ∙ same_where (covers s.windows x y u) s t w u x y stay other (λ covered. beside_both s t w u zone x y is given new covered) refl

-- and one that covers none of what window w gives up owns what it owned beside what that one owns
pub owned_rest : (s t : Windows) (w u : ℕ) (zone : Zone) (owned rest : List Rect) → OthersStay s t w → IsZone s t w zone → (u ≡ w → ⊥) → CoversNone s u zone.given → IsVisible owned s u → IsDifference rest owned zone.new → IsVisible rest t u
owned_rest s t w u zone owned rest stay is other given visible beside x y =
    beside x y ∙ rest_of (region_has zone.new x y) s t w u zone (region_has owned x y) x y stay is other given (visible x y) refl

-- ---- who wins and loses

by_zone : (new given : Bool) (s t : Windows) (w u : ℕ) (zone : Zone) (x y : ℤ) → OthersStay s t w → IsZone s t w zone → (u ≡ w → ⊥) → OwnsNone s u zone.new → OwnsNone t u zone.given → region_has zone.new x y ≡ new → region_has zone.given x y ≡ given → is_number u (owner_at s x y) ≡ is_number u (owner_at t x y)
by_zone true given s t w u zone x y stay is other loses wins e g =
    loses x y e ∙ sym (another w u (owner_at t x y) (sym (is.new x y) ∙ e) other)
by_zone false true s t w u zone x y stay is other loses wins e g =
    let was = and_parts (is_number w (owner_at s x y)) (not (is_number w (owner_at t x y))) (sym (is.given x y) ∙ g) in
    another w u (owner_at s x y) was.0 other ∙ sym (wins x y g)
by_zone false false s t w u zone x y stay is other loses wins e g =
    let after = sym (is.new x y) ∙ e in
    ap (is_number u) (same_owner s t w x y stay (free (is_number w (owner_at s x y)) (is_number w (owner_at t x y)) (sym (is.given x y) ∙ g) after) after)

-- a window that loses none of what window w owns afterwards, and wins none of what that one gives up, owns the same
pub kept_all : (s t : Windows) (w u : ℕ) (zone : Zone) → OthersStay s t w → IsZone s t w zone → (u ≡ w → ⊥) → OwnsNone s u zone.new → OwnsNone t u zone.given → OwnsTheSame s t u
kept_all s t w u zone stay is other loses wins x y =
    by_zone (region_has zone.new x y) (region_has zone.given x y) s t w u zone x y stay is other loses wins refl refl

pub loses_none : (s t : Windows) (w u : ℕ) (zone : Zone) → IsZone s t w zone → (u ≡ w → ⊥) → OwnsTheSame s t u → OwnsNone s u zone.new
loses_none s t w u zone is other same x y has = same x y ∙ another w u (owner_at t x y) (sym (is.new x y) ∙ has) other

pub wins_none : (s t : Windows) (w u : ℕ) (zone : Zone) → IsZone s t w zone → (u ≡ w → ⊥) → OwnsTheSame s t u → OwnsNone t u zone.given
wins_none s t w u zone is other same x y has =
    let was = and_parts (is_number w (owner_at s x y)) (not (is_number w (owner_at t x y))) (sym (is.given x y) ∙ has) in
    sym (same x y) ∙ another w u (owner_at s x y) was.0 other

-- so one that loses none is altered where it wins some
pub altered_if : (s t : Windows) (w u : ℕ) (zone : Zone) → OthersStay s t w → IsZone s t w zone → (u ≡ w → ⊥) → OwnsNone s u zone.new → (some : Bool) → (some ≡ false) ↔ OwnsNone t u zone.given → IsTrue some ↔ ((u ≡ w) ⊎ (OwnsTheSame s t u → ⊥))
altered_if s t w u zone stay is other loses true wins = (
  λ _. inr (λ same. true≢false (wins.1 (wins_none s t w u zone is other same))),
  λ _. refl,
)
altered_if s t w u zone stay is other loses false wins = (
  λ h. absurd (false≢true h),
  λ altered. elim altered [
    | inl same ↦ absurd (other same)
    | inr differs ↦ absurd (differs (kept_all s t w u zone stay is other loses (wins.0 refl)))
  ],
)
