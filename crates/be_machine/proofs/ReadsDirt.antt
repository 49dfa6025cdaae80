-- Who owns a pixel, and which pixels wait, is a matter of the window's pane alone.
use Rattle.std.proofs.Common.{◌≡◌, ℕ, suc, ◌+◌, Bool, true, false, List, [], ◌∷◌, Option, Some, None, ◌⊎◌, inl, inr, refl, sym, ap, subst, ◌∙◌, arith}
use Rattle.std.specs.Prelude.{ℤ, pos, ◌/◌, ◌%◌, ◌&&◌, not, nat_lt, int_le, int_lt, is_none, slice_get, if◌then◌else◌}
use Rattle.std.proofs.lemmas.Nat.{div-add-mod'}
use Rattle.std.proofs.lemmas.Option.{same_Some}
use Rattle.std.proofs.lemmas.Bool.{false_from_ne_true}
use Rattle.be_facts.proofs.Truths.{and_first, and_second}
use Rattle.be_facts.proofs.Numbers.{eq_self}
use Rattle.be_geom.specs.declared.point.Point.{Point}
use Rattle.be_geom.specs.Numbers.{is_number}
use Rattle.be_geom.specs.Places.{at_pixel}
use Rattle.be_geom.proofs.Numbered.{number_is}
use Rattle.be_pane.specs.Panes.{Pane}
use Rattle.be_span.specs.declared.Cell.{Cell}
use Rattle.be_span.specs.Screen.{cell_at}
use Rattle.be_stack.specs.declared.window.Window.{Window}
use Rattle.be_stack.specs.Owner.{is_on_screen, covers_pixel, covers, owner_at}
use Rattle.be_stack.specs.Windows.{Windows, passes}
use Rattle.be_update.specs.Sessions.{is_any, is_owed, dirty_from, dirty_pixels}
use Rattle.be_machine.specs.Pixels.{owner_in, pixel_at}
use Rattle.be_machine.specs.State.{State}
use Rattle.be_machine.specs.Touched.{SamePixels, SamePart}
use Rattle.be_machine.specs.Touched as part
use Rattle.be_machine.specs.Update.{owes, owes_notice}
use Rattle.be_machine.specs.Windows.{width_of, owned, dirty_of}
use Rattle.be_machine.proofs.Lists.{find_passes}

-- ---- who owns a pixel

pub is_owned : (s : State) (w : ℕ) (x y : ℤ) → owner_in s x y ≡ Some w → owned s w x y ≡ true
is_owned s w x y e = ap (is_number w) e ∙ eq_self w

same_number_by : (w : ℕ) (a b : Option ℕ) (t u : Bool) → is_number w a ≡ t → is_number w b ≡ u → ((a ≡ Some w) ⊎ (b ≡ Some w) → b ≡ a) → is_number w b ≡ is_number w a
same_number_by w a b true u e k same = ap (is_number w) (same (inl (number_is w a e)))
same_number_by w a b false true e k same = ap (is_number w) (same (inr (number_is w b k)))
same_number_by w a b false false e k same = k ∙ sym e

pub same_owned : (s r : State) (w : ℕ) (x y : ℤ) → SamePixels s r w → owned r w x y ≡ owned s w x y
same_owned s r w x y h = same_number_by w (owner_in s x y) (owner_in r x y) (owned s w x y) (owned r w x y) refl refl (λ o. (h x y o).0)

-- the cell of a pixel that the window owns
pub same_old : (s r : State) (w : ℕ) (x y : ℤ) → SamePixels s r w → owned s w x y ≡ true → pixel_at r x y ≡ pixel_at s x y
same_old s r w x y h e = (h x y (inl (number_is w (owner_in s x y) e))).1

-- ---- the pixels that wait

else_none : {X : Type 0} (b : Bool) (o : Option X) (x : X) (P : Type 0) → (if b then o else None) ≡ Some x → (b ≡ true → o ≡ Some x → P) → P
else_none true o x P e f = f refl e
else_none false o x P e f = cc

on_screen : (windows : Windows) (w x : ℕ) (y : ℤ) → owner_at windows (pos x) y ≡ Some w → nat_lt x windows.width ≡ true
unfolding owner_at
on_screen windows w x y e =
    else_none (is_on_screen windows.width (pos x) && is_on_screen windows.height y) _ w _ e (λ h found. and_second (int_le (pos 0) (pos x)) (int_lt (pos x) (pos windows.width)) (and_first (is_on_screen windows.width (pos x)) (is_on_screen windows.height y) h))

pub numbered_cell : (width : ℕ) (cells : List Cell) (i : ℕ) → nat_lt (i % width) width ≡ true → cell_at width cells (pos (i % width)) (pos (i / width)) ≡ slice_get cells i
unfolding cell_at
numbered_cell width cells i inside = rw inside (ap (slice_get cells) (div-add-mod' i width))

-- the cells that the window owns are the same in both lists
abbrev pub SameCells : ℕ → ℕ → (ℤ → ℤ → Bool) → List Cell → List Cell → Type 0
SameCells width k own xs ys = (i : ℕ) → own (pos ((k + i) % width)) (pos ((k + i) / width)) ≡ true → slice_get ys i ≡ slice_get xs i

behind : (width k : ℕ) (own : ℤ → ℤ → Bool) (x y : Cell) (xs ys : List Cell) → SameCells width k own (x ∷ xs) (y ∷ ys) → SameCells width (suc k) own xs ys
behind width k own x y xs ys same i e =
    let n : suc k + i ≡ k + suc i = omega arith in
    same (suc i) (subst (λ j. own (pos (j % width)) (pos (j / width)) ≡ true) n e)

behind_one : (width k : ℕ) (own : ℤ → ℤ → Bool) (x : Cell) (xs : List Cell) → SameCells width k own (x ∷ xs) [] → SameCells width (suc k) own xs []
behind_one width k own x xs same i e =
    let n : suc k + i ≡ k + suc i = omega arith in
    same (suc i) (subst (λ j. own (pos (j % width)) (pos (j / width)) ≡ true) n e)

behind_other : (width k : ℕ) (own : ℤ → ℤ → Bool) (y : Cell) (ys : List Cell) → SameCells width k own [] (y ∷ ys) → SameCells width (suc k) own [] ys
behind_other width k own y ys same i e =
    let n : suc k + i ≡ k + suc i = omega arith in
    same (suc i) (subst (λ j. own (pos (j % width)) (pos (j / width)) ≡ true) n e)

here : (width k : ℕ) (own : ℤ → ℤ → Bool) → own (pos (k % width)) (pos (k / width)) ≡ true → own (pos ((k + 0) % width)) (pos ((k + 0) / width)) ≡ true
here width k own e = let n : k ≡ k + 0 = omega arith in subst (λ j. own (pos (j % width)) (pos (j / width)) ≡ true) n e

unowned : {X : Type 0} (dirty own : Bool) (x y : X) → own ≡ false → (if dirty && own then x else y) ≡ y
unowned true true x y e = cc
unowned true false x y e = refl
unowned false own x y e = refl

first_dirty : (x y : Cell) (own other : Bool) (p : Point) (ps qs : List Point) → other ≡ own → (own ≡ true → Some y ≡ Some x) → qs ≡ ps → (if y.dirty && other then p ∷ qs else qs) ≡ (if x.dirty && own then p ∷ ps else ps)
first_dirty x y true other p ps qs same cell rest =
    let one : y ≡ x = same_Some y x (cell refl) in
    ap (λ (c : Cell). if c.dirty && other then p ∷ qs else qs) one ∙ ap (λ b. if x.dirty && b then p ∷ qs else qs) same ∙ ap (λ ts. if x.dirty && true then p ∷ ts else ts) rest
first_dirty x y false other p ps qs same cell rest = unowned y.dirty other (p ∷ qs) qs same ∙ rest ∙ sym (unowned x.dirty false (p ∷ ps) ps refl)

same_dirt : (width k : ℕ) (own other : ℤ → ℤ → Bool) (xs ys : List Cell) → ((x y : ℤ) → other x y ≡ own x y) → SameCells width k own xs ys → dirty_from width k other ys ≡ dirty_from width k own xs
same_dirt width k own other [] [] owner same = refl
same_dirt width k own other (x ∷ xs) [] owner same =
    let none : own (pos (k % width)) (pos (k / width)) ≡ false = false_from_ne_true (own (pos (k % width)) (pos (k / width))) (λ e. let no : None ≡ Some x = same 0 (here width k own e) in cc) in
    same_dirt width (suc k) own other xs [] owner (behind_one width k own x xs same) ∙ sym (unowned x.dirty (own (pos (k % width)) (pos (k / width))) (at_pixel (pos (k % width)) (pos (k / width)) ∷ dirty_from width (suc k) own xs) (dirty_from width (suc k) own xs) none)
same_dirt width k own other [] (y ∷ ys) owner same =
    let none : own (pos (k % width)) (pos (k / width)) ≡ false = false_from_ne_true (own (pos (k % width)) (pos (k / width))) (λ e. let no : Some y ≡ None = same 0 (here width k own e) in cc) in
    unowned y.dirty (other (pos (k % width)) (pos (k / width))) (at_pixel (pos (k % width)) (pos (k / width)) ∷ dirty_from width (suc k) other ys) (dirty_from width (suc k) other ys) (owner (pos (k % width)) (pos (k / width)) ∙ none) ∙ same_dirt width (suc k) own other [] ys owner (behind_other width k own y ys same)
same_dirt width k own other (x ∷ xs) (y ∷ ys) owner same =
    first_dirty x y (own (pos (k % width)) (pos (k / width))) (other (pos (k % width)) (pos (k / width))) (at_pixel (pos (k % width)) (pos (k / width))) (dirty_from width (suc k) own xs) (dirty_from width (suc k) other ys)
    (owner (pos (k % width)) (pos (k / width))) (λ e. same 0 (here width k own e)) (same_dirt width (suc k) own other xs ys owner (behind width k own x y xs ys same))

same_get : (s r : State) (w i : ℕ) → width_of r ≡ width_of s → SamePixels s r w → owned s w (pos (i % width_of s)) (pos (i / width_of s)) ≡ true → slice_get r.screen i ≡ slice_get s.screen i
same_get s r w i width h e =
    let inside : nat_lt (i % width_of s) (width_of s) ≡ true = on_screen s.desk.windows w (i % width_of s) (pos (i / width_of s)) (number_is w (owner_in s (pos (i % width_of s)) (pos (i / width_of s))) e) in
    sym (numbered_cell (width_of s) r.screen i inside)
    ∙ ap (λ n. cell_at n r.screen (pos (i % width_of s)) (pos (i / width_of s))) (sym width)
    ∙ same_old s r w (pos (i % width_of s)) (pos (i / width_of s)) h e
    ∙ numbered_cell (width_of s) s.screen i inside

pub same_dirty : (s r : State) (w : ℕ) → width_of r ≡ width_of s → SamePixels s r w → dirty_of r w ≡ dirty_of s w
unfolding dirty_of dirty_pixels
same_dirty s r w width h =
    ap (λ n. dirty_from n 0 (owned r w) r.screen) width
    ∙ same_dirt (width_of s) 0 (owned s w) (owned r w) s.screen r.screen (λ x y. same_owned s r w x y h)
    (λ i e. let n : 0 + i ≡ i = omega arith in same_get s r w i width h (subst (λ j. owned s w (pos (j % width_of s)) (pos (j / width_of s)) ≡ true) n e))

-- ---- a notice

owned_by : {P : Type 0} (b own : Bool) (dirty : Bool) (p : Point) (ps : List Point) → (dirty && own) ≡ b → (own ≡ true → P) → (is_any ps ≡ true → P) → is_any (if b then p ∷ ps else ps) ≡ true → P
owned_by true own dirty p ps is now later h = now (and_second dirty own is)
owned_by false own dirty p ps is now later h = later h

any_owned : (width k : ℕ) (own : ℤ → ℤ → Bool) (cells : List Cell) (P : Type 0) → ((x y : ℤ) → own x y ≡ true → P) → is_any (dirty_from width k own cells) ≡ true → P
any_owned width k own [] P f e = cc
any_owned width k own (c ∷ cs) P f e =
    owned_by (c.dirty && own (pos (k % width)) (pos (k / width))) (own (pos (k % width)) (pos (k / width))) c.dirty (at_pixel (pos (k % width)) (pos (k / width))) (dirty_from width (suc k) own cs) refl (f (pos (k % width)) (pos (k / width))) (any_owned width (suc k) own cs P f) e

-- the window is there and isn't closed
record IsOpen (o : Option Window) : Type 0 where
  window : Window
  is : o ≡ Some window
  open_still : window.closed ≡ false

not_closed : (b c : Bool) → (not b && c) ≡ true → b ≡ false
not_closed true c e = cc
not_closed false c e = refl

covered_open : (x y : ℤ) (o : Option Window) → passes (covers_pixel x y) o ≡ true → IsOpen o
covered_open x y (Some window) e = record { window = window; is = refl; open_still = not_closed window.closed _ (and_first _ _ e) }
covered_open x y None e = cc

owner_open : (windows : Windows) (w : ℕ) (x y : ℤ) → owner_at windows x y ≡ Some w → IsOpen (slice_get windows.windows w)
unfolding owner_at
owner_open windows w x y e =
    else_none (is_on_screen windows.width x && is_on_screen windows.height y) _ w _ e (λ h found. covered_open x y (slice_get windows.windows w) (find_passes (covers windows.windows x y) windows.order w found))

-- where a pixel waits its window is there
dirty_open : (s : State) (w : ℕ) → is_any (dirty_of s w) ≡ true → IsOpen (slice_get s.desk.windows.windows w)
unfolding dirty_of dirty_pixels
dirty_open s w e = any_owned (width_of s) 0 (owned s w) s.screen _ (λ x y own. owner_open s.desk.windows w x y (number_is w (owner_in s x y) own)) e

-- by the pane alone
abbrev owed_by : List Point → Option Pane → Bool
owed_by dirty (Some pane) = is_any dirty && is_none pane.session && not pane.notified
owed_by dirty None = false

owes_open : (s : State) (w : ℕ) (o : Option Window) (p : Option Pane) → IsOpen o → owes s w o p ≡ owed_by (dirty_of s w) p
owes_open s w o (Some pane) is = ap (λ v. owes s w v (Some pane)) is.is ∙ ap (λ b. is_owed b (dirty_of s w) pane) is.open_still
owes_open s w o None is = ap (λ v. owes s w v None) is.is

owes_clean : (s : State) (w : ℕ) (o : Option Window) (p : Option Pane) → is_any (dirty_of s w) ≡ false → owes s w o p ≡ owed_by (dirty_of s w) p
owes_clean s w (Some window) (Some pane) e = ap (λ b. not window.closed && b && is_none pane.session && not pane.notified) e ∙ none_owed (not window.closed) (is_none pane.session) (not pane.notified) ∙ sym (ap (λ b. b && is_none pane.session && not pane.notified) e)
  where
    none_owed : (a b c : Bool) → (a && false && b && c) ≡ false
    none_owed true b c = refl
    none_owed false b c = refl
owes_clean s w (Some window) None e = refl
owes_clean s w None (Some pane) e = sym (ap (λ b. b && is_none pane.session && not pane.notified) e)
owes_clean s w None None e = refl

owes_by : (s : State) (w : ℕ) (b : Bool) → is_any (dirty_of s w) ≡ b → owes_notice s w ≡ owed_by (dirty_of s w) (slice_get s.panes w)
unfolding owes_notice
owes_by s w true e = owes_open s w (slice_get s.desk.windows.windows w) (slice_get s.panes w) (dirty_open s w e)
owes_by s w false e = owes_clean s w (slice_get s.desk.windows.windows w) (slice_get s.panes w) e

pub same_owes : (s r : State) (w : ℕ) → width_of r ≡ width_of s → SamePart s r (part.pane w) → owes_notice r w ≡ owes_notice s w
same_owes s r w width (panes, pixels, corner, tree) =
    owes_by r w (is_any (dirty_of r w)) refl
    ∙ ap (λ ps. owed_by ps (slice_get r.panes w)) (same_dirty s r w width pixels)
    ∙ ap (owed_by (dirty_of s w)) panes
    ∙ sym (owes_by s w (is_any (dirty_of s w)) refl)
