-- The buttons of a window, view by view, and those of all windows.
use Rattle.std.proofs.Common.{◌≡◌, ◌≢◌, ℕ, suc, zero, ◌+◌, ◌<◌, List, [], ◌∷◌, ◌++◌, ◌⊎◌, Bool}
use Rattle.std.proofs.Common.{true, false, cond, length, map, take, get_or, Option, Some, None}
use Rattle.std.proofs.Common.{⊎_elim, inl, inr, refl, sym, ap, subst, ◌∙◌, eq-eqb, arith}
use Rattle.std.proofs.lemmas.Bool.{ne_eqb}
use Rattle.std.proofs.lemmas.Int.{ints}
use Rattle.std.proofs.lemmas.List.{append-nil, length_push, map-append}
use Rattle.std.proofs.lemmas.List.Elements.{filter_more}
use Rattle.std.proofs.lemmas.Option.{same_Some, slice_get-get_or, slice_get-map}
use Rattle.std.specs.Prelude.{pos, ℤ, ◌-ℤ◌, ◌==◌, filter, option_map, slice_get}
use Rattle.be_control.specs.Buttons.{Button, HasHeard, is_armed}
use Rattle.be_geom.specs.declared.rect.Rect.{Rect}
use Rattle.be_input.specs.Deliveries.{saturated}
use Rattle.be_script.specs.Script.{Declared}
use Rattle.be_script.specs.Windows.{root_view, view_lines}
use Rattle.be_script.specs.declared.ViewLine.{ViewLine}
use Rattle.be_script.specs.declared.WindowLine.{WindowLine}
use Rattle.be_pressed.proofs.Heard.{bounds_at}
use Rattle.be_pressed.specs.ButtonText.{bounds_of}
use Rattle.be_pressed.specs.Hearing.{AreWindows, IsWindow, at_rest}

-- ---- one view more

abbrev pub frame_bounds : ViewLine → Rect
frame_bounds view = bounds_of view.frame

-- the bounds of the root and of the window's views among these
abbrev pub due_of : ℕ → WindowLine → List ViewLine → List Rect
due_of w line views =
    bounds_of line.frame ∷ map frame_bounds (filter (λ view. view.window == w) views)

filtered : (w : ℕ) (views : List ViewLine) (i : ℕ) (view : ViewLine) (mine : Bool)
    → i < length views → view ≡ get_or views i view → (view.window == w) ≡ mine
    → filter (λ v. v.window == w) (take (i + 1) views)
    ≡ filter (λ v. v.window == w) (take i views) ++ cond mine (view ∷ []) []
filtered w views i view mine less is so =
    filter_more (λ v. v.window == w) views i view less
    ∙ ap (λ (v : ViewLine).
    filter (λ v. v.window == w) (take i views) ++ cond (v.window == w) (v ∷ []) []) (sym is)
    ∙ ap (λ (b : Bool). filter (λ v. v.window == w) (take i views) ++ cond b (view ∷ []) []) so

pub own_view : (w : ℕ) (line : WindowLine) (views : List ViewLine) (i : ℕ) (view : ViewLine)
    (old new : List Button) → i < length views → view ≡ get_or views i view → view.window ≡ w
    → old ≡ map at_rest (due_of w line (take i views))
    → new ≡ old ++ at_rest (bounds_of view.frame) ∷ []
    → new ≡ map at_rest (due_of w line (take (i + 1) views))
own_view w line views i view old new less is own was added =
    let before = filter (λ v. v.window == w) (take i views) in
    added
    ∙ ap (λ (l : List Button). l ++ at_rest (bounds_of view.frame) ∷ []) was
    ∙ sym (map-append at_rest (due_of w line (take i views)) (bounds_of view.frame ∷ []))
    ∙ ap (λ (l : List Rect). map at_rest (bounds_of line.frame ∷ l))
    (sym (map-append frame_bounds before (view ∷ [])))
    ∙ ap (λ (l : List ViewLine). map at_rest (bounds_of line.frame ∷ map frame_bounds l))
    (sym (filtered w views i view true less is (eq-eqb view.window w own)))

pub other_view : (w : ℕ) (line : WindowLine) (views : List ViewLine) (i : ℕ) (view : ViewLine)
    (old new : List Button) → i < length views → view ≡ get_or views i view → view.window ≢ w
    → old ≡ map at_rest (due_of w line (take i views)) → new ≡ old
    → new ≡ map at_rest (due_of w line (take (i + 1) views))
other_view w line views i view old new less is other was stays =
    stays ∙ was
    ∙ ap (λ (l : List ViewLine). map at_rest (bounds_of line.frame ∷ map frame_bounds l))
    (sym (filtered w views i view false less is (ne_eqb view.window w other)
    ∙ append-nil (filter (λ v. v.window == w) (take i views))))

-- ---- one window

less_nothing : (z : ℤ) → (z -ℤ pos 0) ≡ z
less_nothing z = omega (arith, ints)

root_bounds : (line : WindowLine) → bounds_of line.frame ≡ bounds_of (root_view line).frame
root_bounds line =
    let across = less_nothing (line.frame.right -ℤ line.frame.left) in
    let down = less_nothing (line.frame.bottom -ℤ line.frame.top) in
    λ i. record {
      left = pos 0;
      top = pos 0;
      right = saturated (sym across i);
      bottom = saturated (sym down i);
    }

bounds_rest : (rects : List Rect) → map bounds_at (map at_rest rects) ≡ rects
bounds_rest [] = refl
bounds_rest (rect ∷ rects) = ap (λ (l : List Rect). rect ∷ l) (bounds_rest rects)

rests : (o : Option Rect) (button : Button) → option_map at_rest o ≡ Some button
    → HasHeard button []
unfolding is_armed
rests (Some rect) button is = subst (λ (b : Button). HasHeard b []) (same_Some _ button is) refl
rests None button is = (cc)

pub at_first : (d : Declared) (w : ℕ) (line : WindowLine) (buttons : List Button)
    → buttons ≡ map at_rest (due_of w line d.views) → IsWindow d w line [] buttons
at_first d w line buttons is = record {
  bounds =
      ap (map bounds_at) is ∙ bounds_rest (due_of w line d.views)
      ∙ ap (λ (r : Rect). r ∷ map frame_bounds (view_lines d w)) (root_bounds line);
  heard = λ v button there.
      rests (slice_get (due_of w line d.views) v) button
      (sym (slice_get-map at_rest (due_of w line d.views) v)
      ∙ ap (λ (l : List Button). slice_get l v) (sym is) ∙ there);
}

-- ---- all windows

-- those of the first so many windows
pub record AreOpened (d : Declared) (n : ℕ) (windows : List (List Button)) : Type 0 where
  pub many : length windows ≡ n
  pub each : (w : ℕ) (line : WindowLine) (buttons : List Button)
      → slice_get d.windows w ≡ Some line → slice_get windows w ≡ Some buttons
      → IsWindow d w line [] buttons

pub none_opened : (d : Declared) → AreOpened d 0 []
none_opened d = record { many = refl; each = λ w line buttons is there. (cc) }

in_longer : {X : Type 0} (xs : List X) (x y : X) (v : ℕ) → slice_get (xs ++ x ∷ []) v ≡ Some y
    → (slice_get xs v ≡ Some y) ⊎ ((v ≡ length xs) × (x ≡ y))
in_longer [] x y zero is = inr (refl, same_Some x y is)
in_longer [] x y (suc v) is = (cc)
in_longer (z ∷ xs) x y zero is = inl is
in_longer (z ∷ xs) x y (suc v) is =
    ⊎_elim (λ before. inl before) (λ last. inr (ap suc last.0, last.1)) (in_longer xs x y v is)

pub one_opened : (d : Declared) (n : ℕ) (line : WindowLine) (old new : List (List Button))
    (buttons : List Button) → n < length d.windows → line ≡ get_or d.windows n line
    → AreOpened d n old → IsWindow d n line [] buttons → new ≡ old ++ buttons ∷ []
    → AreOpened d (n + 1) new
one_opened d n line old new buttons less is was made added = record {
  many = ap length added ∙ length_push old buttons ∙ ap (λ (k : ℕ). k + 1) was.many;
  each = λ w other found at there.
      ⊎_elim
      (λ before. was.each w other found at before)
      (λ last.
      let here : w ≡ n = last.0 ∙ was.many in
      let same : line ≡ other =
      same_Some line other (ap Some is ∙ sym (slice_get-get_or d.windows n line less)
      ∙ ap (slice_get d.windows) (sym here) ∙ at) in
      subst (λ (k : ℕ). IsWindow d k other [] found) (sym here)
      (subst (λ (l : WindowLine). IsWindow d n l [] found) same
      (subst (λ (l : List Button). IsWindow d n line [] l) last.1 made)))
      (in_longer old buttons found w (ap (λ (l : List (List Button)). slice_get l w) (sym added)
      ∙ there));
}

pub all_opened : (d : Declared) (n : ℕ) (windows : List (List Button)) → n ≡ length d.windows
    → AreOpened d n windows → AreWindows d [] windows
all_opened d n windows all was = record { many = was.many ∙ all; each = was.each }
