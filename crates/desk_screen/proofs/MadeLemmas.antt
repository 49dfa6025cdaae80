-- Hidden windows make a screen, and one more may be added to them.
use Rattle.std.specs.Prelude.{ℤ, pos, ◌+ℤ◌, ◌-ℤ◌, ◌&&◌, slice_get, option_and_then}
use Rattle.std.specs.Option.{option_map}
use Rattle.std.proofs.Common.{◌≡◌, ℕ, ◌<◌, false, List, [], ◌∷◌, ◌++◌, length, Some, inl, inr, refl, sym, ap, ◌∙◌, subst, arith}
use Rattle.std.proofs.lemmas.Bool.{cases_lt}
use Rattle.std.proofs.lemmas.Int.{ints}
use Rattle.std.proofs.lemmas.List.{length_push}
use Rattle.std.proofs.lemmas.Option.{same_Some, slice_get_within}
use Rattle.be_facts.proofs.Lists.{got_last, got_front, element}
use Rattle.be_geom.specs.declared.rect.Rect.{Rect}
use Rattle.be_geom.specs.Rects.{rect_has}
use Rattle.be_geom.proofs.RectLemmas.{same_rects}
use Rattle.be_input.specs.Pointing.{Pointing, corner_of}
use Rattle.be_pane.specs.declared.pane.Pane.{Pane}
use Rattle.be_stack.specs.declared.flags.WindowFlags.{WindowFlags}
use Rattle.be_stack.specs.declared.window.Window.{Window}
use Rattle.be_stack.specs.Owner.{covers, covers_pixel}
use Rattle.be_stack.specs.Windows.{Windows, empty_windows, passes, with_new_window}
use Rattle.be_stack.proofs.VisibleLemmas.{hidden_owns_none}
use Rattle.be_views.specs.Resizing.{root_frame}
use Rattle.be_views.specs.Trees.{Tree, View, left_top}
use Rattle.be_views.specs.Whole.{root_view}
use Rattle.be_desk.specs.Desks.{IsRootIn, at_origin}
use Rattle.be_desk.specs.Plans.{IsPaneOf}
use Rattle.desk_screen.specs.Making.{AreMade, IsMade, IsNewPane}
use Rattle.desk_screen.specs.Screens.{IsScreen}

pub none_made : (width height : ℕ) → AreMade (empty_windows width height) [] []
none_made width height = record { many_trees = refl; many_panes = refl; each = λ k window tree pane got views paned. cc }

root_is : (frame : Rect) (width height : ℤ) → width ≡ frame.right -ℤ frame.left → height ≡ frame.bottom -ℤ frame.top → root_frame width height ≡ at_origin frame
root_is r width height across down =
    same_rects (pos 0) (r.left +ℤ (pos 0 -ℤ r.left)) (pos 0) (r.top +ℤ (pos 0 -ℤ r.top)) width (r.right +ℤ (pos 0 -ℤ r.left)) height (r.bottom +ℤ (pos 0 -ℤ r.top)) (omega (arith, ints)) (omega (arith, ints)) (omega (arith, ints)) (omega (arith, ints))

-- a new window is hidden, and its root has its size
new_made : (w : ℕ) (frame : Rect) (flags : WindowFlags) (tree : Tree) (pane : Pane) (width height : ℤ) → width ≡ frame.right -ℤ frame.left → height ≡ frame.bottom -ℤ frame.top → slice_get tree 0 ≡ Some (root_view width height) → IsNewPane w (left_top frame) tree pane → IsMade w (record { frame = frame; hides = 1; flags = flags; closed = false }) tree pane
new_made w frame flags tree pane width height across down got is_new = record {
  hidden = refl;
  some = slice_get_within tree 0 (root_view width height) got;
  rooted = λ root there_root.
      subst (λ (view : View). IsRootIn (record { frame = frame; hides = 1; flags = flags; closed = false }) view) (same_Some (root_view width height) root (sym got ∙ there_root)) (record { top = refl; frame = root_is frame width height across down });
  new_pane = is_new;
}

-- of three things at a number, which are known, each is that one
made_of_same : (k : ℕ) (w v : Window) (t u : Tree) (p q : Pane) → w ≡ v → t ≡ u → p ≡ q → IsMade k w t p → IsMade k v u q
made_of_same k w v t u p q same_window same_tree same_pane made =
    subst (λ (x : Window). IsMade k x u q) same_window (subst (λ (x : Tree). IsMade k w x q) same_tree (subst (λ (x : Pane). IsMade k w t x) same_pane made))

pub one_made : (s : Windows) (trees : List Tree) (panes : List Pane) (frame : Rect) (flags : WindowFlags) (tree : Tree) (pane : Pane) (width height : ℤ) → AreMade s trees panes → width ≡ frame.right -ℤ frame.left → height ≡ frame.bottom -ℤ frame.top → slice_get tree 0 ≡ Some (root_view width height) → IsNewPane (length s.windows) (left_top frame) tree pane → AreMade (with_new_window s (length s.windows) frame flags) (trees ++ tree ∷ []) (panes ++ pane ∷ [])
one_made s trees panes frame flags tree pane width height made across down got is_new =
    let many_trees = made.many_trees in
    let many_panes = made.many_panes in
    let new : Window = record { frame = frame; hides = 1; flags = flags; closed = false } in
    let more_windows = length_push s.windows new in
    let more_trees = length_push trees tree in
    let more_panes = length_push panes pane in
    record {
      many_trees = omega arith;
      many_panes = omega arith;
      each = λ k window own_tree own_pane here views paned.
          elim (cases_lt k (length s.windows)) [
            | inl less ↦
                made.each k window own_tree own_pane (sym (got_front s.windows new k less) ∙ here) (sym (got_front trees tree k (omega arith)) ∙ views) (sym (got_front panes pane k (omega arith)) ∙ paned)
            | inr above ↦
                let within = slice_get_within (s.windows ++ new ∷ []) k window here in
                let same : length s.windows ≡ k = omega arith in
                made_of_same k new window tree own_tree pane own_pane (same_Some new window (sym (got_last s.windows new k (sym same)) ∙ here)) (same_Some tree own_tree (sym (got_last trees tree k (omega arith)) ∙ views)) (same_Some pane own_pane (sym (got_last panes pane k (omega arith)) ∙ paned))
                (subst (λ (n : ℕ). IsMade n new tree pane) same (new_made (length s.windows) frame flags tree pane width height across down got is_new))
          ];
    }

-- the same of what the calls leave: the stack, the views, and the pane with a copy of the views
pub added_made : (s t : Windows) (trees more_trees : List Tree) (panes more_panes : List Pane) (w : ℕ) (frame : Rect) (flags : WindowFlags) (tree copy : Tree) (pane : Pane) (width height : ℤ) → AreMade s trees panes → w ≡ length s.windows → t ≡ with_new_window s w frame flags → more_trees ≡ trees ++ tree ∷ [] → more_panes ≡ panes ++ pane ∷ [] → width ≡ frame.right -ℤ frame.left → height ≡ frame.bottom -ℤ frame.top → slice_get tree 0 ≡ Some (root_view width height) → copy ≡ tree → IsNewPane w (left_top frame) copy pane → AreMade t more_trees more_panes
added_made s t trees more_trees panes more_panes w frame flags tree copy pane width height made number added grown paned across down got same is_new =
    let there_new = subst (λ (n : ℕ). IsNewPane n (left_top frame) tree pane) number (subst (λ (v : Tree). IsNewPane w (left_top frame) v pane) same is_new) in
    let one = one_made s trees panes frame flags tree pane width height made across down got there_new in
    let by_number = subst (λ (n : ℕ). AreMade (with_new_window s n frame flags) (trees ++ tree ∷ []) (panes ++ pane ∷ [])) (sym number) one in
    let by_stack = subst (λ (v : Windows). AreMade v (trees ++ tree ∷ []) (panes ++ pane ∷ [])) (sym added) by_number in
    let by_trees = subst (λ (v : List Tree). AreMade t v (panes ++ pane ∷ [])) (sym grown) by_stack in
    subst (λ (v : List Pane). AreMade t more_trees v) (sym paned) by_trees

-- ---- the screen

-- a hidden window owns nothing
owns_none : (s : Windows) (k : ℕ) (window : Window) (tree : Tree) (pane : Pane) → slice_get s.windows k ≡ Some window → IsMade k window tree pane → (x y : ℤ) → covers s.windows x y k ≡ false
owns_none s k window tree pane got made x y =
    ap (passes (covers_pixel x y)) got ∙ ap (λ b. b && rect_has window.frame x y) made.hidden

pane_of_made : (s : Windows) (pointing : Pointing) (k : ℕ) (window : Window) (tree : Tree) (pane : Pane) → slice_get s.windows k ≡ Some window → slice_get pointing.trees k ≡ Some tree → IsMade k window tree pane → IsPaneOf (record { windows = s; pointing = pointing }) pane
pane_of_made s pointing k window tree pane got views made =
    let is_new = made.new_pane in
    let number = is_new.number in
    let same_views = is_new.views in
    record {
      place = ap (corner_of s) number ∙ ap (option_map (λ (w : Window). left_top w.frame)) got ∙ ap (λ p. Some p) (sym is_new.place);
      views = ap (slice_get pointing.trees) number ∙ views ∙ ap (λ t. Some t) (sym same_views);
      rooted = subst (λ (t : Tree). 0 < length t) (sym same_views) made.some;
      colored = is_new.colored ∙ sym (ap (λ (t : Tree). length t) same_views);
      drawn = is_new.drawn ∙ sym (ap (λ (t : Tree). length t) same_views);
      pixels = λ x y.
          is_new.none x y ∙ sym (hidden_owns_none s pane.window (λ z v. ap (covers s.windows z v) number ∙ owns_none s k window tree pane got made z v) x y);
    }

pub screen_made : (s : Windows) (pointing : Pointing) (panes : List Pane) → AreMade s pointing.trees panes → IsScreen (record { windows = s; pointing = pointing }) panes
screen_made s pointing panes made =
    let many_trees = made.many_trees in
    let many_panes = made.many_panes in
    record {
      paired = record {
        each = many_trees;
        rooted = λ u window root got is_root.
            let within = slice_get_within s.windows u window got in
            let tree = element pointing.trees u (omega arith) in
            let pane = element panes u (omega arith) in
            (made.each u window tree.0 pane.0 got tree.1 pane.1).rooted root (sym (ap (option_and_then (λ (t : Tree). slice_get t 0)) tree.1) ∙ is_root);
      };
      panes_of = λ k pane got.
          let within = slice_get_within panes k pane got in
          let window = element s.windows k (omega arith) in
          let tree = element pointing.trees k (omega arith) in
          pane_of_made s pointing k window.0 tree.0 pane window.1 tree.1 (made.each k window.0 tree.0 pane window.1 tree.1 got);
      each = many_panes;
      numbered = λ k pane got.
          let within = slice_get_within panes k pane got in
          let window = element s.windows k (omega arith) in
          let tree = element pointing.trees k (omega arith) in
          (made.each k window.0 tree.0 pane window.1 tree.1 got).new_pane.number;
    }
