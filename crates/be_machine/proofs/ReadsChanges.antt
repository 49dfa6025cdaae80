-- A change of a window reads the desk, and the panes that it touches.
use Rattle.std.proofs.Common.{◌≡◌, ℕ, Bool, true, false, List, [], ◌∷◌, zero, suc, Option, Some, None, Result, Ok, Err, ◌⊎◌, inl, inr, refl, sym, ap, subst, ◌∙◌}
use Rattle.std.specs.Prelude.{ℤ, ◌-ℤ◌, ◌==◌, slice_get, map, option_map, option_and_then, if◌then◌else◌}
use Rattle.std.proofs.lemmas.Option.{same_Some}
use Rattle.be_color.specs.declared.colors.Color.{Color}
use Rattle.be_desk.specs.Changes.{Desk, desk_after, Motion, still, moving, resizing, motion_of, owns, view_here, color_of, exposed_at, way_of, brought, or_exposed, is_kept, own_cell, cell_of, changed_cell}
use Rattle.be_geom.specs.declared.change.Change.{Change}
use Rattle.be_geom.specs.declared.change.Change.TheVariants.{Show, Hide, MoveTo, MoveBy, ResizeTo, Activate, Behind, Focus, Close}
use Rattle.be_geom.specs.declared.point.Point.{Point}
use Rattle.be_message.specs.Messages.{Message}
use Rattle.be_pane.specs.Panes.{Pane}
use Rattle.be_port.specs.Ports.{Port}
use Rattle.be_span.specs.Cells.{Lookup, exposed_as}
use Rattle.be_span.specs.declared.Cell.{Cell}
use Rattle.be_span.specs.Screen.{cell_at, each_cell}
use Rattle.be_span.proofs.EachLemmas.{cell_by}
use Rattle.be_stack.specs.declared.fault.ChangeFault.{ChangeFault}
use Rattle.be_stack.specs.Owner.{owner_at}
use Rattle.be_machine.specs.Pixels.{owner_in, pixel_at}
use Rattle.be_machine.specs.State.{State}
use Rattle.be_machine.specs.Touched.{Part, desk, input, cell, looper, port, link, pane, SamePixels, SamePart, TouchesPanes}
use Rattle.be_machine.specs.Windows.{width_of, view_colors, ports_after, changed, changed_to}
use Rattle.be_machine.proofs.PixelSteps.{IsDesktopAt}
use Rattle.be_machine.proofs.Sizes.{KeepsCounts, desk_sizes}
use Rattle.be_machine.proofs.TouchedWants.{dec_owner}
use Rattle.be_machine.proofs.ReadsDirt.{same_old}
use Rattle.be_machine.proofs.ReadsParts.{Keeps, same_at}
use Rattle.be_machine.proofs.ReadsScreen.{SameScreen}

-- ---- the rule of changes

same_map : {X Y : Type 0} (f : X → Y) (xs ys : List X) (u : ℕ) → slice_get ys u ≡ slice_get xs u → slice_get (map f ys) u ≡ slice_get (map f xs) u
same_map f [] [] u same = refl
same_map f [] (y ∷ ys) zero same = cc
same_map f [] (y ∷ ys) (suc u) same = same_map f [] ys u same
same_map f (x ∷ xs) [] zero same = cc
same_map f (x ∷ xs) [] (suc u) same = same_map f xs [] u same
same_map f (x ∷ xs) (y ∷ ys) zero same = ap Some (ap f (same_Some y x same))
same_map f (x ∷ xs) (y ∷ ys) (suc u) same = same_map f xs ys u same

same_color : (all other : List (List Color)) (u : ℕ) (view : Option ℕ) → slice_get other u ≡ slice_get all u → color_of other u view ≡ color_of all u view
same_color all other u view same = ap (λ o. option_and_then (λ v. option_and_then (λ own. slice_get own v) o) view) same

same_exposed : (after : Desk) (all other : List (List Color)) (u : ℕ) (x y : ℤ) (c : Cell) → slice_get other u ≡ slice_get all u → exposed_at after other u x y c ≡ exposed_at after all u x y c
same_exposed after all other u x y c same = ap (λ o. exposed_as o c) (same_color all other u (view_here after u x y) same)

brought_by : (b : Bool) (old new : Option Cell) → (b ≡ true → new ≡ old) → (if b then new else None) ≡ (if b then old else None)
brought_by true old new same = same refl
brought_by false old new same = refl

same_brought : (before : Desk) (w : ℕ) (old new : Lookup) (x y : ℤ) (o : Option Point) → ((a b : ℤ) → owns before w a b ≡ true → new a b ≡ old a b) → brought before w new x y o ≡ brought before w old x y o
same_brought before w old new x y (Some way) same = brought_by (owns before w (x -ℤ way.x) (y -ℤ way.y)) (old (x -ℤ way.x) (y -ℤ way.y)) (new (x -ℤ way.x) (y -ℤ way.y)) (same (x -ℤ way.x) (y -ℤ way.y))
same_brought before w old new x y None same = refl

still_cell : (before after : Desk) (all other : List (List Color)) (u : ℕ) (old new : Lookup) (x y : ℤ) (c : Cell) → slice_get other u ≡ slice_get all u → own_cell before after other u still new x y c ≡ own_cell before after all u still old x y c
still_cell before after all other u old new x y c colors = ap (λ k. if owns before u x y then c else k) (same_exposed after all other u x y c colors)

changed_own : (before after : Desk) (all other : List (List Color)) (w : ℕ) (motion : Motion) (old new : Lookup) (x y : ℤ) (c : Cell) → slice_get other w ≡ slice_get all w → ((a b : ℤ) → owns before w a b ≡ true → new a b ≡ old a b) → own_cell before after other w motion new x y c ≡ own_cell before after all w motion old x y c
changed_own before after all other w still old new x y c colors same = still_cell before after all other w old new x y c colors
changed_own before after all other w moving old new x y c colors same =
    ap (or_exposed (brought before w new x y (way_of before after w))) (same_exposed after all other w x y c colors)
    ∙ ap (λ o. or_exposed o (exposed_at after all w x y c)) (same_brought before w old new x y (way_of before after w) same)
changed_own before after all other w resizing old new x y c colors same = ap (λ k. if is_kept before after w x y then c else k) (same_exposed after all other w x y c colors)

-- a pixel that window u owns after a change of window w
same_changed : (before after : Desk) (all other : List (List Color)) (w u : ℕ) (change : Change) (old new : Lookup) (x y : ℤ) (c : Cell) → owner_at after.windows x y ≡ Some u → slice_get other u ≡ slice_get all u → slice_get other w ≡ slice_get all w → ((a b : ℤ) → owns before w a b ≡ true → new a b ≡ old a b) → changed_cell before after other w change new x y c ≡ changed_cell before after all w change old x y c
unfolding changed_cell
same_changed before after all other w u change old new x y c is colors own same =
    ap (λ o. cell_of before after other w (motion_of change) o new x y c) is
    ∙ ap (λ k. if u == w then k else own_cell before after other u still new x y c) (changed_own before after all other w (motion_of change) old new x y c own same)
    ∙ ap (λ k. if u == w then own_cell before after all w (motion_of change) old x y c else k) (still_cell before after all other u old new x y c colors)
    ∙ sym (ap (λ o. cell_of before after all w (motion_of change) o old x y c) is)

-- ---- two states

-- the same desk, and screens of the same size on which the desktop shows where no window is
pub record SameDesk (s r : State) : Type 0 where
  pub desk : r.desk ≡ s.desk
  pub screens : SameScreen s r
  pub one : (x y : ℤ) → IsDesktopAt s x y
  pub two : (x y : ℤ) → IsDesktopAt r x y

-- the cell before the change, of a pixel that window u owns after it
pixel_before : (s r : State) (w u : ℕ) (t : State) (x y : ℤ) → SameDesk s r → owner_in t x y ≡ Some u → SamePart s r (pane u) → ((p : Part) → TouchesPanes s t w p → SamePart s r p) → (o : Option ℕ) → owner_in s x y ≡ o → (o ≡ Some u) ⊎ (o ≡ Some u → ⊥) → pixel_at r x y ≡ pixel_at s x y
pixel_before s r w u t x y is now (panes, pixels, corner, tree) touched o was (inl same) = (pixels x y (inl (was ∙ same))).1
pixel_before s r w u t x y is now own touched (Some v) was (inr differs) =
    let there : SamePart s r (pane v) = touched (pane v) (v, refl, inr (x, y, inl was, λ e. differs (sym was ∙ sym e ∙ now))) in
    (there.1 x y (inl was)).1
pixel_before s r w u t x y is now own touched None was (inr differs) =
    is.two x y (ap (λ (d : Desk). owner_at d.windows x y) is.desk ∙ was) ∙ is.screens.pixels x y ∙ sym (is.one x y was)

same_ruled : (f g : Cell → Cell) (o q : Option Cell) → q ≡ o → ((c : Cell) → g c ≡ f c) → option_map g q ≡ option_map f o
same_ruled f g (Some c) q e h = ap (option_map g) e ∙ ap Some (h c)
same_ruled f g None q e h = ap (option_map g) e

changed_pixel : (s : State) (w : ℕ) (change : Change) (new : Desk) (x y : ℤ) → new.windows.width ≡ width_of s → pixel_at (changed_to s w change (Ok new)) x y ≡ option_map (changed_cell s.desk new (view_colors s) w change (pixel_at s) x y) (pixel_at s x y)
changed_pixel s w change new x y width =
    let rule : Lookup → ℤ → ℤ → Cell → Cell = changed_cell s.desk new (view_colors s) w change in
    ap (λ n. cell_at n (each_cell (width_of s) rule s.screen) x y) width ∙ cell_by (width_of s) rule s.screen x y

now_owned : (new : Desk) (u : ℕ) (x y : ℤ) → (owner_at new.windows x y ≡ Some u) ⊎ (owner_at new.windows x y ≡ Some u) → owner_at new.windows x y ≡ Some u
now_owned new u x y (inl e) = e
now_owned new u x y (inr e) = e

changed_pixels : (s r : State) (w u : ℕ) (change : Change) (new : Desk) → SameDesk s r → new.windows.width ≡ width_of s → SamePart s r (pane u) → ((p : Part) → TouchesPanes s (changed_to s w change (Ok new)) w p → SamePart s r p) → SamePixels (changed_to s w change (Ok new)) (changed_to r w change (Ok new)) u
changed_pixels s r w u change new is width own touched x y o =
    let now : owner_at new.windows x y ≡ Some u = now_owned new u x y o in
    let first : SamePart s r (pane w) = touched (pane w) (w, refl, inl refl) in
    let colors : (v : ℕ) → SamePart s r (pane v) → slice_get (view_colors r) v ≡ slice_get (view_colors s) v = λ v same. same_map (λ (p : Pane). p.colors) s.panes r.panes v same.0 in
    let before : pixel_at r x y ≡ pixel_at s x y = pixel_before s r w u (changed_to s w change (Ok new)) x y is now own touched (owner_in s x y) refl (dec_owner (owner_in s x y) (Some u)) in (
      refl,
      changed_pixel r w change new x y (width ∙ sym is.screens.width)
          ∙ same_ruled (changed_cell s.desk new (view_colors s) w change (pixel_at s) x y) (changed_cell r.desk new (view_colors r) w change (pixel_at r) x y) (pixel_at s x y) (pixel_at r x y) before
          (λ c. ap (λ d. changed_cell d new (view_colors r) w change (pixel_at r) x y c) is.desk
          ∙ same_changed s.desk new (view_colors s) (view_colors r) w u change (pixel_at s) (pixel_at r) x y c now (colors u own) (colors w first) (λ a b e. same_old s r w a b first.1 e))
          ∙ sym (changed_pixel s w change new x y width),
    )

-- ---- all parts

same_ports : (w v : ℕ) (change : Change) (xs ys : List (Port Message)) → slice_get ys v ≡ slice_get xs v → slice_get (ports_after w change ys) v ≡ slice_get (ports_after w change xs) v
same_ports w v Close xs ys same = same_at xs ys w v _ same
same_ports w v Show xs ys same = same
same_ports w v Hide xs ys same = same
same_ports w v (MoveTo corner) xs ys same = same
same_ports w v (MoveBy dx dy) xs ys same = same
same_ports w v (ResizeTo width height) xs ys same = same
same_ports w v Activate xs ys same = same
same_ports w v (Behind front) xs ys same = same
same_ports w v (Focus view) xs ys same = same

change_keeps : (s r : State) (w : ℕ) (change : Change) (o : Result Desk ChangeFault) → SameDesk s r → KeepsCounts s.desk o → ((p : Part) → TouchesPanes s (changed_to s w change o) w p → SamePart s r p) → Keeps s r (changed_to s w change o) (changed_to r w change o)
change_keeps s r w change (Err f) is sizes touched p same = same
change_keeps s r w change (Ok new) is sizes touched desk same = refl
change_keeps s r w change (Ok new) is sizes touched input same = same
change_keeps s r w change (Ok new) is sizes touched (cell m) same = same
change_keeps s r w change (Ok new) is sizes touched (looper v) same = same
change_keeps s r w change (Ok new) is sizes touched (port v) same = same_ports w v change s.ports r.ports same
change_keeps s r w change (Ok new) is sizes touched (link v) same = same
change_keeps s r w change (Ok new) is sizes touched (pane u) (panes, pixels, corner, tree) = (panes, changed_pixels s r w u change new is sizes.sizes.width (panes, pixels, corner, tree) touched, refl, refl)

pub changed_keeps : (s r : State) (w : ℕ) (change : Change) → SameDesk s r → ((p : Part) → TouchesPanes s (changed s w change) w p → SamePart s r p) → Keeps s r (changed s w change) (changed r w change)
unfolding changed
changed_keeps s r w change is touched =
    subst (λ o. Keeps s r (changed s w change) (changed_to r w change o)) (sym (ap (λ d. desk_after d w change) is.desk))
    (change_keeps s r w change (desk_after s.desk w change) is (desk_sizes s.desk w change) touched)
