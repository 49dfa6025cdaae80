-- A change keeps roots that cover their windows, and how many views each window has.
use Rattle.std.proofs.Common.{◌≡◌, ℕ, Bool, true, false, List, length, Option, Some, None, Result, Ok, Err, refl, sym, ap, subst, ◌∙◌, arith}
use Rattle.std.specs.Prelude.{ℤ, ◌-ℤ◌, slice_get, option_and_then, if◌then◌else◌}
use Rattle.std.proofs.lemmas.Int.{ints}
use Rattle.be_desk.specs.Changes.{Desk, desk_after, desk_with, desk_unless, with_tree}
use Rattle.be_geom.specs.declared.change.Change.{Change}
use Rattle.be_geom.specs.declared.change.Change.TheVariants.{Show, Hide, MoveTo, MoveBy, ResizeTo, Activate, Behind, Focus, Close}
use Rattle.be_geom.specs.declared.rect.Rect.{Rect}
use Rattle.be_geom.specs.Rects.{rect_fits}
use Rattle.be_stack.specs.Changes as stack
use Rattle.be_stack.specs.Changes.{within_range, resized_rect, windows_after, is_gone}
use Rattle.be_stack.specs.declared.fault.ChangeFault.{ChangeFault}
use Rattle.be_stack.specs.declared.fault.ChangeFault.TheVariants.{OffRange, Gone}
use Rattle.be_stack.specs.declared.window.Window.{Window}
use Rattle.be_stack.specs.Windows.{Windows, with_window}
use Rattle.be_views.specs.Resizing.{resized}
use Rattle.be_views.specs.Trees.{Tree}
use Rattle.be_desk.proofs.PairedLemmas.{resized_many}
use Rattle.be_machine.proofs.Fitted.{SetRead, here, elsewhere, set_read, IsFit, AreFit, fit_by, resized_fit, KeepsExtents, is_resize, windows_extents}
use Rattle.be_machine.proofs.Found.{IsChained, chained}

-- each tree has as many views as the one that was there
abbrev pub AsManyViews : List Tree → List Tree → Type 0
AsManyViews old new = (w : ℕ) (tree : Tree) → slice_get new w ≡ Some tree → (before : Tree) × ((slice_get old w ≡ Some before) × (length tree ≡ length before))

pub record StaysFit (desk new : Desk) : Type 0 where
  pub fit : AreFit new.windows.windows new.pointing.trees
  pub views : AsManyViews desk.pointing.trees new.pointing.trees

abbrev pub FitAfter : Desk → Result Desk ChangeFault → Type 0
FitAfter desk (Ok new) = StaysFit desk new
FitAfter desk (Err f) = Unit {0}

same_views : (trees : List Tree) → AsManyViews trees trees
same_views trees w tree read = (tree, (read, refl))

-- ---- other changes

still_fit : (old new : List Window) (trees : List Tree) (s t : Windows) → s.windows ≡ old → t.windows ≡ new → KeepsExtents old (Ok t) → AreFit old trees → AreFit new trees
still_fit old new trees s t was is keeps h w b tree read there =
    let from = keeps w b (ap (λ (l : List Window). slice_get l w) is ∙ read) in
    fit_by from.0 b tree from.1.1 (h w from.0 tree from.1.0 there)

quiet_fit : (desk : Desk) (windows : Windows) (new : Desk) → new.windows ≡ windows → new.pointing.trees ≡ desk.pointing.trees → KeepsExtents desk.windows.windows (Ok windows) → AreFit desk.windows.windows desk.pointing.trees → StaysFit desk new
quiet_fit desk windows new is same keeps h = record {
  fit = subst (AreFit new.windows.windows) (sym same) (still_fit desk.windows.windows new.windows.windows desk.pointing.trees desk.windows windows refl (sym (ap (λ (x : Windows). x.windows) is)) keeps h);
  views = subst (AsManyViews desk.pointing.trees) (sym same) (same_views desk.pointing.trees);
}

quiet_with : (desk : Desk) (u : ℕ) (windows : Windows) (change : Change) → is_resize change ≡ false → KeepsExtents desk.windows.windows (Ok windows) → AreFit desk.windows.windows desk.pointing.trees → FitAfter desk (desk_with desk u windows change)
quiet_with desk u windows (ResizeTo width height) quiet keeps h = cc
quiet_with desk u windows (Focus view) quiet keeps h = quiet_fit desk windows _ refl refl keeps h
quiet_with desk u windows Show quiet keeps h = quiet_fit desk windows _ refl refl keeps h
quiet_with desk u windows Hide quiet keeps h = quiet_fit desk windows _ refl refl keeps h
quiet_with desk u windows (MoveTo corner) quiet keeps h = quiet_fit desk windows _ refl refl keeps h
quiet_with desk u windows (MoveBy dx dy) quiet keeps h = quiet_fit desk windows _ refl refl keeps h
quiet_with desk u windows Activate quiet keeps h = quiet_fit desk windows _ refl refl keeps h
quiet_with desk u windows (Behind other) quiet keeps h = quiet_fit desk windows _ refl refl keeps h
quiet_with desk u windows Close quiet keeps h = quiet_fit desk windows _ refl refl keeps h

quiet_unless : (desk : Desk) (u : ℕ) (change : Change) (r : Result Windows ChangeFault) → is_resize change ≡ false → KeepsExtents desk.windows.windows r → AreFit desk.windows.windows desk.pointing.trees → FitAfter desk (desk_unless desk u change r)
quiet_unless desk u change (Ok windows) quiet keeps h = quiet_with desk u windows change quiet keeps h
quiet_unless desk u change (Err f) quiet keeps h = tt

-- ---- a resize

both_set : (windows : List Window) (trees : List Tree) (u w : ℕ) (old new b : Window) (before after tree : Tree) (width height : ℤ) → slice_get windows u ≡ Some old → slice_get trees u ≡ Some before → resized before width height ≡ Some after → new.frame ≡ resized_rect old.frame width height → AreFit windows trees → SetRead windows u w new b → SetRead trees u w after tree → IsFit b tree
both_set windows trees u w old new b before after tree width height there at is frame h (here same is_b) (here _ is_tree) =
    let fit : IsFit new after = resized_fit old new before after width height (h u old before there at) is (ap (λ (r : Rect). r.right -ℤ r.left) frame ∙ omega (arith, ints)) (ap (λ (r : Rect). r.bottom -ℤ r.top) frame ∙ omega (arith, ints)) in
    subst (λ x. IsFit x tree) is_b (subst (IsFit new) is_tree fit)
both_set windows trees u w old new b before after tree width height there at is frame h (here same is_b) (elsewhere other read) = absurd (other same)
both_set windows trees u w old new b before after tree width height there at is frame h (elsewhere other read) (here same is_tree) = absurd (other same)
both_set windows trees u w old new b before after tree width height there at is frame h (elsewhere other read) (elsewhere _ tree_read) = h w b tree read tree_read

one_set : (trees : List Tree) (u w : ℕ) (before after tree : Tree) → slice_get trees u ≡ Some before → length after ≡ length before → SetRead trees u w after tree → (x : Tree) × ((slice_get trees w ≡ Some x) × (length tree ≡ length x))
one_set trees u w before after tree at same (here is is_tree) = (before, (ap (slice_get trees) (sym is) ∙ at, ap (λ (t : Tree). length t) (sym is_tree) ∙ same))
one_set trees u w before after tree at same (elsewhere other read) = (tree, (read, refl))

tree_fit : (desk : Desk) (u : ℕ) (old : Window) (width height : ℤ) (o : Option Tree) → slice_get desk.windows.windows u ≡ Some old → option_and_then (λ tree. resized tree width height) (slice_get desk.pointing.trees u) ≡ o → AreFit desk.windows.windows desk.pointing.trees → FitAfter desk (with_tree desk (with_window desk.windows u (record old { frame = resized_rect old.frame width height })) u o)
tree_fit desk u old width height (Some after) there e h =
    let from : IsChained (λ tree. resized tree width height) (slice_get desk.pointing.trees u) after = chained (λ (tree : Tree). resized tree width height) (slice_get desk.pointing.trees u) after e in
    let new : Window = record old { frame = resized_rect old.frame width height } in
    record {
      fit = λ w b tree read at.
          both_set desk.windows.windows desk.pointing.trees u w old new b from.from after tree width height there from.read from.is refl h
          (set_read desk.windows.windows u w new b read) (set_read desk.pointing.trees u w after tree at);
      views = λ w tree at. one_set desk.pointing.trees u w from.from after tree from.read (resized_many from.from after width height from.is) (set_read desk.pointing.trees u w after tree at);
    }
tree_fit desk u old width height None there e h = tt

resize_if : (desk : Desk) (u : ℕ) (old : Window) (width height : ℤ) (b : Bool) → slice_get desk.windows.windows u ≡ Some old → AreFit desk.windows.windows desk.pointing.trees → FitAfter desk (desk_unless desk u (ResizeTo width height) (stack.framed desk.windows u old (if b then Ok (resized_rect old.frame width height) else Err OffRange)))
resize_if desk u old width height true there h = tree_fit desk u old width height _ there refl h
resize_if desk u old width height false there h = tt

resize_at : (desk : Desk) (u : ℕ) (o : Option Window) (width height : ℤ) → slice_get desk.windows.windows u ≡ o → AreFit desk.windows.windows desk.pointing.trees → FitAfter desk (desk_unless desk u (ResizeTo width height) (stack.changed_at desk.windows u o (ResizeTo width height)))
resize_at desk u (Some old) width height there h = resize_if desk u old width height (rect_fits (resized_rect old.frame width height)) there h
resize_at desk u None width height there h = tt

resize_gone : (desk : Desk) (u : ℕ) (b : Bool) (change : Change) (r : Result Windows ChangeFault) → FitAfter desk (desk_unless desk u change r) → FitAfter desk (desk_unless desk u change (if b then Err Gone else r))
resize_gone desk u true change r h = tt
resize_gone desk u false change r h = h

-- ---- any change

pub desk_fit : (desk : Desk) (u : ℕ) (change : Change) → AreFit desk.windows.windows desk.pointing.trees → FitAfter desk (desk_after desk u change)
unfolding desk_after windows_after
desk_fit desk u (ResizeTo width height) h = resize_gone desk u (is_gone desk.windows.windows u (ResizeTo width height)) (ResizeTo width height) _ (resize_at desk u (slice_get desk.windows.windows u) width height refl h)
desk_fit desk u Show h = quiet_unless desk u Show _ refl (windows_extents desk.windows u Show refl) h
desk_fit desk u Hide h = quiet_unless desk u Hide _ refl (windows_extents desk.windows u Hide refl) h
desk_fit desk u (MoveTo corner) h = quiet_unless desk u (MoveTo corner) _ refl (windows_extents desk.windows u (MoveTo corner) refl) h
desk_fit desk u (MoveBy dx dy) h = quiet_unless desk u (MoveBy dx dy) _ refl (windows_extents desk.windows u (MoveBy dx dy) refl) h
desk_fit desk u Activate h = quiet_unless desk u Activate _ refl (windows_extents desk.windows u Activate refl) h
desk_fit desk u (Behind other) h = quiet_unless desk u (Behind other) _ refl (windows_extents desk.windows u (Behind other) refl) h
desk_fit desk u (Focus view) h = quiet_unless desk u (Focus view) _ refl (windows_extents desk.windows u (Focus view) refl) h
desk_fit desk u Close h = quiet_unless desk u Close _ refl (windows_extents desk.windows u Close refl) h
