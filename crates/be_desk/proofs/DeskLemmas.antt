-- The desk after a change: its windows, its views, and that they go together.
use Rattle.std.specs.Prelude.{slice_get, slice_set, option_and_then}
use Rattle.std.proofs.Common.{◌≡◌, ℕ, List, Option, Some, None, Result, Ok, Err, refl, sym, ap}
use Rattle.be_geom.specs.declared.change.Change.{Change}
use Rattle.be_geom.specs.declared.change.Change.TheVariants.{Show, Hide, MoveTo, MoveBy, ResizeTo, Activate, Behind, Focus, Close}
use Rattle.be_stack.specs.Changes.{windows_after}
use Rattle.be_stack.specs.Windows.{Windows}
use Rattle.be_stack.specs.declared.fault.ChangeFault.{ChangeFault}
use Rattle.be_views.specs.Resizing.{resized}
use Rattle.be_views.specs.Trees.{Tree}
use Rattle.be_desk.specs.Changes.{Desk, desk_after, desk_unless, desk_with, with_tree}

-- ---- what a change makes of the views

-- the views of window w after a resize; all others stay
abbrev pub TreesAfter : List Tree → List Tree → ℕ → Change → Type 0
TreesAfter old new w (ResizeTo width height) = (tree : Tree) × (next : Tree) × (slice_get old w ≡ Some tree) × (resized tree width height ≡ Some next) × (new ≡ slice_set old w next)
TreesAfter old new w Show = new ≡ old
TreesAfter old new w Hide = new ≡ old
TreesAfter old new w (MoveTo corner) = new ≡ old
TreesAfter old new w (MoveBy dx dy) = new ≡ old
TreesAfter old new w Activate = new ≡ old
TreesAfter old new w (Behind front) = new ≡ old
TreesAfter old new w (Focus view) = new ≡ old
TreesAfter old new w Close = new ≡ old

pub record IsAfter (before after : Desk) (w : ℕ) (change : Change) : Type 0 where
  pub windows : windows_after before.windows w change ≡ Ok after.windows
  pub trees : TreesAfter before.pointing.trees after.pointing.trees w change

same_ok : {A : Type 0} (a b : A) → ◌≡◌ {A = Result A ChangeFault} (Ok a) (Ok b) → a ≡ b
same_ok a b e = cc

no_tree : (desk after : Desk) (windows : Windows) (w : ℕ) (o : Option Tree) (f : Tree → Option Tree) → with_tree desk windows w (option_and_then f o) ≡ Ok after → (tree : Tree) × (next : Tree) × (o ≡ Some tree) × (f tree ≡ Some next) × (after.windows ≡ windows) × (after.pointing.trees ≡ slice_set desk.pointing.trees w next)
no_tree desk after windows w None f e = cc
no_tree desk after windows w (Some tree) f e = in_tree desk after windows w tree f (f tree) refl e
  where
    in_tree : (desk after : Desk) (windows : Windows) (w : ℕ) (tree : Tree) (f : Tree → Option Tree) (found : Option Tree) → f tree ≡ found → with_tree desk windows w found ≡ Ok after → (t : Tree) × (next : Tree) × (◌≡◌ {A = Option Tree} (Some tree) (Some t)) × (f t ≡ Some next) × (after.windows ≡ windows) × (after.pointing.trees ≡ slice_set desk.pointing.trees w next)
    in_tree desk after windows w tree f None is e = cc
    in_tree desk after windows w tree f (Some next) is e =
        let same : record { windows = windows; pointing = record desk.pointing { trees = slice_set desk.pointing.trees w next } } ≡ after = same_ok _ after e in
        (tree, next, refl, is, sym (ap (λ (d : Desk). d.windows) same), sym (ap (λ (d : Desk). d.pointing.trees) same))

with_change : (desk after : Desk) (w : ℕ) (windows : Windows) (change : Change) → desk_with desk w windows change ≡ Ok after → (after.windows ≡ windows) × TreesAfter desk.pointing.trees after.pointing.trees w change
with_change desk after w windows (ResizeTo width height) e =
    let p = no_tree desk after windows w (slice_get desk.pointing.trees w) (λ tree. resized tree width height) e in
    (p.4, (p.0, p.1, p.2, p.3, p.5))
with_change desk after w windows (Focus view) e =
    let same = same_ok _ after e in (sym (ap (λ (d : Desk). d.windows) same), sym (ap (λ (d : Desk). d.pointing.trees) same))
with_change desk after w windows Show e =
    let same = same_ok _ after e in (sym (ap (λ (d : Desk). d.windows) same), sym (ap (λ (d : Desk). d.pointing.trees) same))
with_change desk after w windows Hide e =
    let same = same_ok _ after e in (sym (ap (λ (d : Desk). d.windows) same), sym (ap (λ (d : Desk). d.pointing.trees) same))
with_change desk after w windows (MoveTo corner) e =
    let same = same_ok _ after e in (sym (ap (λ (d : Desk). d.windows) same), sym (ap (λ (d : Desk). d.pointing.trees) same))
with_change desk after w windows (MoveBy dx dy) e =
    let same = same_ok _ after e in (sym (ap (λ (d : Desk). d.windows) same), sym (ap (λ (d : Desk). d.pointing.trees) same))
with_change desk after w windows Activate e =
    let same = same_ok _ after e in (sym (ap (λ (d : Desk). d.windows) same), sym (ap (λ (d : Desk). d.pointing.trees) same))
with_change desk after w windows (Behind front) e =
    let same = same_ok _ after e in (sym (ap (λ (d : Desk). d.windows) same), sym (ap (λ (d : Desk). d.pointing.trees) same))
with_change desk after w windows Close e =
    let same = same_ok _ after e in (sym (ap (λ (d : Desk). d.windows) same), sym (ap (λ (d : Desk). d.pointing.trees) same))

unless : (desk after : Desk) (w : ℕ) (change : Change) (r : Result Windows ChangeFault) → desk_unless desk w change r ≡ Ok after → (r ≡ Ok after.windows) × TreesAfter desk.pointing.trees after.pointing.trees w change
unless desk after w change (Ok windows) e =
    let p = with_change desk after w windows change e in (ap (λ s. Ok s) (sym p.0), p.1)
unless desk after w change (Err fault) e = cc

-- what a change that isn't refused leaves
pub is_after : (before after : Desk) (w : ℕ) (change : Change) → desk_after before w change ≡ Ok after → IsAfter before after w change
unfolding desk_after
is_after before after w change e =
    let p = unless before after w change (windows_after before.windows w change) e in record { windows = p.0; trees = p.1 }
