-- Windows and their views go together after a change as they did before.
use Rattle.std.specs.Prelude.{ℤ, ◌==◌, ◌⊎◌, ◌+◌, ◌-◌, min, pos, ◌+ℤ◌, ◌-ℤ◌, slice_get, slice_set, option_and_then}
use Rattle.std.specs.List.{list_all}
use Rattle.std.proofs.Common.{◌≡◌, ℕ, zero, suc, Bool, true, false, cond, List, [], ◌∷◌, ◌++◌, length, Some, None, Result, Ok, Err, arith, inl, inr, refl, sym, ap, ◌∙◌, subst}
use Rattle.std.proofs.lemmas.Bool.{cases_eq}
use Rattle.std.proofs.lemmas.Int.{ints}
use Rattle.std.proofs.lemmas.Option.{none-some, same_Some}
use Rattle.be_facts.proofs.Lists.{set_length, set_other}
use Rattle.be_geom.specs.declared.change.Change.{Change}
use Rattle.be_geom.specs.declared.change.Change.TheVariants.{Show, Hide, MoveTo, MoveBy, ResizeTo, Activate, Behind, Focus, Close}
use Rattle.be_geom.specs.declared.rect.Rect.{Rect}
use Rattle.be_geom.specs.Rects.{rect_fits, moved_rect}
use Rattle.be_stack.specs.Changes.{framed, resized_rect, hidden, activated, closed}
use Rattle.be_stack.specs.Order.{others, put_behind}
use Rattle.be_stack.specs.Windows.{Windows, with_window}
use Rattle.be_stack.specs.declared.fault.ChangeFault.{ChangeFault}
use Rattle.be_stack.specs.declared.fault.ChangeFault.TheVariants.{OffRange}
use Rattle.be_stack.specs.declared.window.Window.{Window}
use Rattle.be_stack.proofs.LawLemmas.{Shown, by_change, as_after}
use Rattle.be_views.specs.Resizing.{resized, root_frame, frame_in, frames_from, frames_after, with_frames}
use Rattle.be_views.specs.Trees.{Tree, View}
use Rattle.be_views.proofs.ResizeLemmas.{length-with_frames}
use Rattle.be_views.proofs.WayLemmas.{length-frames_after}
use Rattle.be_desk.specs.Changes.{Desk}
use Rattle.be_desk.specs.Desks.{IsPaired, IsRootIn, at_origin, root_of}
use Rattle.be_desk.proofs.DeskLemmas.{TreesAfter, IsAfter}
use Rattle.be_desk.proofs.OthersLemmas.{others_stay}
use Rattle.be_geom.proofs.RectLemmas.{same_rects}

-- ---- a resized tree

pub first_kept : (root : Rect) (tree : Tree) (f : Rect) (done : List Rect) (rest : List View) → slice_get (frames_from root tree (f ∷ done) rest) 0 ≡ Some f
first_kept root tree f done [] = refl
first_kept root tree f done (view ∷ rest) =
    first_kept root tree f (done ++ frame_in root tree (f ∷ done) view view.parent ∷ []) rest

first_frame : (root : Rect) (tree : Tree) (view : View) (rest : List View) → view.parent ≡ None → slice_get (frames_from root tree [] (view ∷ rest)) 0 ≡ Some root
first_frame root tree view rest top =
    first_kept root tree (frame_in root tree [] view view.parent) [] rest ∙ ap (λ p. Some (frame_in root tree [] view p)) top

first_view : (view : View) (rest : List View) (frames : List Rect) (f : Rect) → slice_get frames 0 ≡ Some f → slice_get (with_frames (view ∷ rest) frames) 0 ≡ Some (record view { frame = f })
first_view view rest [] f e = cc
first_view view rest (g ∷ frames) f e = ap (λ (r : Rect). Some (record view { frame = r })) (same_Some g f e)

-- it is whole, and its frames are the new ones
pub fitting : (tree next : Tree) (width height : ℤ) → resized tree width height ≡ Some next → next ≡ with_frames tree (frames_after tree width height)
unfolding resized
fitting tree next width height e = by_test (list_all rect_fits (frames_after tree width height)) e
  where
    by_test : (b : Bool) → cond b (Some (with_frames tree (frames_after tree width height))) None ≡ Some next → next ≡ with_frames tree (frames_after tree width height)
    by_test true e = sym (same_Some _ next e)
    by_test false e = cc

pub resized_many : (tree next : Tree) (width height : ℤ) → resized tree width height ≡ Some next → length next ≡ length tree
resized_many tree next width height e =
    let long = length-frames_after tree width height in
    ap (λ (t : Tree). length t) (fitting tree next width height e) ∙ length-with_frames tree (frames_after tree width height) (omega arith)

-- its root lies in no view, where the tree's does, and has the window's new size
resized_root : (tree next : Tree) (width height : ℤ) (root : View) → resized tree width height ≡ Some next → slice_get next 0 ≡ Some root → ((view : View) → slice_get tree 0 ≡ Some view → view.parent ≡ None) → (root.parent ≡ None) × (root.frame ≡ root_frame width height)
resized_root [] next width height root e got top =
    absurd (none-some root (ap (λ (t : Tree). slice_get t 0) (sym (fitting [] next width height e)) ∙ got))
resized_root (view ∷ rest) next width height root e got top =
    let frames = first_frame (root_frame width height) (view ∷ rest) view rest (top view refl) in
    let is = ap (λ (t : Tree). slice_get t 0) (fitting (view ∷ rest) next width height e) ∙ first_view view rest (frames_after (view ∷ rest) width height) (root_frame width height) frames in
    let same = same_Some _ root (sym is ∙ got) in
    (sym (ap (λ (v : View). v.parent) same) ∙ top view refl, sym (ap (λ (v : View). v.frame) same))

-- ---- lists of which one element is another now

set_got : {A : Type 0} (xs : List A) (w : ℕ) (x y : A) → slice_get (slice_set xs w x) w ≡ Some y → x ≡ y
set_got [] w x y e = absurd (none-some y e)
set_got (z ∷ zs) zero x y e = same_Some x y e
set_got (z ∷ zs) (suc w) x y e = set_got zs w x y e

pub set_there : {A : Type 0} (xs : List A) (w : ℕ) (x y : A) → slice_get xs w ≡ Some y → slice_get (slice_set xs w x) w ≡ Some x
set_there [] w x y e = absurd (none-some y e)
set_there (z ∷ zs) zero x y e = refl
set_there (z ∷ zs) (suc w) x y e = set_there zs w x y e

-- ---- the frame of the changed window

-- a resize gives it the new size, all else leaves its size
abbrev FramedBy : Change → Window → Window → Type 0
FramedBy (ResizeTo width height) old new = new.frame ≡ resized_rect old.frame width height
FramedBy Show old new = at_origin new.frame ≡ at_origin old.frame
FramedBy Hide old new = at_origin new.frame ≡ at_origin old.frame
FramedBy (MoveTo corner) old new = at_origin new.frame ≡ at_origin old.frame
FramedBy (MoveBy dx dy) old new = at_origin new.frame ≡ at_origin old.frame
FramedBy Activate old new = at_origin new.frame ≡ at_origin old.frame
FramedBy (Behind front) old new = at_origin new.frame ≡ at_origin old.frame
FramedBy (Focus view) old new = at_origin new.frame ≡ at_origin old.frame
FramedBy Close old new = at_origin new.frame ≡ at_origin old.frame

abbrev FrameAfter : Windows → ℕ → Change → Windows → Type 0
FrameAfter s w change t = (new : Window) → slice_get t.windows w ≡ Some new → (old : Window) × ((slice_get s.windows w ≡ Some old) × FramedBy change old new)

moved_origin : (r : Rect) (dx dy : ℤ) → at_origin (moved_rect r dx dy) ≡ at_origin r
moved_origin r dx dy =
    same_rects ((r.left +ℤ dx) +ℤ (pos 0 -ℤ (r.left +ℤ dx))) (r.left +ℤ (pos 0 -ℤ r.left)) ((r.top +ℤ dy) +ℤ (pos 0 -ℤ (r.top +ℤ dy))) (r.top +ℤ (pos 0 -ℤ r.top)) ((r.right +ℤ dx) +ℤ (pos 0 -ℤ (r.left +ℤ dx))) (r.right +ℤ (pos 0 -ℤ r.left)) ((r.bottom +ℤ dy) +ℤ (pos 0 -ℤ (r.top +ℤ dy))) (r.bottom +ℤ (pos 0 -ℤ r.top)) (omega (arith, ints)) (omega (arith, ints)) (omega (arith, ints)) (omega (arith, ints))

resized_origin : (r : Rect) (width height : ℤ) → root_frame width height ≡ at_origin (resized_rect r width height)
resized_origin r width height =
    same_rects (pos 0) (r.left +ℤ (pos 0 -ℤ r.left)) (pos 0) (r.top +ℤ (pos 0 -ℤ r.top)) width ((r.left +ℤ width) +ℤ (pos 0 -ℤ r.left)) height ((r.top +ℤ height) +ℤ (pos 0 -ℤ r.top)) (omega (arith, ints)) (omega (arith, ints)) (omega (arith, ints)) (omega (arith, ints))

-- where only something else is kept of the window
put_frame : (s : Windows) (w : ℕ) (change : Change) (old put : Window) → Some old ≡ slice_get s.windows w → FramedBy change old put → (t : Windows) → t.windows ≡ slice_set s.windows w put → FrameAfter s w change t
put_frame s w change old put there framed t is new got =
    (old, (sym there, subst (λ (x : Window). FramedBy change old x) (set_got s.windows w put new (ap (λ (l : List Window). slice_get l w) (sym is) ∙ got)) framed))

-- where the windows stay
same_frame : (s : Windows) (w : ℕ) (change : Change) (old : Window) → Some old ≡ slice_get s.windows w → FramedBy change old old → (t : Windows) → t.windows ≡ s.windows → FrameAfter s w change t
same_frame s w change old there framed t is new got =
    (old, (sym there, subst (λ (x : Window). FramedBy change old x) (same_Some old new (there ∙ ap (λ (l : List Window). slice_get l w) (sym is) ∙ got)) framed))

-- the same of what the change gives
put_as : (s : Windows) (w : ℕ) (change : Change) (old put : Window) (given t : Windows) → ◌≡◌ {A = Result Windows ChangeFault} (Ok given) (Ok t) → given.windows ≡ slice_set s.windows w put → Some old ≡ slice_get s.windows w → FramedBy change old put → FrameAfter s w change t
put_as s w change old put given t e is there framed =
    as_after (FrameAfter s w change) given t e (put_frame s w change old put there framed given is)

same_as : (s : Windows) (w : ℕ) (change : Change) (old : Window) (given t : Windows) → ◌≡◌ {A = Result Windows ChangeFault} (Ok given) (Ok t) → given.windows ≡ s.windows → Some old ≡ slice_get s.windows w → FramedBy change old old → FrameAfter s w change t
same_as s w change old given t e is there framed =
    as_after (FrameAfter s w change) given t e (same_frame s w change old there framed given is)

-- a frame that stays in the range
in_range_frame : (b : Bool) (s t : Windows) (w : ℕ) (change : Change) (old : Window) (r : Rect) → Some old ≡ slice_get s.windows w → FramedBy change old (record old { frame = r }) → framed s w old (cond b (Ok r) (Err OffRange)) ≡ Ok t → FrameAfter s w change t
in_range_frame true s t w change old r there is e =
    put_as s w change old (record old { frame = r }) (with_window s w (record old { frame = r })) t e refl there is
in_range_frame false s t w change old r there is e = cc

behind_frame : (b : Bool) (s t : Windows) (w front : ℕ) (order : List ℕ) (old : Window) → Some old ≡ slice_get s.windows w → ◌≡◌ {A = Result Windows ChangeFault} (Ok (cond b s (record s { order = order }))) (Ok t) → FrameAfter s w (Behind front) t
behind_frame true s t w front order old there e = same_as s w (Behind front) old s t e refl there refl
behind_frame false s t w front order old there e = same_as s w (Behind front) old (record s { order = order }) t e refl there refl

frame_after_change : (s t : Windows) (w : ℕ) (change : Change) → Shown (FrameAfter s w change) s t w change
frame_after_change s t w Show old there opened e =
    let put : Window = record old { hides = old.hides - 1 } in
    put_as s w Show old put (with_window s w put) t e refl there refl
frame_after_change s t w Hide old there opened e =
    let put : Window = record old { hides = min (old.hides + 1) 4294967295 } in
    put_as s w Hide old put (hidden s w old) t e refl there refl
frame_after_change s t w (MoveTo corner) old there opened e =
    let r : Rect = moved_rect old.frame (corner.x -ℤ old.frame.left) (corner.y -ℤ old.frame.top) in
    in_range_frame (rect_fits r) s t w (MoveTo corner) old r there (moved_origin old.frame (corner.x -ℤ old.frame.left) (corner.y -ℤ old.frame.top)) e
frame_after_change s t w (MoveBy dx dy) old there opened e =
    in_range_frame (rect_fits (moved_rect old.frame dx dy)) s t w (MoveBy dx dy) old (moved_rect old.frame dx dy) there (moved_origin old.frame dx dy) e
frame_after_change s t w (ResizeTo width height) old there opened e =
    in_range_frame (rect_fits (resized_rect old.frame width height)) s t w (ResizeTo width height) old (resized_rect old.frame width height) there refl e
frame_after_change s t w Activate old there opened e = same_as s w Activate old (activated s w old) t e refl there refl
frame_after_change s t w (Behind front) old there opened e =
    behind_frame (w == front) s t w front (put_behind front w (others w s.order)) old there e
frame_after_change s t w (Focus view) old there opened e = same_as s w (Focus view) old s t e refl there refl
frame_after_change s t w Close old there opened e =
    let put : Window = record old { closed = true } in put_as s w Close old put (closed s w old) t e refl there refl

-- ---- the desk

-- the root of the changed window
stays_root : (old_trees new_trees : List Tree) (w : ℕ) (old new : Window) (root : View) → ((r : View) → root_of old_trees w ≡ Some r → IsRootIn old r) → new_trees ≡ old_trees → at_origin new.frame ≡ at_origin old.frame → root_of new_trees w ≡ Some root → IsRootIn new root
stays_root old_trees new_trees w old new root rooted trees frame got =
    let is = rooted root (ap (λ (l : List Tree). root_of l w) (sym trees) ∙ got) in
    record { top = is.top; frame = is.frame ∙ sym frame }

own_root : (change : Change) (old_trees new_trees : List Tree) (w : ℕ) (old new : Window) (root : View) → ((r : View) → root_of old_trees w ≡ Some r → IsRootIn old r) → TreesAfter old_trees new_trees w change → FramedBy change old new → root_of new_trees w ≡ Some root → IsRootIn new root
own_root (ResizeTo width height) old_trees new_trees w old new root rooted trees frame got =
    let here = ap (option_and_then (λ (t : Tree). slice_get t 0)) (set_there old_trees w trees.1 trees.0 trees.2) in
    let is = resized_root trees.0 trees.1 width height root trees.3 (sym here ∙ ap (λ (l : List Tree). root_of l w) (sym trees.4) ∙ got) (λ view e. (rooted view (ap (option_and_then (λ (t : Tree). slice_get t 0)) trees.2 ∙ e)).top) in
    record { top = is.0; frame = is.1 ∙ resized_origin old.frame width height ∙ ap at_origin (sym frame) }
own_root Show a b w old new root rooted trees frame got = stays_root a b w old new root rooted trees frame got
own_root Hide a b w old new root rooted trees frame got = stays_root a b w old new root rooted trees frame got
own_root (MoveTo corner) a b w old new root rooted trees frame got = stays_root a b w old new root rooted trees frame got
own_root (MoveBy dx dy) a b w old new root rooted trees frame got = stays_root a b w old new root rooted trees frame got
own_root Activate a b w old new root rooted trees frame got = stays_root a b w old new root rooted trees frame got
own_root (Behind front) a b w old new root rooted trees frame got = stays_root a b w old new root rooted trees frame got
own_root (Focus view) a b w old new root rooted trees frame got = stays_root a b w old new root rooted trees frame got
own_root Close a b w old new root rooted trees frame got = stays_root a b w old new root rooted trees frame got

-- the views of the other windows, and how many there are
pub other_trees : (change : Change) (old new : List Tree) (w : ℕ) → TreesAfter old new w change → (length new ≡ length old) × ((u : ℕ) → (u ≡ w → ⊥) → slice_get new u ≡ slice_get old u)
other_trees (ResizeTo width height) old new w trees = (
  ap (λ (l : List Tree). length l) trees.4 ∙ set_length old w trees.1,
  λ u other. ap (λ (l : List Tree). slice_get l u) trees.4 ∙ set_other old w u trees.1 other,
)
other_trees Show old new w same = (ap (λ (l : List Tree). length l) same, λ u other. ap (λ (l : List Tree). slice_get l u) same)
other_trees Hide old new w same = (ap (λ (l : List Tree). length l) same, λ u other. ap (λ (l : List Tree). slice_get l u) same)
other_trees (MoveTo corner) old new w same = (ap (λ (l : List Tree). length l) same, λ u other. ap (λ (l : List Tree). slice_get l u) same)
other_trees (MoveBy dx dy) old new w same = (ap (λ (l : List Tree). length l) same, λ u other. ap (λ (l : List Tree). slice_get l u) same)
other_trees Activate old new w same = (ap (λ (l : List Tree). length l) same, λ u other. ap (λ (l : List Tree). slice_get l u) same)
other_trees (Behind front) old new w same = (ap (λ (l : List Tree). length l) same, λ u other. ap (λ (l : List Tree). slice_get l u) same)
other_trees (Focus view) old new w same = (ap (λ (l : List Tree). length l) same, λ u other. ap (λ (l : List Tree). slice_get l u) same)
other_trees Close old new w same = (ap (λ (l : List Tree). length l) same, λ u other. ap (λ (l : List Tree). slice_get l u) same)

rooted_after : (before after : Desk) (w : ℕ) (change : Change) → IsPaired before → IsAfter before after w change → (u : ℕ) → (u ≡ w) ⊎ (u ≡ w → ⊥) → (window : Window) (root : View) → slice_get after.windows.windows u ≡ Some window → root_of after.pointing.trees u ≡ Some root → IsRootIn window root
rooted_after before after w change paired is u (inl same) window root got top =
    let framed = by_change (FrameAfter before.windows w change) before.windows after.windows w change (frame_after_change before.windows after.windows w change) is.windows window (ap (slice_get after.windows.windows) (sym same) ∙ got) in
    own_root change before.pointing.trees after.pointing.trees w framed.0 window root (λ r at. paired.rooted w framed.0 r framed.1.0 at) is.trees framed.1.1 (ap (root_of after.pointing.trees) (sym same) ∙ top)
rooted_after before after w change paired is u (inr other) window root got top =
    let stay = others_stay before.windows after.windows w change is.windows in
    let trees = (other_trees change before.pointing.trees after.pointing.trees w is.trees).1 u other in
    paired.rooted u window root (sym (stay.windows u other) ∙ got) (ap (option_and_then (λ (t : Tree). slice_get t 0)) (sym trees) ∙ top)

pub paired_after : (before after : Desk) (w : ℕ) (change : Change) → IsPaired before → IsAfter before after w change → IsPaired after
paired_after before after w change paired is = record {
  each = (other_trees change before.pointing.trees after.pointing.trees w is.trees).0 ∙ paired.each ∙ sym (others_stay before.windows after.windows w change is.windows).many;
  rooted = λ u. rooted_after before after w change paired is u (cases_eq u w);
}
