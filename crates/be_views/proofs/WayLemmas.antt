-- Resizes one after another, and what a resize leaves of a tree.
use Rattle.std.specs.Prelude.{slice_get}
use Rattle.std.specs.List.{list_all}
use Rattle.std.proofs.Common.{◌≡◌, ℕ, ◌+◌, ◌<◌, ◌≤◌, zero, suc, ℤ, pos, ◌↔◌, inl, inr, false, cond, List, [], ◌∷◌, ◌++◌, Option, Some, None, length, get_or, take, drop, arith, refl, sym, ap, ◌∙◌}
use Rattle.std.proofs.lemmas.Bool.{cases_lt, cond-true, cond-false, true_from_ne_false, false_from_ne_true}
use Rattle.std.proofs.lemmas.Option.{none-some, same_Some, cond_some, slice_get_past, slice_get-get_or}
use Rattle.std.proofs.lemmas.List.{append_assoc, append-nil, length_push, take_at}
use Rattle.be_geom.specs.Places.{at_pixel}
use Rattle.be_geom.specs.declared.rect.Rect.{Rect}
use Rattle.be_geom.specs.Rects.{rect_fits}
use Rattle.be_follow.proofs.WayLemmas.{any_way}
use Rattle.be_views.proofs.ResizeLemmas.{length-with_frames}
use Rattle.be_views.specs.Trees.{View, Tree, left_top, parent_of}
use Rattle.be_views.specs.Resizing.{frame_in, frame_after, frames_from, frames_after, root_frame, with_frames, resized, pixel_width, pixel_height}
use Rattle.be_views.specs.Ways.{AnyWayIsTheSame}
use Rattle.be_views.specs.Whole.{AreParentsFirst, IsTree, depth_above, depth_in, depth_from, depth_of}

-- ---- the frames of what is left

-- the new frames of the views that are left, where those of the first are known
abbrev rest_frames : Rect → Tree → List Rect → List View → List Rect
rest_frames root tree done [] = []
rest_frames root tree done (view ∷ rest) =
    frame_in root tree done view view.parent ∷ rest_frames root tree (done ++ frame_in root tree done view view.parent ∷ []) rest

from_rest : (root : Rect) (tree : Tree) (done : List Rect) (rest : List View) → frames_from root tree done rest ≡ done ++ rest_frames root tree done rest
from_rest root tree done [] = sym (append-nil done)
from_rest root tree done (view ∷ rest) =
    let f = frame_in root tree done view view.parent in
    from_rest root tree (done ++ f ∷ []) rest ∙ append_assoc done (f ∷ []) (rest_frames root tree (done ++ f ∷ []) rest)

after_is : (tree : Tree) (width height : ℤ) → frames_after tree width height ≡ rest_frames (root_frame width height) tree [] tree
after_is tree width height = from_rest (root_frame width height) tree [] tree

length-rest_frames : (root : Rect) (tree : Tree) (done : List Rect) (rest : List View) → length (rest_frames root tree done rest) ≡ length rest
length-rest_frames root tree done [] = refl
length-rest_frames root tree done (view ∷ rest) =
    ap (λ n. suc n) (length-rest_frames root tree (done ++ frame_in root tree done view view.parent ∷ []) rest)

pub length-frames_after : (tree : Tree) (width height : ℤ) → length (frames_after tree width height) ≡ length tree
length-frames_after tree width height =
    ap (λ (l : List Rect). length l) (after_is tree width height) ∙ length-rest_frames (root_frame width height) tree [] tree

-- ---- views with other frames

-- a view with a frame, if there are both
abbrev framed_by : Option View → Option Rect → Option View
framed_by (Some view) (Some frame) = Some (record view { frame = frame })
framed_by (Some view) None = None
framed_by None frame = None

no_frame : (o : Option View) → None ≡ framed_by o None
no_frame (Some view) = refl
no_frame None = refl

got-with_frames : (tree : Tree) (frames : List Rect) (p : ℕ) → slice_get (with_frames tree frames) p ≡ framed_by (slice_get tree p) (slice_get frames p)
got-with_frames [] frames p = refl
got-with_frames (view ∷ tree) [] p = no_frame (slice_get (view ∷ tree) p)
got-with_frames (view ∷ tree) (frame ∷ frames) zero = refl
got-with_frames (view ∷ tree) (frame ∷ frames) (suc p) = got-with_frames tree frames p

again-with_frames : (tree : Tree) (first frames : List Rect) → length tree ≤ length first → with_frames (with_frames tree first) frames ≡ with_frames tree frames
again-with_frames [] first frames h = refl
again-with_frames (view ∷ tree) [] frames h = absurd (omega arith)
again-with_frames (view ∷ tree) (f ∷ first) [] h = refl
again-with_frames (view ∷ tree) (f ∷ first) (frame ∷ frames) h =
    ap (λ l. record view { frame = frame } ∷ l) (again-with_frames tree first frames (omega arith))

pub front-with_frames : (tree : Tree) (frames : List Rect) → with_frames tree (take (length tree) frames) ≡ with_frames tree frames
front-with_frames [] frames = refl
front-with_frames (view ∷ tree) [] = refl
front-with_frames (view ∷ tree) (frame ∷ frames) = ap (λ l. record view { frame = frame } ∷ l) (front-with_frames tree frames)

-- ---- one view on its way

-- the view follows its parent to the frame found first and on to the one found last, or stays both times
stays_twice : (view : View) (o : Option View) (first : Option Rect) → frame_after (record view { frame = frame_after view o None }) (framed_by o first) None ≡ frame_after view o None
stays_twice view None first = refl
stays_twice view (Some parent) None = refl
stays_twice view (Some parent) (Some frame) = refl

follows_twice : (view : View) (o : Option View) (first now : Rect) → frame_after (record view { frame = frame_after view o (Some first) }) (framed_by o (Some first)) (Some now) ≡ frame_after view o (Some now)
follows_twice view None first now = refl
follows_twice view (Some parent) first now =
    any_way view.frame view.mode (pixel_width parent.frame) (pixel_height parent.frame) (pixel_width first) (pixel_height first) (pixel_width now) (pixel_height now)

same_within : (view : View) (o m : Option View) (first all now : Option Rect) (f n : Rect) → m ≡ framed_by o all → first ≡ Some f → all ≡ Some f → now ≡ Some n → frame_after (record view { frame = frame_after view o first }) m now ≡ frame_after view o now
same_within view o m first all now f n e a b k =
    ap (λ u. frame_after (record view { frame = frame_after view o first }) u now) (e ∙ ap (framed_by o) b) ∙ ap (λ u. frame_after (record view { frame = frame_after view o u }) (framed_by o (Some f)) now) a ∙ ap (λ u. frame_after (record view { frame = frame_after view o (Some f) }) (framed_by o (Some f)) u) k ∙ follows_twice view o f n ∙ ap (frame_after view o) (sym k)

same_past : (view : View) (o m : Option View) (first all now : Option Rect) → m ≡ framed_by o all → first ≡ None → now ≡ None → frame_after (record view { frame = frame_after view o first }) m now ≡ frame_after view o now
same_past view o m first all now e a k =
    ap (λ u. frame_after (record view { frame = frame_after view o first }) u now) e ∙ ap (λ u. frame_after (record view { frame = frame_after view o u }) (framed_by o all) now) a ∙ ap (λ u. frame_after (record view { frame = frame_after view o None }) (framed_by o all) u) k ∙ stays_twice view o all ∙ ap (frame_after view o) (sym k)

got_in_front : (front tail : List Rect) (p : ℕ) → p < length front → slice_get (front ++ tail) p ≡ slice_get front p
got_in_front [] tail p h = absurd (omega arith)
got_in_front (f ∷ front) tail zero h = refl
got_in_front (f ∷ front) tail (suc p) h = got_in_front front tail p (omega arith)

no_rect : Rect
no_rect = record { left = pos 0; top = pos 0; right = pos 0; bottom = pos 0 }

same_frame : (root_b root_c : Rect) (tree : Tree) (all front done tail : List Rect) (view : View) (o : Option ℕ) → all ≡ front ++ tail → length done ≡ length front → frame_in root_c (with_frames tree all) done (record view { frame = frame_in root_b tree front view o }) o ≡ frame_in root_c tree done view o
same_frame root_b root_c tree all front done tail view None e n = refl
same_frame root_b root_c tree all front done tail view (Some p) e n =
    let middle = got-with_frames tree all p in
    elim (cases_lt p (length front)) [ inl less ↦ same_within view (slice_get tree p) (slice_get (with_frames tree all) p) (slice_get front p) (slice_get all p) (slice_get done p) (get_or front p no_rect) (get_or done p no_rect) middle (slice_get-get_or front p no_rect less) (ap (λ l. slice_get l p) e ∙ got_in_front front tail p less ∙ slice_get-get_or front p no_rect less) (slice_get-get_or done p no_rect (omega arith)) | inr past ↦ same_past view (slice_get tree p) (slice_get (with_frames tree all) p) (slice_get front p) (slice_get all p) (slice_get done p) middle (slice_get_past front p past) (slice_get_past done p (omega arith)) ]

-- ---- all views on their way

going_on : (root_b root_c : Rect) (tree : Tree) (all front done : List Rect) (rest : List View) → all ≡ front ++ rest_frames root_b tree front rest → length done ≡ length front → rest_frames root_c (with_frames tree all) done (with_frames rest (rest_frames root_b tree front rest)) ≡ rest_frames root_c tree done rest
going_on root_b root_c tree all front done [] e n = refl
going_on root_b root_c tree all front done (view ∷ rest) e n =
    let f = frame_in root_b tree front view view.parent in
    let g = frame_in root_c tree done view view.parent in
    let left = rest_frames root_b tree (front ++ f ∷ []) rest in
    let same = same_frame root_b root_c tree all front done (f ∷ left) view view.parent e n in
    let a = length_push done g in
    let b = length_push front f in
    ap (λ h. h ∷ rest_frames root_c (with_frames tree all) (done ++ h ∷ []) (with_frames rest left)) same ∙ ap (λ l. g ∷ l) (going_on root_b root_c tree all (front ++ f ∷ []) (done ++ g ∷ []) rest (e ∙ sym (append_assoc front (f ∷ []) left)) (omega arith))

frames_same : (tree : Tree) (b_w b_h c_w c_h : ℤ) → frames_after (with_frames tree (frames_after tree b_w b_h)) c_w c_h ≡ frames_after tree c_w c_h
frames_same tree b_w b_h c_w c_h =
    let all = frames_after tree b_w b_h in
    let root = root_frame c_w c_h in
    after_is (with_frames tree all) c_w c_h ∙ ap (λ l. rest_frames root (with_frames tree all) [] (with_frames tree l)) (after_is tree b_w b_h) ∙ going_on (root_frame b_w b_h) root tree all [] [] tree (after_is tree b_w b_h) refl ∙ sym (after_is tree c_w c_h)

pub any_resizes : AnyWayIsTheSame
unfolding resized
any_resizes tree middle b_w b_h c_w c_h h =
    let all = frames_after tree b_w b_h in
    let last = frames_after tree c_w c_h in
    let is : with_frames tree all ≡ middle = (cond_some (list_all rect_fits all) (with_frames tree all) middle h).1 in
    let long = length-frames_after tree b_w b_h in
    ap (λ t. cond (list_all rect_fits (frames_after t c_w c_h)) (Some (with_frames t (frames_after t c_w c_h))) None) (sym is) ∙ ap (λ l. cond (list_all rect_fits l) (Some (with_frames (with_frames tree all) l)) None) (frames_same tree b_w b_h c_w c_h) ∙ ap (λ t. cond (list_all rect_fits last) (Some t) None) (again-with_frames tree all last (omega arith))

-- ---- what stays

above_all : (f g : ℕ → ℕ) → ((p : ℕ) → f p ≡ g p) → (o : Option ℕ) → depth_above f o + 1 ≡ depth_above g o + 1
above_all f g same None = refl
above_all f g same (Some p) = ap (λ n. n + 1) (same p)

in_frames : (f g : ℕ → ℕ) → ((p : ℕ) → f p ≡ g p) → (tree : Tree) (frames : List Rect) (v : ℕ) → length tree ≤ length frames → depth_in f (slice_get (with_frames tree frames) v) ≡ depth_in g (slice_get tree v)
in_frames f g same [] frames v h = refl
in_frames f g same (view ∷ tree) [] v h = absurd (omega arith)
in_frames f g same (view ∷ tree) (frame ∷ frames) zero h = above_all f g same view.parent
in_frames f g same (view ∷ tree) (frame ∷ frames) (suc v) h = in_frames f g same tree frames v (omega arith)

depth-with_frames : (n : ℕ) (tree : Tree) (frames : List Rect) (v : ℕ) → length tree ≤ length frames → depth_from n (with_frames tree frames) v ≡ depth_from n tree v
depth-with_frames zero tree frames v h = refl
depth-with_frames (suc n) tree frames v h =
    in_frames (depth_from n (with_frames tree frames)) (depth_from n tree) (λ p. depth-with_frames n tree frames p h) tree frames v h

parent-with_frames : (tree : Tree) (frames : List Rect) (v : ℕ) → length tree ≤ length frames → parent_of (with_frames tree frames) v ≡ parent_of tree v
parent-with_frames [] frames v h = refl
parent-with_frames (view ∷ tree) [] v h = absurd (omega arith)
parent-with_frames (view ∷ tree) (frame ∷ frames) zero h = refl
parent-with_frames (view ∷ tree) (frame ∷ frames) (suc v) h = parent-with_frames tree frames v (omega arith)

-- the root lies in no view, so its new frame is the given one
root_alone : (root : Rect) (tree : Tree) (view : View) (o : Option ℕ) → ((p : ℕ) → o ≡ Some p → p < 0) → frame_in root tree [] view o ≡ root
root_alone root tree view None below = refl
root_alone root tree view (Some p) below = let none = below p refl in absurd (omega arith)

root_in : (view : View) (rest : List View) (width height : ℤ) → AreParentsFirst (view ∷ rest) → slice_get (frames_after (view ∷ rest) width height) 0 ≡ Some (root_frame width height)
root_in view rest width height first =
    ap (λ l. slice_get l 0) (after_is (view ∷ rest) width height) ∙ ap Some (root_alone (root_frame width height) (view ∷ rest) view view.parent (first.below 0))

root_first : (tree : Tree) (width height : ℤ) (frames : List Rect) → 0 < length tree → AreParentsFirst tree → take (length tree) frames ≡ frames_after tree width height → slice_get frames 0 ≡ Some (root_frame width height)
root_first [] width height frames some first e = absurd (omega arith)
root_first (view ∷ rest) width height [] some first e =
    absurd (none-some (root_frame width height) (sym (sym (root_in view rest width height first) ∙ ap (λ l. slice_get l 0) (sym e))))
root_first (view ∷ rest) width height (frame ∷ frames) some first e =
    ap (λ l. slice_get l 0) e ∙ root_in view rest width height first

root_begins : (tree : Tree) (width height : ℤ) (frames : List Rect) → 0 < length tree → slice_get frames 0 ≡ Some (root_frame width height) → (root : View) → slice_get (with_frames tree frames) 0 ≡ Some root → left_top root.frame ≡ at_pixel (pos 0) (pos 0)
root_begins [] width height frames some is root got = absurd (omega arith)
root_begins (view ∷ rest) width height [] some is root got = absurd (none-some (root_frame width height) is)
root_begins (view ∷ rest) width height (frame ∷ frames) some is root got =
    ap (λ (v : View). left_top v.frame) (sym (same_Some (record view { frame = frame }) root got)) ∙ ap left_top (same_Some frame (root_frame width height) is)

pub tree_of_frames : (tree : Tree) (width height : ℤ) (frames : List Rect) → length tree ≤ length frames → take (length tree) frames ≡ frames_after tree width height → IsTree tree → IsTree (with_frames tree frames)
unfolding depth_of
tree_of_frames tree width height frames h e t =
    let long = length-with_frames tree frames h in
    let some = t.some in
    let few = t.few in
    record {
      some = omega arith;
      begins = record { corner = root_begins tree width height frames t.some (root_first tree width height frames t.some t.parents e) };
      few = omega arith;
      parents = record { rooted = λ v within none. t.parents.rooted v (omega arith) (sym (parent-with_frames tree frames v h) ∙ none); below = λ v p at. t.parents.below v p (sym (parent-with_frames tree frames v h) ∙ at) };
      depths = λ v. rw (long, depth-with_frames (length tree) tree frames v h) (t.depths v);
    }

-- ---- the call

pub resized_is : (tree : Tree) (width height : ℤ) (frames : List Rect) → take (length tree) frames ≡ frames_after tree width height → (list_all rect_fits (frames_after tree width height) ≡ false → ⊥) → resized tree width height ≡ Some (with_frames tree frames)
unfolding resized
resized_is tree width height frames e fits =
    cond-true (list_all rect_fits (frames_after tree width height)) (Some (with_frames tree (frames_after tree width height))) None (true_from_ne_false (list_all rect_fits (frames_after tree width height)) fits) ∙ ap (λ l. Some (with_frames tree l)) (sym e) ∙ ap (λ t. Some t) (front-with_frames tree frames)

pub resized_none : (tree : Tree) (width height : ℤ) → (resized tree width height ≡ None) ↔ (list_all rect_fits (frames_after tree width height) ≡ false)
unfolding resized
resized_none tree width height = (λ h. false_from_ne_true (list_all rect_fits (frames_after tree width height)) (λ e. none-some (with_frames tree (frames_after tree width height)) (sym h ∙ cond-true (list_all rect_fits (frames_after tree width height)) (Some (with_frames tree (frames_after tree width height))) None e)), λ e. cond-false (list_all rect_fits (frames_after tree width height)) (Some (with_frames tree (frames_after tree width height))) None e)

-- what is written back into a vector is the tree with the frames
pub written_back : (tree old new : List View) (frames : List Rect) (n : ℕ) → old ≡ tree → length old ≡ n → length old ≤ length frames → new ≡ with_frames old frames → take n (new ++ drop (length new) tree) ≡ with_frames tree frames
written_back tree old new frames n e long room is =
    take_at new (drop (length new) tree) n (ap (λ (l : List View). length l) is ∙ length-with_frames old frames room ∙ long) ∙ is ∙ ap (λ l. with_frames l frames) e
