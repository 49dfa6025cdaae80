-- The frames after a resize, one by one.
use Rattle.std.specs.Prelude.{slice_get, option_and_then}
use Rattle.std.specs.List.{list_all}
use Rattle.std.proofs.Common.{◌≡◌, ℕ, ◌+◌, ◌-◌, ◌<◌, ◌≤◌, zero, suc, ℤ, pos, negsuc, ◌≤ℤ◌, true, false, List, [], ◌∷◌, ◌++◌, Some, None, length, get_or, take, drop, set, replicate, SFits, w16, rules, arith, refl, sym, ap, ◌∙◌}
use Rattle.std.proofs.lemmas.Bool.{and_left, and_right, and_from, true_from_ne_false, false≢true}
use Rattle.std.proofs.lemmas.Option.{slice_get-get_or, slice_get_read}
use Rattle.std.proofs.lemmas.List.{take_more, take_more_set, get_or_at, set_at, length-take-le, drop-drop, drop_more, length-take, get_or-take, append_assoc, drop-set-lt, drop-replicate, get_or-drop, get_or-replicate, length-set}
use Rattle.std.proofs.lemmas.List.Folds.{list_all-append}
use Rattle.be_geom.specs.declared.rect.Rect.{Rect}
use Rattle.be_geom.specs.Points.{in_range}
use Rattle.be_geom.specs.Rects.{rect_fits}
use Rattle.be_geom.proofs.Between.{between_tells}
use Rattle.std.proofs.lemmas.Int.{ints}
use Rattle.be_views.specs.Trees.{View, Tree}
use Rattle.be_views.specs.Resizing.{frame_in, frame_after, frames_from, root_frame, with_frames}
use Rattle.be_views.specs.Whole.{AreParentsFirst}

-- a frame that is found stays
all_stays : (root : Rect) (tree : Tree) (done : List Rect) (rest : List View) → list_all rect_fits done ≡ false → list_all rect_fits (frames_from root tree done rest) ≡ false
all_stays root tree done [] h = h
all_stays root tree done (view ∷ rest) h =
    all_stays root tree (done ++ frame_in root tree done view view.parent ∷ []) rest (list_all-append rect_fits done (frame_in root tree done view view.parent ∷ []) ∙ and_left (list_all rect_fits done) (list_all rect_fits (frame_in root tree done view view.parent ∷ [])) h)

-- what is known of the frames before view k
pub record AreFramesTo (k : ℕ) (tree : Tree) (root : Rect) (frames all : List Rect) : Type 0 where
  pub room : length frames ≡ 32
  pub so_far : frames_from root tree (take k frames) (drop k tree) ≡ all
  pub fit : list_all rect_fits (take k frames) ≡ true
  pub ahead : drop k frames ≡ replicate (32 - k) root

-- ---- frames written one by one

pub set_more : (views : List View) (frames : List Rect) (k : ℕ) (d : View) (e : Rect) → k < length views → k < length frames → with_frames (take (k + 1) views) frames ≡ with_frames (take k views) frames ++ record (get_or views k d) { frame = get_or frames k e } ∷ []
set_more [] frames k d e h j = absurd (omega arith)
set_more (view ∷ views) [] k d e h j = absurd (omega arith)
set_more (view ∷ views) (frame ∷ frames) zero d e h j = refl
set_more (view ∷ views) (frame ∷ frames) (suc k) d e h j =
    let n : suc k + 1 ≡ suc (k + 1) = omega arith in
    ap (λ m. with_frames (take m (view ∷ views)) (frame ∷ frames)) n ∙ ap (λ l. record view { frame = frame } ∷ l) (set_more views frames k d e (omega arith) (omega arith))

pub length-with_frames : (views : List View) (frames : List Rect) → length views ≤ length frames → length (with_frames views frames) ≡ length views
length-with_frames [] frames h = refl
length-with_frames (view ∷ views) [] h = absurd (omega arith)
length-with_frames (view ∷ views) (frame ∷ frames) h = ap (λ n. suc n) (length-with_frames views frames (omega arith))

pub write_more : (xs cur : List View) (frames : List Rect) (k : ℕ) (v d : View) (e : Rect) → k < length xs → length xs ≤ length frames → cur ≡ with_frames (take k xs) frames ++ drop k xs → v ≡ get_or cur k d → set cur k (record v { frame = get_or frames k e }) ≡ with_frames (take (k + 1) xs) frames ++ drop (k + 1) xs
write_more xs cur frames k v d e h j is read =
    let front = with_frames (take k xs) frames in
    let back = drop (k + 1) xs in
    let y = get_or xs k d in
    let taken : length (take k xs) ≡ k = length-take-le k xs (omega arith) in
    let long : length front ≡ k = length-with_frames (take k xs) frames (omega arith) ∙ taken in
    let split : cur ≡ front ++ y ∷ back = is ∙ ap (λ l. front ++ l) (drop_more xs k d h) in
    let same : v ≡ y = read ∙ ap (λ l. get_or l k d) split ∙ get_or_at front y back d k long in
    ap (λ l. set l k (record v { frame = get_or frames k e })) split ∙ set_at front y back (record v { frame = get_or frames k e }) k long ∙ ap (λ (w : View). front ++ record w { frame = get_or frames k e } ∷ back) same ∙ sym (append_assoc front (record y { frame = get_or frames k e } ∷ []) back) ∙ ap (λ l. l ++ back) (sym (set_more xs frames k d e h (omega arith)))

-- ---- frames found one by one

frame_at : (root : Rect) (tree : Tree) (frames : List Rect) (k : ℕ) (view : View) (d : View) → k < length tree → view ≡ get_or tree k d → frames_from root tree (take k frames) (drop k tree) ≡ frames_from root tree (take k frames ++ frame_in root tree (take k frames) view view.parent ∷ []) (drop (k + 1) tree)
frame_at root tree frames k view d h read =
    ap (frames_from root tree (take k frames)) (drop_more tree k d h) ∙ ap (λ (w : View). frames_from root tree (take k frames ++ frame_in root tree (take k frames) w w.parent ∷ []) (drop (k + 1) tree)) (sym read)

all_true : (done : List Rect) (f : Rect) → list_all rect_fits done ≡ true → rect_fits f ≡ true → list_all rect_fits (done ++ f ∷ []) ≡ true
all_true done f h k = list_all-append rect_fits done (f ∷ []) ∙ and_from (list_all rect_fits done) (list_all rect_fits (f ∷ [])) h (and_from (rect_fits f) true k refl)

ahead_step : (frames : List Rect) (root : Rect) (k : ℕ) → drop k frames ≡ replicate (32 - k) root → drop (k + 1) frames ≡ replicate (32 - (k + 1)) root
ahead_step frames root k h =
    sym (drop-drop 1 k frames) ∙ ap (drop 1) h ∙ drop-replicate 1 (32 - k) root ∙ ap (λ n. replicate n root) (omega arith)

-- the root's frame is there already
pub root_step : (tree : Tree) (root : Rect) (frames all : List Rect) (k : ℕ) (view d : View) → k < length tree → length tree ≤ 32 → view ≡ get_or tree k d → view.parent ≡ None → rect_fits root ≡ true → AreFramesTo k tree root frames all → AreFramesTo (k + 1) tree root frames all
root_step tree root frames all k view d h few read is fits a =
    let room : k < length frames = let r = a.room in omega arith in
    let at : get_or frames k root ≡ root = sym (get_or-drop k frames 0 root ∙ ap (λ n. get_or frames n root) (omega arith)) ∙ ap (λ l. get_or l 0 root) a.ahead ∙ get_or-replicate (32 - k) 0 root root (omega arith) in
    let taken : take (k + 1) frames ≡ take k frames ++ root ∷ [] = take_more frames k root room ∙ ap (λ f. take k frames ++ f ∷ []) at in
    record {
      room = a.room;
      so_far = ap (λ l. frames_from root tree l (drop (k + 1) tree)) taken ∙ ap (λ o. frames_from root tree (take k frames ++ frame_in root tree (take k frames) view o ∷ []) (drop (k + 1) tree)) (sym is) ∙ sym (frame_at root tree frames k view d h read) ∙ a.so_far;
      fit = ap (list_all rect_fits) taken ∙ all_true (take k frames) root a.fit fits;
      ahead = ahead_step frames root k a.ahead;
    }

got_take : (frames : List Rect) (k p : ℕ) (e : Rect) → p < k → p < length frames → slice_get (take k frames) p ≡ Some (get_or frames p e)
got_take frames k p e h j =
    let l = length-take k frames in
    slice_get-get_or (take k frames) p e (omega arith) ∙ ap (λ f. Some f) (get_or-take k frames p e h)

found_frame : (tree : Tree) (root : Rect) (frames : List Rect) (k p : ℕ) (view parent : View) (e : Rect) → p < k → p < length frames → slice_get tree p ≡ Some parent → view.parent ≡ Some p → frame_in root tree (take k frames) view view.parent ≡ frame_after view (Some parent) (Some (get_or frames p e))
found_frame tree root frames k p view parent e h j got is =
    ap (frame_in root tree (take k frames) view) is ∙ ap (λ o. frame_after view o (slice_get (take k frames) p)) got ∙ ap (frame_after view (Some parent)) (got_take frames k p e h j)

parent_before : (tree : Tree) (k p : ℕ) (view d : View) → AreParentsFirst tree → k < length tree → view ≡ get_or tree k d → view.parent ≡ Some p → p < k
parent_before tree k p view d first h read is =
    first.below k p (ap (λ o. option_and_then (λ (w : View). w.parent) o) (slice_get-get_or tree k d h ∙ ap (λ w. Some w) (sym read)) ∙ is)

-- what is known where view k has a parent: the parent's number and itself
pub record HasParent (tree : Tree) (k p : ℕ) (view d parent : View) : Type 0 where
  pub within : k < length tree
  pub few : length tree ≤ 32
  pub first : AreParentsFirst tree
  pub read : view ≡ get_or tree k d
  pub is : view.parent ≡ Some p
  pub got : slice_get tree p ≡ Some parent

pub has_parent : (tree : Tree) (k p q : ℕ) (view d parent : View) → k < length tree → length tree ≤ 32 → AreParentsFirst tree → view ≡ get_or tree k d → view.parent ≡ Some p → q ≡ p → parent ≡ get_or tree q parent → HasParent tree k q view d parent
has_parent tree k p q view d parent within few first read is same at =
    let below = parent_before tree k p view d first within read is in
    record {
      within = within;
      few = few;
      first = first;
      read = read;
      is = is ∙ ap (λ n. Some n) (sym same);
      got = slice_get_read tree (length tree) q parent refl (omega arith) at;
    }

-- a view's frame is found from its parent's
pub frame_step : (tree : Tree) (root : Rect) (frames all : List Rect) (k p : ℕ) (view d parent : View) (e f : Rect) → HasParent tree k p view d parent → f ≡ frame_after view (Some parent) (Some (get_or frames p e)) → (rect_fits (frame_after view (Some parent) (Some (get_or frames p e))) ≡ false → false ≡ true) → AreFramesTo k tree root frames all → AreFramesTo (k + 1) tree root (set frames k f) all
frame_step tree root frames all k p view d parent e f h found stays a =
    let few = h.few in
    let within = h.within in
    let below = parent_before tree k p view d h.first h.within h.read h.is in
    let room : k < length frames = let r = a.room in omega arith in
    let taken : take (k + 1) (set frames k f) ≡ take k frames ++ f ∷ [] = take_more_set frames k f room in
    let in_tree : frame_in root tree (take k frames) view view.parent ≡ f = found_frame tree root frames k p view parent e below (omega arith) h.got h.is ∙ sym found in
    let fits : rect_fits f ≡ true = ap rect_fits found ∙ true_from_ne_false (rect_fits (frame_after view (Some parent) (Some (get_or frames p e)))) (λ out. false≢true (stays out)) in
    record {
      room = length-set frames k f ∙ a.room;
      so_far = ap (λ l. frames_from root tree l (drop (k + 1) tree)) taken ∙ ap (λ g. frames_from root tree (take k frames ++ g ∷ []) (drop (k + 1) tree)) (sym in_tree) ∙ sym (frame_at root tree frames k view d h.within h.read) ∙ a.so_far;
      fit = ap (list_all rect_fits) taken ∙ all_true (take k frames) f a.fit fits;
      ahead = drop-set-lt (k + 1) frames k f (omega arith) ∙ ahead_step frames root k a.ahead;
    }

-- a view's frame leaves the range
pub frame_leaves : (tree : Tree) (root : Rect) (frames all : List Rect) (k p : ℕ) (view d parent : View) (e : Rect) → HasParent tree k p view d parent → rect_fits (frame_after view (Some parent) (Some (get_or frames p e))) ≡ false → AreFramesTo k tree root frames all → list_all rect_fits all ≡ false
frame_leaves tree root frames all k p view d parent e h leaves a =
    let few = h.few in
    let within = h.within in
    let r = a.room in
    let below = parent_before tree k p view d h.first h.within h.read h.is in
    let g = frame_after view (Some parent) (Some (get_or frames p e)) in
    let in_tree : frame_in root tree (take k frames) view view.parent ≡ g = found_frame tree root frames k p view parent e below (omega arith) h.got h.is in
    let so_far : frames_from root tree (take k frames ++ g ∷ []) (drop (k + 1) tree) ≡ all = ap (λ f. frames_from root tree (take k frames ++ f ∷ []) (drop (k + 1) tree)) (sym in_tree) ∙ sym (frame_at root tree frames k view d h.within h.read) ∙ a.so_far in
    ap (list_all rect_fits) (sym so_far) ∙ all_stays root tree (take k frames ++ g ∷ []) (drop (k + 1) tree) (list_all-append rect_fits (take k frames) (g ∷ []) ∙ and_right (list_all rect_fits (take k frames)) (list_all rect_fits (g ∷ [])) (and_left (rect_fits g) true leaves))

range_fits : (z : ℤ) → SFits w16 z → in_range z ≡ true
range_fits z f =
    let low : negsuc 32767 ≤ℤ z = search rules in
    let high : z ≤ℤ pos 32767 = search rules in
    grind (arith, ints, between_tells)

zero_fits : in_range (pos 0) ≡ true
zero_fits = grind (arith, ints, between_tells)

-- the root's new frame stays in the range
pub root_fits : (width height : ℤ) → SFits w16 width → SFits w16 height → rect_fits (root_frame width height) ≡ true
root_fits width height f g = rw (range_fits width f, range_fits height g, zero_fits) refl
