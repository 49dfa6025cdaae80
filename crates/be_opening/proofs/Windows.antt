-- The windows of the opening, one by one, and their views.
use Rattle.std.specs.Prelude.{pos, ◌+ℤ◌, ◌-ℤ◌, slice_get, option_and_then}
use Rattle.std.specs.List.{range_with_len, enumerate_from}
use Rattle.std.proofs.Common.{◌≡◌, ℕ, suc, ◌+◌, List, [], ◌∷◌, ◌++◌, length, map, reverse, replicate, take, get_or, ◌<◌, Option, Some, None, refl, sym, ap, subst, ◌∙◌, arith}
use Rattle.std.proofs.lemmas.Int.{ints}
use Rattle.std.proofs.lemmas.List.{length-map, length-take-le, length_push, map-append, reverse-append, take_more}
use Rattle.std.proofs.lemmas.List.FromFn.{length-enumerate_from}
use Rattle.std.proofs.lemmas.Option.{same_Some, slice_get-map}
use Rattle.be_facts.proofs.Lists.{range_more}
use Rattle.be_desk.specs.Changes.{Desk}
use Rattle.be_desk.specs.Desks.{IsPaired, IsRootIn, at_origin, root_of}
use Rattle.be_geom.specs.declared.rect.Rect.{Rect}
use Rattle.be_geom.proofs.RectLemmas.{same_rects}
use Rattle.be_input.specs.Pointing.{Pointing}
use Rattle.be_machine.specs.State.{flags_of, opening_desk, opening_window}
use Rattle.be_machine.proofs.Found.{IsMapped, mapped}
use Rattle.be_script.specs.Script.{Declared}
use Rattle.be_script.specs.Windows.{root_view, tree_of}
use Rattle.be_script.specs.declared.WindowLine.{WindowLine}
use Rattle.be_stack.specs.Windows.{Windows, with_new_window}
use Rattle.be_stack.specs.declared.flags.WindowFlags.{WindowFlags}
use Rattle.be_stack.specs.declared.window.Window.{Window}
use Rattle.be_views.specs.Resizing.{root_frame}
use Rattle.be_views.specs.Trees.{Tree, View}
use Rattle.be_opening.proofs.Lists.{enumerated_more, got_enumerated}

-- ---- order and frames

-- the windows of these lines
abbrev pub windows_of : ℕ → ℕ → List WindowLine → Windows
windows_of width height lines = record {
  width = width;
  height = height;
  order = reverse (range_with_len 0 (length lines));
  windows = map opening_window lines;
  active = None;
}

order_more : (n : ℕ) → n ∷ reverse (range_with_len 0 n) ≡ reverse (range_with_len 0 (suc n))
order_more n =
    let e : 0 + n ≡ n = omega arith in
    sym (reverse-append (range_with_len 0 n) (n ∷ [])) ∙ ap (λ k. reverse (range_with_len 0 n ++ k ∷ [])) (sym e) ∙ ap (λ (l : List ℕ). reverse l) (sym (range_more 0 n))

windows_same : (width height : ℕ) (order other : List ℕ) (windows more : List Window) → order ≡ other → windows ≡ more → ◌≡◌ {A = Windows} (record { width = width; height = height; order = order; windows = windows; active = None }) (record { width = width; height = height; order = other; windows = more; active = None })
windows_same width height order other windows more p q = cc

pub window_more : (width height : ℕ) (lines : List WindowLine) (line : WindowLine) → with_new_window (windows_of width height lines) (length lines) line.frame (flags_of line) ≡ windows_of width height (lines ++ line ∷ [])
window_more width height lines line =
    let long : length (lines ++ line ∷ []) ≡ suc (length lines) = omega (arith, length_push lines line) in
    windows_same width height _ _ _ _
    (order_more (length lines) ∙ ap (λ n. reverse (range_with_len 0 n)) (sym long))
    (sym (map-append opening_window lines (line ∷ [])))

-- the stack with one line more
pub next_window : (width height : ℕ) (lines seen : List WindowLine) (i : ℕ) (line : WindowLine) (w : ℕ) (flags : WindowFlags) (old new : Windows) → seen ≡ lines → i < length seen → line ≡ get_or seen i line → old ≡ windows_of width height (take i lines) → w ≡ length old.windows → flags ≡ flags_of line → new ≡ with_new_window old w line.frame flags → new ≡ windows_of width height (take (i + 1) lines)
next_window width height lines seen i line w flags old new same less is before number flags_are added =
    let less_here : i < length lines = omega (arith, ap length same) in
    let is_here : get_or lines i line ≡ line = ap (λ (l : List WindowLine). get_or l i line) (sym same) ∙ sym is in
    let long : length (take i lines) ≡ i = length-take-le i lines (omega arith) in
    let as_many : w ≡ length (take i lines) = number ∙ ap (λ (s : Windows). length s.windows) before ∙ length-map (take i lines) opening_window in
    added
    ∙ ap (λ (s : Windows). with_new_window s w line.frame flags) before
    ∙ ap (λ (n : ℕ). with_new_window (windows_of width height (take i lines)) n line.frame flags) as_many
    ∙ ap (λ (f : WindowFlags). with_new_window (windows_of width height (take i lines)) (length (take i lines)) line.frame f) flags_are
    ∙ window_more width height (take i lines) line
    ∙ ap (λ (l : List WindowLine). windows_of width height l) (ap (λ (x : WindowLine). take i lines ++ x ∷ []) (sym is_here) ∙ sym (take_more lines i line less_here))

-- ---- views

root_is : (r : Rect) → root_frame (r.right -ℤ r.left) (r.bottom -ℤ r.top) ≡ at_origin r
root_is r =
    same_rects (pos 0) (r.left +ℤ (pos 0 -ℤ r.left)) (pos 0) (r.top +ℤ (pos 0 -ℤ r.top)) (r.right -ℤ r.left) (r.right +ℤ (pos 0 -ℤ r.left)) (r.bottom -ℤ r.top) (r.bottom +ℤ (pos 0 -ℤ r.top)) (omega (arith, ints)) (omega (arith, ints)) (omega (arith, ints)) (omega (arith, ints))

root_in : (line : WindowLine) → IsRootIn (opening_window line) (root_view line)
root_in line = record { top = refl; frame = root_is line.frame }

root_there : (d : Declared) (w : ℕ) (line : WindowLine) → slice_get (tree_of d w line) 0 ≡ Some (root_view line)
unfolding tree_of
root_there d w line = refl

-- there are views for each window, and their root is the window's
pub opening_paired : (d : Declared) → IsPaired (opening_desk d)
opening_paired d = record {
  each = length-map (enumerate_from 0 d.windows) _ ∙ length-enumerate_from 0 d.windows ∙ sym (length-map d.windows _);
  rooted = λ u window root got is_root.
      let at : IsMapped opening_window (slice_get d.windows u) window = mapped opening_window (slice_get d.windows u) window (sym (slice_get-map opening_window d.windows u) ∙ got) in
      let tree = got_enumerated (λ p. tree_of d p.0 p.1) 0 d.windows u at.from at.read in
      let found : root_of (opening_desk d).pointing.trees u ≡ Some (root_view at.from) = ap (option_and_then (λ (t : Tree). slice_get t 0)) tree ∙ root_there d (0 + u) at.from in
      subst (λ (x : Window). IsRootIn x root) at.is (subst (λ (v : View). IsRootIn (opening_window at.from) v) (same_Some (root_view at.from) root (sym found ∙ is_root)) (root_in at.from));
}

-- the views of one window more
pub next_tree : (d : Declared) (seen : List WindowLine) (i : ℕ) (line : WindowLine) (tree : Tree) (old new : List Tree) → seen ≡ d.windows → i < length seen → line ≡ get_or seen i line → old ≡ map (λ p. tree_of d p.0 p.1) (enumerate_from 0 (take i d.windows)) → tree ≡ tree_of d i line → new ≡ old ++ tree ∷ [] → new ≡ map (λ p. tree_of d p.0 p.1) (enumerate_from 0 (take (i + 1) d.windows))
next_tree d seen i line tree old new same less is before tree_is added =
    let less_here : i < length d.windows = omega (arith, ap length same) in
    let is_here : get_or d.windows i line ≡ line = ap (λ (l : List WindowLine). get_or l i line) (sym same) ∙ sym is in
    let long : 0 + length (take i d.windows) ≡ i = omega (arith, length-take-le i d.windows (omega arith)) in
    let grown : enumerate_from 0 (take (i + 1) d.windows) ≡ enumerate_from 0 (take i d.windows) ++ (i, line) ∷ [] =
    ap (λ (l : List WindowLine). enumerate_from 0 l) (take_more d.windows i line less_here ∙ ap (λ (x : WindowLine). take i d.windows ++ x ∷ []) is_here)
    ∙ enumerated_more 0 (take i d.windows) line
    ∙ ap (λ (n : ℕ). enumerate_from 0 (take i d.windows) ++ (n, line) ∷ []) long in
    added
    ∙ ap (λ (l : List Tree). l ++ tree ∷ []) before
    ∙ ap (λ (t : Tree). map (λ p. tree_of d p.0 p.1) (enumerate_from 0 (take i d.windows)) ++ t ∷ []) tree_is
    ∙ sym (map-append (λ p. tree_of d p.0 p.1) (enumerate_from 0 (take i d.windows)) ((i, line) ∷ []))
    ∙ ap (λ (l : List (ℕ × WindowLine)). map (λ p. tree_of d p.0 p.1) l) (sym grown)

-- ---- both

desk_same : (a b : Windows) (p q : Pointing) → a ≡ b → p ≡ q → ◌≡◌ {A = Desk} (record { windows = a; pointing = p }) (record { windows = b; pointing = q })
desk_same a b p q e f = cc

pointing_same : (trees other : List Tree) (focus more : List (Option ℕ)) → trees ≡ other → focus ≡ more → ◌≡◌ {A = Pointing} (record { trees = trees; focus = focus; under = None }) (record { trees = other; focus = more; under = None })
pointing_same trees other focus more e f = cc

pub joined_desk : (d : Declared) (windows : Windows) (trees : List Tree) (pointing : Pointing) → windows ≡ (opening_desk d).windows → trees ≡ (opening_desk d).pointing.trees → pointing ≡ record { trees = trees; focus = replicate (length trees) None; under = None } → ◌≡◌ {A = Desk} (record { windows = windows; pointing = pointing }) (opening_desk d)
joined_desk d windows trees pointing windows_are trees_are pointing_is =
    let many : length trees ≡ length d.windows = ap (λ (l : List Tree). length l) trees_are ∙ length-map (enumerate_from 0 d.windows) _ ∙ length-enumerate_from 0 d.windows in
    desk_same windows (opening_desk d).windows pointing (opening_desk d).pointing windows_are (pointing_is ∙ pointing_same trees (opening_desk d).pointing.trees _ _ trees_are (ap (λ n. replicate n None) many))
