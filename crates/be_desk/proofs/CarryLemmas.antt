-- A change that is carried out on a pane, and on the desk.
use Rattle.std.specs.Prelude.{◌==◌, slice_get, slice_set, option_and_then}
use Rattle.std.specs.Option.{option_map}
use Rattle.std.proofs.Common.{◌≡◌, ℕ, Bool, true, false, List, Option, Some, None, Result, Ok, Err, OnOk, IsErr, eq-eqb, refl, sym, ap, ◌∙◌, subst}
use Rattle.std.proofs.lemmas.Bool.{eqb-true, false≢true}
use Rattle.std.proofs.lemmas.Option.{none-some, same_Some}
use Rattle.be_geom.specs.declared.change.Change.{Change}
use Rattle.be_geom.specs.declared.change.Change.TheVariants.{Show, Hide, MoveTo, MoveBy, ResizeTo, Activate, Behind, Focus, Close}
use Rattle.be_input.specs.Pointing.{Pointing}
use Rattle.be_pane.specs.declared.pane.Pane.{Pane}
use Rattle.be_desk.specs.declared.planned.Renewed.{Renewed}
use Rattle.be_stack.specs.Changes.{windows_after}
use Rattle.be_stack.specs.Windows.{Windows}
use Rattle.be_stack.specs.declared.fault.ChangeFault.{ChangeFault}
use Rattle.be_views.specs.Resizing.{resized}
use Rattle.be_views.specs.Trees.{Tree}
use Rattle.be_desk.specs.Carrying.{IsCarriedOver, IsFollowed}
use Rattle.be_desk.specs.Changes.{Desk, desk_after, desk_unless, desk_with, with_tree}
use Rattle.be_desk.specs.Desks.{IsPaired, IsTaken}
use Rattle.be_desk.specs.Plans.{AreFor, CarriesOver, IsCarried, IsDeskPlan, IsPaneOf, Planned, then_spans}
use Rattle.be_desk.proofs.DeskLemmas.{IsAfter, TreesAfter, is_after}
use Rattle.be_desk.proofs.PairedLemmas.{other_trees, paired_after, set_there}
use Rattle.be_desk.proofs.SpansLemmas.{pane_after}
use Rattle.be_desk.proofs.StandLemmas.{panes_are_whole}

-- ---- the desk

-- a desk of windows and pointing
abbrev pub desk_by : Windows → Pointing → Desk
desk_by s p = record { windows = s; pointing = p }

-- a resize of the views that the change doesn't refuse
pub after_resize : {T E : Type 0} (r : Result T E) (p q : Pointing) (s t : Windows) (w : ℕ) (o : Option Tree) → OnOk r (option_map (λ (trees : List Tree). record p { trees = trees }) (option_map (slice_set p.trees w) o) ≡ Some q) → (IsErr r → option_map (slice_set p.trees w) o ≡ None) → IsTaken (with_tree (desk_by s p) s w o) → with_tree (desk_by s p) t w o ≡ Ok (desk_by t q)
after_resize (Ok x) p q s t w (Some tree) ok err taken = ap (λ (z : Pointing). Ok (desk_by t z)) (same_Some _ q ok)
after_resize (Err e) p q s t w (Some tree) ok err taken = absurd (none-some (slice_set p.trees w tree) (sym (err refl)))
after_resize r p q s t w None ok err taken = absurd taken

taken_tree_of : (desk : Desk) (r t : Windows) (w : ℕ) (o : Option Tree) → IsTaken (with_tree desk r w o) → IsTaken (with_tree (desk_by t desk.pointing) t w o)
taken_tree_of desk r t w (Some tree) taken = tt
taken_tree_of desk r t w None taken = absurd taken

-- whether the views refuse a change has nothing to do with the windows
taken_with : (change : Change) (desk : Desk) (r t : Windows) (w : ℕ) → IsTaken (desk_with desk w r change) → IsTaken (desk_with (desk_by t desk.pointing) w t change)
taken_with (ResizeTo width height) desk r t w taken =
    taken_tree_of desk r t w (option_and_then (λ tree. resized tree width height) (slice_get desk.pointing.trees w)) taken
taken_with Show desk r t w taken = tt
taken_with Hide desk r t w taken = tt
taken_with (MoveTo corner) desk r t w taken = tt
taken_with (MoveBy dx dy) desk r t w taken = tt
taken_with Activate desk r t w taken = tt
taken_with (Behind front) desk r t w taken = tt
taken_with (Focus view) desk r t w taken = tt
taken_with Close desk r t w taken = tt

taken_unless : (desk : Desk) (w : ℕ) (change : Change) (r : Result Windows ChangeFault) → IsTaken (desk_unless desk w change r) → (t : Windows) → IsTaken (desk_with (desk_by t desk.pointing) w t change)
taken_unless desk w change (Ok windows) taken t = taken_with change desk windows t w taken
taken_unless desk w change (Err fault) taken t = absurd taken

pub taken_by_views : (desk : Desk) (w : ℕ) (change : Change) → IsTaken (desk_after desk w change) → (t : Windows) → IsTaken (desk_with (desk_by t desk.pointing) w t change)
unfolding desk_after
taken_by_views desk w change taken t = taken_unless desk w change (windows_after desk.windows w change) taken t

carried_unless : (desk : Desk) (w : ℕ) (change : Change) (windows : Windows) (q : Pointing) (r : Result Windows ChangeFault) → IsTaken (desk_unless desk w change r) → ((after : Desk) → desk_unless desk w change r ≡ Ok after → after.windows ≡ windows) → ((s t : Windows) → desk_with (desk_by s desk.pointing) w t change ≡ Ok (desk_by t q)) → desk_unless desk w change r ≡ Ok (desk_by windows q)
carried_unless desk w change windows q (Ok t) taken same pointed =
    let e = pointed desk.windows t in e ∙ ap (λ (z : Windows). Ok (desk_by z q)) (same (desk_by t q) e)
carried_unless desk w change windows q (Err fault) taken same pointed = absurd taken

-- with the windows and the pointing the desk is the one afterwards
pub carried_desk : (desk : Desk) (w : ℕ) (change : Change) (windows : Windows) (q : Pointing) → IsTaken (desk_after desk w change) → ((after : Desk) → desk_after desk w change ≡ Ok after → after.windows ≡ windows) → ((s t : Windows) → desk_with (desk_by s desk.pointing) w t change ≡ Ok (desk_by t q)) → desk_after desk w change ≡ Ok (desk_by windows q)
unfolding desk_after
carried_desk desk w change windows q taken same pointed =
    carried_unless desk w change windows q (windows_after desk.windows w change) taken same pointed

-- ---- a pane

stayed : (old_trees new_trees : List Tree) (w : ℕ) (old new : Tree) → new_trees ≡ old_trees → slice_get old_trees w ≡ Some old → new ≡ old → slice_get new_trees w ≡ Some new
stayed old_trees new_trees w old new same got is =
    ap (λ (l : List Tree). slice_get l w) same ∙ got ∙ ap (λ (t : Tree). Some t) (sym is)

followed : (change : Change) (old_trees new_trees : List Tree) (w : ℕ) (old new : Tree) → TreesAfter old_trees new_trees w change → slice_get old_trees w ≡ Some old → IsFollowed change old new → slice_get new_trees w ≡ Some new
followed (ResizeTo width height) old_trees new_trees w old new trees got follows =
    let was : trees.0 ≡ old = same_Some trees.0 old (sym trees.2 ∙ got) in
    let is : new ≡ trees.1 = follows trees.1 (ap (λ (t : Tree). resized t width height) (sym was) ∙ trees.3) in
    ap (λ (l : List Tree). slice_get l w) trees.4 ∙ set_there old_trees w trees.1 trees.0 trees.2 ∙ ap (λ (t : Tree). Some t) (sym is)
followed Show old_trees new_trees w old new same got is = stayed old_trees new_trees w old new same got is
followed Hide old_trees new_trees w old new same got is = stayed old_trees new_trees w old new same got is
followed (MoveTo corner) old_trees new_trees w old new same got is = stayed old_trees new_trees w old new same got is
followed (MoveBy dx dy) old_trees new_trees w old new same got is = stayed old_trees new_trees w old new same got is
followed Activate old_trees new_trees w old new same got is = stayed old_trees new_trees w old new same got is
followed (Behind front) old_trees new_trees w old new same got is = stayed old_trees new_trees w old new same got is
followed (Focus view) old_trees new_trees w old new same got is = stayed old_trees new_trees w old new same got is
followed Close old_trees new_trees w old new same got is = stayed old_trees new_trees w old new same got is

by_number : (b : Bool) (before after : Desk) (w : ℕ) (change : Change) (these : Option Renewed) (old new : Pane) → (old.window == w) ≡ b → IsAfter before after w change → slice_get before.pointing.trees old.window ≡ Some old.tree → IsCarriedOver these after.windows w change old new → slice_get after.pointing.trees old.window ≡ Some new.tree
by_number true before after w change these old new e is views over =
    let same : old.window ≡ w = eqb-true old.window w e in
    ap (slice_get after.pointing.trees) same
    ∙ followed change before.pointing.trees after.pointing.trees w old.tree new.tree is.trees (ap (slice_get before.pointing.trees) (sym same) ∙ views) (over.own_views e)
by_number false before after w change these old new e is views over =
    let other : old.window ≡ w → ⊥ = λ same. false≢true (sym e ∙ eq-eqb old.window w same) in
    (other_trees change before.pointing.trees after.pointing.trees w is.trees).1 old.window other ∙ views ∙ ap (λ (t : Tree). Some t) (sym (over.other_views e))

pub is_carried : (before after : Desk) (w : ℕ) (change : Change) (these : Option Renewed) (old new : Pane) → IsAfter before after w change → IsPaneOf before old → IsCarriedOver these after.windows w change old new → AreFor these old → IsCarried after (then_spans these old) old new
is_carried before after w change these old new is of_pane over its = record {
  window = over.window;
  place = over.place;
  spans = over.spans its;
  views = by_number (old.window == w) before after w change these old new refl is of_pane.views over;
  colors = over.colors;
  states = over.states;
  session = over.session;
  notice = over.notice;
}

-- a pane of the desk with the pixels that are right for it
pub carries_over : (plan : Planned) (these : Option Renewed) (old new : Pane) → IsCarriedOver these plan.windows plan.window plan.change old new → CarriesOver plan these old new
carries_over plan these old new over before after panes paired taken same of_pane changed =
    let is = is_after before after plan.window plan.change taken in
    let carried : IsCarried after (then_spans these old) old new = is_carried before after plan.window plan.change these old new is of_pane (subst (λ (w : Windows). IsCarriedOver these w plan.window plan.change old new) (sym same) over) changed.its in
    let then_of : IsPaneOf after new = pane_after before after plan.window plan.change panes old new (then_spans these old) is of_pane changed.changed carried in
    (then_of, panes_are_whole after new (paired_after before after plan.window plan.change paired is) then_of, carried)

-- and the desk
pub desk_carried : (plan : Planned) (desk : Desk) (q : Pointing) → IsDeskPlan plan desk → ((s t : Windows) → desk_with (desk_by s desk.pointing) plan.window t plan.change ≡ Ok (desk_by t q)) → (desk_after desk plan.window plan.change ≡ Ok (desk_by plan.windows q)) × IsPaired (desk_by plan.windows q)
desk_carried plan desk q is pointed =
    let e = carried_desk desk plan.window plan.change plan.windows q is.taken is.then_windows pointed in
    (e, paired_after desk (desk_by plan.windows q) plan.window plan.change is.asked.paired (is_after desk (desk_by plan.windows q) plan.window plan.change e))
