-- A plan that is carried out on the panes of a screen, one by one.
use Rattle.std.specs.Prelude.{slice_get, slice_set}
use Rattle.std.proofs.Common.{◌≡◌, ℕ, ◌+◌, ◌<◌, ◌≤◌, List, length, Option, Some, Ok, inl, inr, sym, ap, ◌∙◌, subst, arith}
use Rattle.std.proofs.lemmas.Bool.{cases_lt}
use Rattle.std.proofs.lemmas.Option.{same_Some, slice_get_within}
use Rattle.be_facts.proofs.Lists.{element, set_length, set_other}
use Rattle.be_pane.specs.declared.pane.Pane.{Pane}
use Rattle.be_desk.specs.declared.planned.Renewed.{Renewed}
use Rattle.be_stack.specs.Windows.{Windows}
use Rattle.be_desk.specs.Changes.{Desk, desk_after}
use Rattle.be_desk.specs.Desks.{IsPaired}
use Rattle.be_desk.specs.Plans.{CarriesOver, IsPaneOf, IsPlanOf, Planned}
use Rattle.be_desk.proofs.DeskLemmas.{is_after}
use Rattle.be_desk.proofs.OthersLemmas.{others_stay}
use Rattle.be_desk.proofs.PairedLemmas.{set_there}
use Rattle.be_desk.proofs.TakenLemmas.{taken_as}
use Rattle.desk_screen.specs.Screens.{IsScreen}

-- a pane of the desk afterwards, at its window's number
abbrev pub IsDone : Desk → Planned → ℕ → Pane → Type 0
IsDone before plan k pane =
    (after : Desk) → desk_after before plan.window plan.change ≡ Ok after → IsPaneOf after pane × (pane.window ≡ k)

-- those up to a place are done, and those behind it are as they were, with their spans in the plan
pub record AreCarriedTo (before : Desk) (plan left : Planned) (old now : List Pane) (n : ℕ) : Type 0 where
  pub left_is : left ≡ record plan { spans = left.spans }
  pub many : length left.spans ≡ length plan.spans
  pub spans_left : (k : ℕ) → n ≤ k → slice_get left.spans k ≡ slice_get plan.spans k
  pub each : length now ≡ length old
  pub done : (k : ℕ) (pane : Pane) → k < n → slice_get now k ≡ Some pane → IsDone before plan k pane
  pub panes : (k : ℕ) → n ≤ k → slice_get now k ≡ slice_get old k

not_below : (k n : ℕ) → k < n → k ≡ n → ⊥
not_below k n less e = omega arith

not_above : (k n : ℕ) → n + 1 ≤ k → k ≡ n → ⊥
not_above k n more e = omega arith

-- the pane at the place
done_there : (before : Desk) (plan left : Planned) (old now : List Pane) (n : ℕ) (pane new : Pane) → IsScreen before old → IsPlanOf plan before old → AreCarriedTo before plan left old now n → n < length old → slice_get now n ≡ Some pane → ((these : Option Renewed) → slice_get left.spans n ≡ Some these → CarriesOver left these pane new) → IsDone before plan n new
done_there before plan left old now n pane new screen is to within got carries after taken =
    let each = is.each in
    let these = element plan.spans n (omega arith) in
    let was : slice_get old n ≡ Some pane = sym (to.panes n (omega arith)) ∙ got in
    let over : CarriesOver plan these.0 pane new = subst (λ (p : Planned). CarriesOver p these.0 pane new) to.left_is (carries these.0 (to.spans_left n (omega arith) ∙ these.1)) in
    let all = over before after old screen.paired taken (is.on_desk.then_windows after taken) (is.panes_of n pane was) (is.changed after taken n pane these.0 was these.1) in
    (all.0, all.2.window ∙ screen.numbered n pane was)

pub one_carried : (before : Desk) (plan left next : Planned) (old now : List Pane) (n : ℕ) (pane new : Pane) (other : Option Renewed) → IsScreen before old → IsPlanOf plan before old → AreCarriedTo before plan left old now n → n < length old → slice_get now n ≡ Some pane → ((these : Option Renewed) → slice_get left.spans n ≡ Some these → CarriesOver left these pane new) → next ≡ record left { spans = slice_set left.spans n other } → AreCarriedTo before plan next old (slice_set now n new) (n + 1)
one_carried before plan left next old now n pane new other screen is to within got carries e =
    let spans : next.spans ≡ slice_set left.spans n other = ap (λ (p : Planned). p.spans) e in
    record {
      left_is = e ∙ ap (λ (p : Planned). record p { spans = slice_set left.spans n other }) to.left_is ∙ ap (λ (l : List (Option Renewed)). record plan { spans = l }) (sym spans);
      many = ap length spans ∙ set_length left.spans n other ∙ to.many;
      spans_left = λ k more. ap (λ (l : List (Option Renewed)). slice_get l k) spans ∙ set_other left.spans n k other (λ e. not_above k n more e) ∙ to.spans_left k (omega arith);
      each = set_length now n new ∙ to.each;
      done = λ k q less then_got.
          elim (cases_lt k n) [
            | inl below ↦ to.done k q below (sym (set_other now n k new (λ e. not_below k n below e)) ∙ then_got)
            | inr above ↦
                let same : n ≡ k = omega arith in
                let is_new : new ≡ q = same_Some new q (sym (set_there now n new pane got) ∙ ap (slice_get (slice_set now n new)) same ∙ then_got) in
                subst (λ (m : ℕ). IsDone before plan m q) same (subst (λ (p : Pane). IsDone before plan n p) is_new (done_there before plan left old now n pane new screen is to within got carries))
          ];
      panes = λ k more. set_other now n k new (λ e. not_above k n more e) ∙ to.panes k (omega arith);
    }

-- ---- what the calls ask

pub window_there : (before : Desk) (plan left : Planned) (old now : List Pane) (n : ℕ) (pane : Pane) → IsScreen before old → IsPlanOf plan before old → AreCarriedTo before plan left old now n → slice_get now n ≡ Some pane → pane.window < length left.windows.windows
window_there before plan left old now n pane screen is to got =
    let taken = taken_as (desk_after before plan.window plan.change) is.on_desk.taken in
    let stay = others_stay before.windows taken.0.windows plan.window plan.change (is_after before taken.0 plan.window plan.change taken.1).windows in
    let many = stay.many in
    let each = screen.each in
    let was : slice_get old n ≡ Some pane = sym (to.panes n (omega arith)) ∙ got in
    let within = slice_get_within old n pane was in
    let number = screen.numbered n pane was in
    let there_then : pane.window < length taken.0.windows.windows = omega arith in
    let same : taken.0.windows ≡ left.windows = is.on_desk.then_windows taken.0 taken.1 ∙ sym (ap (λ (p : Planned). p.windows) to.left_is) in
    subst (λ (w : Windows). pane.window < length w.windows) same there_then

pub same_change : (before : Desk) (plan left : Planned) (old now : List Pane) (n : ℕ) (after : Desk) → AreCarriedTo before plan left old now n → desk_after before left.window left.change ≡ Ok after → desk_after before plan.window plan.change ≡ Ok after
same_change before plan left old now n after to taken = subst (λ (p : Planned). desk_after before p.window p.change ≡ Ok after) to.left_is taken

-- ---- all of them

pub screen_after : (before after : Desk) (plan left : Planned) (old now : List Pane) (n : ℕ) → IsScreen before old → AreCarriedTo before plan left old now n → length old ≤ n → desk_after before plan.window plan.change ≡ Ok after → IsPaired after → IsScreen after now
screen_after before after plan left old now n screen to all taken paired =
    let stay = others_stay before.windows after.windows plan.window plan.change (is_after before after plan.window plan.change taken).windows in
    let many = stay.many in
    let each = screen.each in
    let as_many = to.each in
    let done : (k : ℕ) (pane : Pane) → slice_get now k ≡ Some pane → IsDone before plan k pane = λ k pane got. let within = slice_get_within now k pane got in to.done k pane (omega arith) got in
    record {
      paired = paired;
      panes_of = λ k pane got. (done k pane got after taken).0;
      each = omega arith;
      numbered = λ k pane got. (done k pane got after taken).1;
    }
