-- What waits in a pane and in the window for which it stands, and when they owe a notice.
use Rattle.std.specs.Prelude.{is_none, not}
use Rattle.std.specs.List.{list_any}
use Rattle.std.proofs.Common.{◌≡◌, ℤ, Bool, true, false, ◌&&◌, List, [], ◌∷◌, Option, Some, None, refl, sym, ap, ◌∙◌}
use Rattle.std.proofs.lemmas.Bool.{and_parts, or_left, false≢true, true≢false, true_from_ne_false}
use Rattle.std.proofs.lemmas.Bool.{false_from_ne_true}
use Rattle.be_facts.proofs.Truths.{and_four, not_true}
use Rattle.be_geom.specs.declared.point.Point.{Point}
use Rattle.be_geom.specs.Places.{at_pixel, same_point}
use Rattle.be_span.specs.declared.Cell.{Cell}
use Rattle.be_pane.specs.Panes as machine
use Rattle.be_pane.specs.Laws.{OwesNotice}
use Rattle.be_pane.proofs.OwedLemmas.{both_closed, clean_owned, closed_both, none_waits, owed_by_pixels}
use Rattle.be_update.specs.Sessions.{is_any, is_owed}
use Rattle.be_update.specs.Laws.{AreDirty, FoundAsTheMachine, OwedAsTheMachine}
use Rattle.be_update.proofs.ListLemmas.{same_self}
use Rattle.be_update.proofs.PixelLemmas.{has_pixel}

-- ---- what waits

none_listed : (owned : ℤ → ℤ → Bool) (cells : ℤ → ℤ → Cell) (dirty : List Point) → AreDirty owned cells dirty → is_any dirty ≡ false → (x y : ℤ) → owned x y ≡ true → (cells x y).dirty ≡ false
none_listed owned cells [] are h x y own = sym (are x y ∙ ap (λ b. b && (cells x y).dirty) own)
none_listed owned cells (p ∷ ps) are h x y own = absurd (true≢false h)

first_there : (dirty : List Point) → is_any dirty ≡ true → (p : Point) × (has_pixel dirty p.x p.y ≡ true)
first_there [] h = absurd (false≢true h)
first_there (p ∷ ps) h = (p, or_left (same_point (at_pixel p.x p.y) p) (list_any (same_point (at_pixel p.x p.y)) ps) (same_self p))

some_waits : (owned : ℤ → ℤ → Bool) (cells : ℤ → ℤ → Cell) (dirty : List Point) → AreDirty owned cells dirty → is_any dirty ≡ true → ((x y : ℤ) → owned x y ≡ true → (cells x y).dirty ≡ false) → ⊥
some_waits owned cells dirty are h none =
    let there = first_there dirty h in
    let p = there.0 in
    let parts = and_parts (owned p.x p.y) (cells p.x p.y).dirty (sym (are p.x p.y) ∙ there.1) in
    true≢false (sym parts.1 ∙ none p.x p.y parts.0)

pub found_as_the_machine : FoundAsTheMachine
found_as_the_machine pane w corner kept tree owned cells dirty stands are = (
  (both_closed pane.session kept.session stands.session, closed_both pane.session kept.session stands.session),
  (
    λ clean. false_from_ne_true (is_any dirty) (λ h. some_waits owned cells dirty are h (clean_owned pane w corner kept tree owned cells stands clean)),
    λ h. none_waits pane w corner kept tree owned cells stands (none_listed owned cells dirty are h),
  ),
)

-- ---- a notice

not_unless : (b : Bool) → (b ≡ true → ⊥) → not b ≡ true
not_unless true h = absurd (h refl)
not_unless false h = refl

is_closed : (o : Option (List Point)) → is_none o ≡ true → o ≡ None
is_closed None h = refl
is_closed (Some pixels) h = absurd (false≢true h)

owed_there : (closed : Bool) (dirty : List Point) (kept : machine.Pane) (owned : ℤ → ℤ → Bool) (cells : ℤ → ℤ → Cell) → AreDirty owned cells dirty → (closed ≡ true → (x y : ℤ) → owned x y ≡ false) → OwesNotice kept owned cells → is_owed closed dirty kept ≡ true
owed_there closed dirty kept owned cells are gone owes =
    and_four (not closed) (is_any dirty) (is_none kept.session) (not kept.notified)
    (not_unless closed (λ e. owes.waits (λ x y own. absurd (true≢false (sym own ∙ gone e x y)))))
    (true_from_ne_false (is_any dirty) (λ e. owes.waits (none_listed owned cells dirty are e)))
    (ap is_none owes.closed)
    (ap not owes.unnoticed)

owes_there : (closed : Bool) (dirty : List Point) (kept : machine.Pane) (owned : ℤ → ℤ → Bool) (cells : ℤ → ℤ → Cell) → AreDirty owned cells dirty → is_owed closed dirty kept ≡ true → OwesNotice kept owned cells
owes_there closed dirty kept owned cells are h =
    let first = and_parts (not closed && is_any dirty && is_none kept.session) (not kept.notified) h in
    let second = and_parts (not closed && is_any dirty) (is_none kept.session) first.0 in
    let third = and_parts (not closed) (is_any dirty) second.0 in
    record {
      waits = some_waits owned cells dirty are third.1;
      closed = is_closed kept.session second.1;
      unnoticed = not_true kept.notified first.1;
    }

pub owed_as_the_machine : OwedAsTheMachine
owed_as_the_machine pane w corner kept tree owned cells dirty closed stands are gone =
    let law = owed_by_pixels pane w corner kept tree owned cells stands in
    (λ owed. owed_there closed dirty kept owned cells are gone (law.0 owed), λ h. law.1 (owes_there closed dirty kept owned cells are h))
