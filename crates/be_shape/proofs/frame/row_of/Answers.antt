use Rattle.std.proofs.Common.{◌≡◌, true, ◌||◌, pos, ◌-◌, ◌/◌, ◌+ℤ◌, ◌-ℤ◌, ◌≤ℤ◌, SFits, w16, w32, sym, ◌∙◌, rules}
use Rattle.std.proofs.lemmas.Int.{to_z-of_z}
use Rattle.std.proofs.lemmas.Bool.{or_left, or_right}
use Rattle.be_facts.proofs.Truths.{or_same}
use Rattle.be_shape.specs.Rows.{swept_has}
use Rattle.be_shape.proofs.FrameLemmas.{frame_outside, frame_across, frame_two, frame_joined, ends_near, less_of_test, not_less_of_test, fits_behind}
use Rattle.be_shape.proofs.frame.row_of.Goals as goal
use Rattle.be_shape.proofs.frame.row_of.Goals.{then-has-via-then-has, then-has-via-else-has+then-has-2}

pub returns-then-not-has-clause-pixels : goal.returns-then-not-has-clause-pixels
returns-then-not-has-clause-pixels c =
    let f4 : SFits w32 c.args.y = c.ranges.y in
    let rows = c.in-Some.ensures.some in
    let has = simp to_z-of_z at c.has.ensures in
    frame_outside c.args.rect c.args.pen c.args.y rows.across rows.down (sym (rows.all c.args.y) ∙ sym has ∙ c.if-not-has.true)

pub returns-then-has-clause-pixels : goal.returns-then-has-clause-pixels
returns-then-has-clause-pixels c =
    let f0 : SFits w16 c.args.rect.left = search rules in
    let f1 : SFits w16 c.args.rect.top = search rules in
    let f2 : SFits w16 c.args.rect.right = search rules in
    let f3 : SFits w16 c.args.rect.bottom = search rules in
    let f4 : SFits w32 c.args.y = c.ranges.y in
    let rows = c.in-Some.ensures.some in
    let size = c.args.pen in
    let y = c.args.y in
    let whole = simp to_z-of_z at c.swept-across.ensures.all in
    let top = simp to_z-of_z at c.swept.ensures.all in
    let top_has = simp to_z-of_z at c.has-2.ensures in
    let side : (swept_has size c.args.rect.top c.args.rect.top y || swept_has size c.args.rect.bottom c.args.rect.bottom y) ≡ true =
    elim c.then-has.branch [
      | then-has-via-then-has w ↦ or_left (swept_has size c.args.rect.top c.args.rect.top y) (swept_has size c.args.rect.bottom c.args.rect.bottom y) (sym (top y) ∙ sym top_has ∙ w.if-has.true)
      | then-has-via-else-has+then-has-2 w ↦ or_right (swept_has size c.args.rect.top c.args.rect.top y) (swept_has size c.args.rect.bottom c.args.rect.bottom y) (sym ((simp to_z-of_z at w.swept-else-has.ensures.all) y) ∙ sym (simp to_z-of_z at w.has-else-has.ensures) ∙ w.if-has-2.true)
    ]
    in
    λ x. whole x ∙ frame_across c.args.rect size y rows.across rows.down side x

pub returns-then-left-right-clause-sound : goal.returns-then-left-right-clause-sound
returns-then-left-right-clause-sound c =
    let f0 : SFits w32 c.swept-left.result.last = search rules in
    let f1 : SFits w32 (c.swept-left.result.last +ℤ pos 1) = fits_behind c.swept-left.result c.swept-left.ensures.sound in
    let f2 : SFits w32 c.swept-right.result.first = search rules in
    record {
      left_sound = c.swept-left.ensures.sound;
      right_sound = c.swept-right.ensures.sound;
      apart = less_of_test (c.swept-left.result.last +ℤ pos 1) c.swept-right.result.first (simp to_z-of_z at c.if-left-right.true);
    }

pub returns-then-left-right-clause-pixels : goal.returns-then-left-right-clause-pixels
returns-then-left-right-clause-pixels c =
    let f0 : SFits w16 c.args.rect.left = search rules in
    let f1 : SFits w16 c.args.rect.top = search rules in
    let f2 : SFits w16 c.args.rect.right = search rules in
    let f3 : SFits w16 c.args.rect.bottom = search rules in
    let f4 : SFits w32 c.args.y = c.ranges.y in
    let rows = c.in-Some.ensures.some in
    let y = c.args.y in
    let in_rows = sym (rows.all y) ∙ sym (simp to_z-of_z at c.has.ensures) ∙ c.if-not-has.false in
    let top = sym ((simp to_z-of_z at c.swept.ensures.all) y) ∙ sym (simp to_z-of_z at c.has-2.ensures) ∙ c.if-has.false in
    let bottom = sym ((simp to_z-of_z at c.swept-else-has.ensures.all) y) ∙ sym (simp to_z-of_z at c.has-else-has.ensures) ∙ c.if-has-2.false in
    let left = simp to_z-of_z at c.swept-left.ensures.all in
    let right = simp to_z-of_z at c.swept-right.ensures.all in
    λ x. or_same _ _ _ _ (left x) (right x) ∙ frame_two c.args.rect c.args.pen y rows.across rows.down in_rows top bottom x

pub returns-else-left-right-clause-pixels : goal.returns-else-left-right-clause-pixels
returns-else-left-right-clause-pixels c =
    let f0 : SFits w16 c.args.rect.left = search rules in
    let f1 : SFits w16 c.args.rect.top = search rules in
    let f2 : SFits w16 c.args.rect.right = search rules in
    let f3 : SFits w16 c.args.rect.bottom = search rules in
    let f4 : SFits w32 c.args.y = c.ranges.y in
    let rows = c.in-Some.ensures.some in
    let y = c.args.y in
    let size = c.args.pen in
    let in_rows = sym (rows.all y) ∙ sym (simp to_z-of_z at c.has.ensures) ∙ c.if-not-has.false in
    let top = sym ((simp to_z-of_z at c.swept.ensures.all) y) ∙ sym (simp to_z-of_z at c.has-2.ensures) ∙ c.if-has.false in
    let bottom = sym ((simp to_z-of_z at c.swept-else-has.ensures.all) y) ∙ sym (simp to_z-of_z at c.has-else-has.ensures) ∙ c.if-has-2.false in
    let whole = simp to_z-of_z at c.swept-across.ensures.all in
    let g0 : SFits w32 c.swept-left.result.last = search rules in
    let g1 : SFits w32 (c.swept-left.result.last +ℤ pos 1) = fits_behind c.swept-left.result c.swept-left.ensures.sound in
    let g2 : SFits w32 c.swept-right.result.first = search rules in
    let last = simp to_z-of_z at c.swept-left.ensures.last in
    let first = simp to_z-of_z at c.swept-right.ensures.first in
    let near : (c.args.rect.right -ℤ pos ((size - 1) / 2)) ≤ℤ (c.args.rect.left +ℤ pos (size - 1 - (size - 1) / 2) +ℤ pos 1) = ends_near size c.args.rect.left c.args.rect.right c.swept-right.result.first c.swept-left.result.last last first (not_less_of_test (c.swept-left.result.last +ℤ pos 1) c.swept-right.result.first (simp to_z-of_z at c.if-left-right.false)) in
    λ x. whole x ∙ frame_joined c.args.rect size y rows.across rows.down in_rows top bottom near x
