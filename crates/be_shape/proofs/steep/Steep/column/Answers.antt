use Rattle.std.proofs.Common.{◌≡◌, ◌∙◌, SFits, w16, w32, w64, to_z, pos, ◌≤◌, ◌-ℤ◌, unsigned_abs, arith, rules}
use Rattle.std.proofs.lemmas.Int.{ints, to_z-of_z}
use Rattle.be_shape.proofs.LineLemmas.{CoversBetween}
use Rattle.be_shape.proofs.SteepLemmas.{point_of_row, none_above, none_below, thin_down, thin_up}
use Rattle.be_shape.proofs.steep.Steep.column.Goals as goal
use Rattle.be_shape.proofs.steep.Steep.column.Goals.{then-self, else-self, then-way-lt0-via-then-way-lt0, then-way-lt0-via-else-way-lt0+then-steps-way}

pub returns-then-way-lt0-clause-none : goal.returns-then-way-lt0-clause-none
returns-then-way-lt0-clause-none c =
    let from_y : SFits w16 c.args.self.from.y = search rules in
    let to_y : SFits w16 c.args.self.to.y = search rules in
    let row : SFits w32 c.args.y = c.ranges.y in
    let steps : c.from-steps.result ≡ unsigned_abs (c.args.self.to.y -ℤ c.args.self.from.y) = c.from-steps.ensures ∙ simp to_z-of_z at c.abs_diff.ensures in
    let covers : CoversBetween c.args.self.from c.args.self.to 1 c.args.y (to_z w64 c.if-self.way'-bits) (to_z w64 c.if-self.way'-bits) =
    elim c.if-self.branch [
      | then-self w ↦ thin_down c.args.self.from c.args.self.to c.args.y (to_z w64 c.if-self.way'-bits) (omega (arith, ints)) (omega (arith, ints))
      | else-self w ↦ thin_up c.args.self.from c.args.self.to c.args.y (to_z w64 c.if-self.way'-bits) (omega (arith, ints)) (omega (arith, ints))
    ] in
    elim c.then-way-lt0.branch [
      | then-way-lt0-via-then-way-lt0 w ↦ none_above c.args.self.from c.args.self.to c.args.y (to_z w64 c.if-self.way'-bits) c.from-steps.result c.requires steps covers (omega (arith, ints))
      | then-way-lt0-via-else-way-lt0+then-steps-way w ↦ none_below c.args.self.from c.args.self.to c.args.y (to_z w64 c.if-self.way'-bits) c.from-steps.result c.requires steps covers (omega (arith, ints))
    ]

pub returns-clause-some : goal.returns-clause-some
returns-clause-some c x =
    let from_x : SFits w16 c.args.self.from.x = search rules in
    let from_y : SFits w16 c.args.self.from.y = search rules in
    let to_x : SFits w16 c.args.self.to.x = search rules in
    let to_y : SFits w16 c.args.self.to.y = search rules in
    let row : SFits w32 c.args.y = c.ranges.y in
    let point : SFits w16 c.point_at.result = search rules in
    let across : SFits w32 c.from-2.result = search rules in
    let steps : c.from-steps.result ≡ unsigned_abs (c.args.self.to.y -ℤ c.args.self.from.y) = c.from-steps.ensures ∙ simp to_z-of_z at c.abs_diff.ensures in
    let covers : CoversBetween c.args.self.from c.args.self.to 1 c.args.y (to_z w64 c.if-self.way'-bits) (to_z w64 c.if-self.way'-bits) =
    elim c.if-self.branch [
      | then-self w ↦ thin_down c.args.self.from c.args.self.to c.args.y (to_z w64 c.if-self.way'-bits) (omega (arith, ints)) (omega (arith, ints))
      | else-self w ↦ thin_up c.args.self.from c.args.self.to c.args.y (to_z w64 c.if-self.way'-bits) (omega (arith, ints)) (omega (arith, ints))
    ] in
    let i = unsigned_abs (to_z w64 c.if-self.way'-bits) in
    let way : to_z w64 c.if-self.way'-bits ≡ pos i = omega (arith, ints) in
    let of_steps : i ≤ c.from-steps.result = omega (arith, ints) in
    let at = c.from-2.ensures ∙ to_z-of_z w16 c.point_at.result point in
    rw (to_z-of_z w32 c.from-2.result across) (point_of_row c.args.self.from c.args.self.to c.args.y (to_z w64 c.if-self.way'-bits) c.from-steps.result i c.from-2.result c.point_at.result _ _ x c.requires steps covers of_steps way (to_z-of_z w16 c.args.self.from.x from_x) (to_z-of_z w16 c.args.self.to.x to_x) c.point_at.ensures at)
