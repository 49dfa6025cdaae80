-- A run of pixels stands in a row of the rectangle.
use Rattle.std.proofs.Common.{arith, ap, ◌∙◌, Some}
use Rattle.std.proofs.lemmas.Int.{ints, to_z-of_z}
use Rattle.be_span.proofs.PieceLemmas.{row_of_run, row_stands_alone}
use Rattle.be_span.proofs.SpanLemmas.{row_within}
use Rattle.be_span.proofs.places.start_of.Goals as goal

pub place_in-requires-clause-across : goal.place_in-requires-clause-across
place_in-requires-clause-across c = c.requires.full.across

pub place_in-requires-clause-from_left : goal.place_in-requires-clause-from_left
place_in-requires-clause-from_left c =
    simp (to_z-of_z, c.ranges.x) (row_of_run c.args.frame c.args.x c.args.y c.args.count c.requires.some c.requires.run).left

pub place_in-requires-clause-to_right : goal.place_in-requires-clause-to_right
place_in-requires-clause-to_right c =
    let right = (row_of_run c.args.frame c.args.x c.args.y c.args.count c.requires.some c.requires.run).right in
    let some = c.requires.some in
    simp (to_z-of_z, c.ranges.x) (omega (arith, ints))

pub place_in-requires-clause-from_top : goal.place_in-requires-clause-from_top
place_in-requires-clause-from_top c =
    simp (to_z-of_z, c.ranges.y) (row_of_run c.args.frame c.args.x c.args.y c.args.count c.requires.some c.requires.run).top

pub place_in-requires-clause-to_bottom : goal.place_in-requires-clause-to_bottom
place_in-requires-clause-to_bottom c =
    simp (to_z-of_z, c.ranges.y) (row_of_run c.args.frame c.args.x c.args.y c.args.count c.requires.some c.requires.run).bottom

pub returns-clause-stand : goal.returns-clause-stand
returns-clause-stand c k less =
    let row = row_of_run c.args.frame c.args.x c.args.y c.args.count c.requires.some c.requires.run in
    let at = simp (to_z-of_z, c.ranges.x, c.ranges.y) at c.place_in.ensures in
    row_stands_alone c.args.frame c.args.x c.args.y c.args.count row k less ∙ ap Some (omega arith)

pub returns-clause-within : goal.returns-clause-within
returns-clause-within c =
    let row = row_of_run c.args.frame c.args.x c.args.y c.args.count c.requires.some c.requires.run in
    let at = simp (to_z-of_z, c.ranges.x, c.ranges.y) at c.place_in.ensures in
    let within = row_within c.args.frame c.args.x c.args.y c.args.count c.requires.full row in
    omega arith
