use Rattle.std.proofs.Common.{◌≡◌, pos, to_z, of_z, w32, arith}
use Rattle.std.proofs.lemmas.Int.{ints, to_z-of_z}
use Rattle.be_picture.proofs.Rows.{as_row}
use Rattle.be_picture.proofs.off_screen.row_of.Goals as goal

pub returns : goal.returns
returns c =
    let row : to_z w32 (of_z w32 c.from.result) ≡ pos c.args.y =
    grind (arith, ints, to_z-of_z, c.from.ensures) in
    as_row c.args.spans.now c.args.y c.row_from.result.now _ row c.row_from.ensures.cells
    c.row_from.ensures.ends c.row_from.ensures.run
