use Rattle.std.proofs.Common.{pos, ◌+ℤ◌, ◌-ℤ◌, SFits, w32, map, slice_get, ap, ◌∙◌}
use Rattle.std.proofs.Common.{rules}
use Rattle.std.proofs.lemmas.Int.{to_z-of_z}
use Rattle.be_span.specs.Cells.{unmarked}
use Rattle.be_descent.proofs.PieceLemmas.{clean_taken, is_taken, taken_cell}
use Rattle.be_descent.proofs.reading.TakenWrite.write.Goals as goal

pub overflow_sub-x : goal.overflow_sub-x
overflow_sub-x c =
    let s = c.args.self.now in
    let bx : SFits w32 s.way.right = search rules in
    let by : SFits w32 s.way.down = search rules in
    let got = is_taken s.rect s.way c.args.x c.args.y _ s.across s.down c.requires.some
    c.requires.known in
    let across = got.across in
    let down = got.down in
    simp (to_z-of_z, c.ranges.x, bx, across) across

pub overflow_sub-y : goal.overflow_sub-y
overflow_sub-y c =
    let s = c.args.self.now in
    let bx : SFits w32 s.way.right = search rules in
    let by : SFits w32 s.way.down = search rules in
    let got = is_taken s.rect s.way c.args.x c.args.y _ s.across s.down c.requires.some
    c.requires.known in
    let across = got.across in
    let down = got.down in
    simp (to_z-of_z, c.ranges.y, by, down) down

pub cells_in-row-requires-clause-left : goal.cells_in-row-requires-clause-left
cells_in-row-requires-clause-left c =
    let s = c.args.self.now in
    let bx : SFits w32 s.way.right = search rules in
    let by : SFits w32 s.way.down = search rules in
    let got = is_taken s.rect s.way c.args.x c.args.y _ s.across s.down c.requires.some
    c.requires.known in
    let across = got.across in
    let down = got.down in
    rw s.same (simp (to_z-of_z, c.ranges.x, bx, across) got.row.left)

pub cells_in-row-requires-clause-right : goal.cells_in-row-requires-clause-right
cells_in-row-requires-clause-right c =
    let s = c.args.self.now in
    let bx : SFits w32 s.way.right = search rules in
    let by : SFits w32 s.way.down = search rules in
    let got = is_taken s.rect s.way c.args.x c.args.y _ s.across s.down c.requires.some
    c.requires.known in
    let across = got.across in
    let down = got.down in
    rw s.same (simp (to_z-of_z, c.ranges.x, bx, across) got.row.right)

pub cells_in-row-requires-clause-top : goal.cells_in-row-requires-clause-top
cells_in-row-requires-clause-top c =
    let s = c.args.self.now in
    let bx : SFits w32 s.way.right = search rules in
    let by : SFits w32 s.way.down = search rules in
    let got = is_taken s.rect s.way c.args.x c.args.y _ s.across s.down c.requires.some
    c.requires.known in
    let across = got.across in
    let down = got.down in
    rw s.same (simp (to_z-of_z, c.ranges.y, by, down) got.row.top)

pub cells_in-row-requires-clause-bottom : goal.cells_in-row-requires-clause-bottom
cells_in-row-requires-clause-bottom c =
    let s = c.args.self.now in
    let bx : SFits w32 s.way.right = search rules in
    let by : SFits w32 s.way.down = search rules in
    let got = is_taken s.rect s.way c.args.x c.args.y _ s.across s.down c.requires.some
    c.requires.known in
    let across = got.across in
    let down = got.down in
    rw s.same (simp (to_z-of_z, c.ranges.y, by, down) got.row.bottom)

pub returns-then-not-is_clean-clause-cells : goal.returns-then-not-is_clean-clause-cells
returns-then-not-is_clean-clause-cells c k less =
    let s = c.args.self.now in
    let bx : SFits w32 s.way.right = search rules in
    let by : SFits w32 s.way.down = search rules in
    let got = is_taken s.rect s.way c.args.x c.args.y _ s.across s.down c.requires.some
    c.requires.known in
    let across = got.across in
    let down = got.down in
    let cells = simp (to_z-of_z, c.ranges.x, c.ranges.y, bx, by, across, down) at c.cells_in-row.ensures.cells in
    ap (λ l. slice_get l k) (c.unmark_all.ensures
    ∙ ap (map unmarked) c.copy_from_slice.ensures.after)
    ∙ taken_cell s.spans.now c.cells_in-row.result.now c.args.x c.args.y s.way.right s.way.down _ k
    c.cells_in-row.ensures.len less (cells k less)

pub returns-else-not-is_clean-clause-cells : goal.returns-else-not-is_clean-clause-cells
returns-else-not-is_clean-clause-cells c k less =
    let s = c.args.self.now in
    let bx : SFits w32 s.way.right = search rules in
    let by : SFits w32 s.way.down = search rules in
    let got = is_taken s.rect s.way c.args.x c.args.y _ s.across s.down c.requires.some
    c.requires.known in
    let across = got.across in
    let down = got.down in
    let cells = simp (to_z-of_z, c.ranges.x, c.ranges.y, bx, by, across, down) at c.cells_in-row.ensures.cells in
    let clean = c.is_clean.ensures.pixels in
    ap (λ l. slice_get l k) c.copy_from_slice.ensures.after
    ∙ clean_taken s.spans.now c.cells_in-row.result.now c.args.x c.args.y s.way.right s.way.down _ k
    c.cells_in-row.ensures.len less (cells k less)
    (clean.0 c.if-not-is_clean.false (c.args.x -ℤ s.way.right +ℤ pos k)
    (c.args.y -ℤ s.way.down))
