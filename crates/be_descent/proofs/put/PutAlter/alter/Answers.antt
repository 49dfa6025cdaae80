use Rattle.std.proofs.Common.{pos, ◌+ℤ◌, slice_get, count_by, sym, ap, ◌∙◌, arith}
use Rattle.std.proofs.lemmas.Int.{to_z-of_z}
use Rattle.be_span.specs.Spans.{is_dirty}
use Rattle.be_span.specs.declared.Cell.{Cell}
use Rattle.be_span.proofs.MarkLemmas.{all_clean}
use Rattle.be_descent.proofs.PieceLemmas.{put_clean, put_row}
use Rattle.be_descent.proofs.put.PutAlter.alter.Goals as goal

pub returns-clause-cells : goal.returns-clause-cells
returns-clause-cells c k =
    let s = c.args.self.now in
    let cells = simp (to_z-of_z, c.ranges.x, c.ranges.y) at c.row-row.ensures.cells in
    c.put_each.ensures k
    ∙ put_row s.piece.now s.color c.row-row.result.now c.args.cells.now c.args.x c.args.y k (cells k)

pub returns-then-dirty-eq0-clause-cells : goal.returns-then-dirty-eq0-clause-cells
returns-then-dirty-eq0-clause-cells c k =
    let s = c.args.self.now in
    let cells = simp (to_z-of_z, c.ranges.x, c.ranges.y) at c.row-row.ensures.cells in
    let among = c.requires.among in
    let none = c.if-dirty-eq0.true in
    ap (λ l. slice_get l k) c.copy_from_slice.ensures.after
    ∙ put_clean s.color c.row-row.result.now c.args.cells.now k c.row-row.ensures.len
    (λ h. ap is_dirty (sym (cells k h)) ∙ s.read c.if-self.true (c.args.x +ℤ pos k) c.args.y)
    (omega arith)
    ∙ put_row s.piece.now s.color c.row-row.result.now c.args.cells.now c.args.x c.args.y k (cells k)

pub returns-then-dirty-eq0-clause-counted : goal.returns-then-dirty-eq0-clause-counted
returns-then-dirty-eq0-clause-counted c =
    let s = c.args.self.now in
    let cells = simp (to_z-of_z, c.ranges.x, c.ranges.y) at c.row-row.ensures.cells in
    let among = c.requires.among in
    let none = c.if-dirty-eq0.true in
    let long = c.row-row.ensures.len in
    let clean = all_clean c.row-row.result.now
    (λ k h. ap is_dirty (sym (cells k (omega arith)))
    ∙ s.read c.if-self.true (c.args.x +ℤ pos k) c.args.y) in
    let new = ap (count_by (λ (d : Cell). d.dirty)) c.copy_from_slice.ensures.after in
    omega arith
