-- A row written over others.
use Rattle.std.proofs.Common.{arith, cond, length, ◌+◌, ◌-◌, ◌≤◌, ◌⊎◌, ◌<◌, ap, slice_get, sum_by, ◌∙◌}
use Rattle.be_span.specs.declared.Cell.{Cell}
use Rattle.be_span.proofs.CellLemmas.{put_sum, part_sum, put_inside, put_others}
use Rattle.be_span.proofs.rows.overwrite.Goals as goal

pub overflow_sub-result : goal.overflow_sub-result
overflow_sub-result c =
    let part = part_sum (λ (x : Cell). cond x.dirty 1 0) c.args.start (c.args.start + length c.args.row.now - c.args.start) c.args.cells.now in
    let all = c.requires.counted in
    omega (arith, c.dirty_of-lost.ensures)

pub returns-clause-inside : goal.returns-clause-inside
returns-clause-inside c k less =
    let long = ap length c.copy_from_slice.ensures.after in
    let fits = c.requires.fits in
    put_inside c.args.start (c.args.start + length c.args.row.now - c.args.start) c.args.cells.now c.copy_from_slice.new.self k (omega arith) (omega arith)
    ∙ ap (λ l. slice_get l k) c.copy_from_slice.ensures.after

pub returns-clause-others : goal.returns-clause-others
returns-clause-others c q beside =
    let long = ap length c.copy_from_slice.ensures.after in
    let fits = c.requires.fits in
    let n = c.args.start + length c.args.row.now - c.args.start in
    let apart : (q < c.args.start) ⊎ (c.args.start + n ≤ q) = grind arith in
    put_others c.args.start n c.args.cells.now c.copy_from_slice.new.self q (omega arith) (omega arith) apart

pub returns-clause-counted : goal.returns-clause-counted
returns-clause-counted c =
    let put = put_sum (λ (x : Cell). cond x.dirty 1 0) c.args.start (c.args.start + length c.args.row.now - c.args.start) c.args.cells.now c.copy_from_slice.new.self in
    let row = ap (sum_by (λ (x : Cell). cond x.dirty 1 0)) c.copy_from_slice.ensures.after in
    let all = c.requires.counted in
    let lost = c.dirty_of-lost.ensures in
    let found = c.requires.more in
    let part = part_sum (λ (x : Cell). cond x.dirty 1 0) c.args.start (c.args.start + length c.args.row.now - c.args.start) c.args.cells.now in
    omega arith

pub dirty_of-lost-requires : goal.dirty_of-lost-requires
dirty_of-lost-requires c none =
    let part = part_sum (λ (x : Cell). cond x.dirty 1 0) c.args.start (c.args.start + length c.args.row.now - c.args.start) c.args.cells.now in
    let all = c.requires.counted in
    omega arith
