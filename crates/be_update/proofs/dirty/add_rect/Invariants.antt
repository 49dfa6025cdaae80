use Rattle.std.specs.Prelude.{◌&&◌}
use Rattle.be_geom.specs.Rects.{rect_has}
use Rattle.be_span.specs.Spans.{cell_in, is_dirty}
use Rattle.be_update.specs.Rows.{HasMore, rows_of}
use Rattle.be_update.proofs.dirty.add_rect.Given as goal

abbrev pub invariant-loop-row : goal.invariant-loop-row
invariant-loop-row l = HasMore (λ x y. rect_has (rows_of l.rect l.row) x y && is_dirty (cell_in l.spans x y)) l.initial.rects.items l.rects.items
