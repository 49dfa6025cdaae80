use Rattle.std.proofs.Common.{◌≡◌, pos, ◌+ℤ◌, ◌-◌, ◌≤◌}
use Rattle.be_span.specs.Laid.{IsLaidRun}
use Rattle.be_span.specs.Spans.{cell_in}
use Rattle.be_span.proofs.carry.lay_row.Given as goal

abbrev pub invariant-loop-done : goal.invariant-loop-done
invariant-loop-done l = record {
  within : l.done ≤ l.fn.count;
  region : l.to.rects ≡ l.fn.to.rects;
  cells : IsLaidRun (λ k. cell_in l.fn.from (l.fn.source.x +ℤ pos k) l.fn.source.y) l.fn.to l.to l.fn.target.x l.fn.target.y l.done;
}

abbrev pub decreases-loop-done : goal.decreases-loop-done
decreases-loop-done l = l.fn.count - l.done
