use Rattle.std.proofs.Common.{◌≡◌, pos, ◌+ℤ◌, ◌≤ℤ◌}
use Rattle.be_desk.specs.Exposing.{IsRuledRow}
use Rattle.be_desk.specs.Renewals.{exposed_by}
use Rattle.be_desk.proofs.RuleLemmas.{columns_after}
use Rattle.be_desk.proofs.exposing.expose_row.Given as goal

abbrev pub invariant-runs : goal.invariant-runs
invariant-runs l = record {
  from : l.fn.left ≤ℤ l.x;
  to : l.x ≤ℤ (l.fn.right +ℤ pos 1);
  region : l.spans.rects ≡ l.fn.spans.rects;
  cells : IsRuledRow (exposed_by l.fn.renewal) l.fn.spans l.spans l.fn.left l.fn.y l.x;
}

abbrev pub decreases-runs : goal.decreases-runs
decreases-runs l = columns_after l.x
