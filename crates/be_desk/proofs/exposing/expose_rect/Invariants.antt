use Rattle.std.proofs.Common.{◌≡◌, pos, ◌+ℤ◌, ◌≤ℤ◌}
use Rattle.be_desk.specs.Exposing.{IsRuledAbove}
use Rattle.be_desk.specs.Renewals.{exposed_by}
use Rattle.be_desk.proofs.RuleLemmas.{columns_after}
use Rattle.be_desk.proofs.exposing.expose_rect.Given as goal

abbrev pub invariant-rows : goal.invariant-rows
invariant-rows l = record {
  from : l.fn.rect.top ≤ℤ l.y;
  to : l.y ≤ℤ (l.fn.rect.bottom +ℤ pos 1);
  region : l.spans.rects ≡ l.fn.spans.rects;
  cells : IsRuledAbove (exposed_by l.fn.renewal) l.fn.spans l.spans l.fn.rect l.y;
}

abbrev pub decreases-rows : goal.decreases-rows
decreases-rows l = columns_after l.y
