-- Pane by pane.
use Rattle.std.proofs.Common.{◌∙◌}
use Rattle.be_span.specs.Spans.{cell_in}
use Rattle.be_desk.specs.Plans.{lent}
use Rattle.be_desk.proofs.LentLemmas.{read_map, within_map}
use Rattle.be_desk.proofs.RenewLemmas.{pane_more}
use Rattle.be_desk.proofs.renewal.lay_panes.Goals as goal

pub loop-pane-preserved : goal.loop-pane-preserved
loop-pane-preserved c = record {
  region = c.lay.ensures.region ∙ c.loop-pane.invariant.region;
  cells = λ cells shown x y some. pane_more cells (lent c.args.panes.now) c.loop-pane.pane-index c.pane-item.result.now x y (cell_in c.args.spans.now x y) (cell_in c.loop-pane.spans x y) (cell_in c.lay.new.self x y) (within_map (λ b. b.now) c.args.panes.now c.loop-pane.pane-index c.loop-pane-test.true) (read_map (λ b. b.now) c.args.panes.now c.loop-pane.pane-index c.pane-item.result c.pane-item.is) shown some (c.loop-pane.invariant.cells cells shown x y some) (c.lay.ensures.cells x y);
}
