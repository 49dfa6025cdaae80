use Rattle.std.proofs.Common.{map, ap, ◌∙◌}
use Rattle.be_facts.proofs.Lists.{map_push}
use Rattle.be_script.specs.Script.{declared_by}
use Rattle.be_ready.proofs.LentPanes.{lent_more}
use Rattle.be_ready.proofs.plans.panes_of.Goals as goal

pub loop-w-preserved : goal.loop-w-preserved
loop-w-preserved c =
    lent_more (declared_by c.args.script.now) c.args.held.now.parts c.args.names.now (map (λ b. b.now) c.loop-w.panes.items) (map (λ b. b.now) c.push.new.self.items) c.loop-w.w-index c.pane-pane.result.now
    (ap (map (λ b. b.now)) c.in_ok-push.ensures.items ∙ map_push (λ b. b.now) c.loop-w.panes.items c.pane-pane.result)
    c.loop-w.invariant c.loop-w-test.true
    (record { kept = c.pane_there.result.now; there = c.pane_there.ensures; stands = c.pane-pane.ensures; tree = c.len-views.ensures.whole })
