use Rattle.std.proofs.Common.{◌∙◌}
use Rattle.be_script.specs.Script.{declared_by}
use Rattle.be_ready.proofs.Grown.{body_here, body_other}
use Rattle.be_ready.proofs.chains.add_bodies.Goals.{then-line-w+in_ok-add_body, else-line-w}
use Rattle.be_ready.proofs.chains.add_bodies.Goals as goal

pub loop-line-preserved : goal.loop-line-preserved
loop-line-preserved c =
    elim c.if-line-w.branch [
      | then-line-w+in_ok-add_body w ↦
          w.chain-is
          ∙ body_here (declared_by c.args.script.now) c.args.w c.loop-line.line-index c.loop-line.chain c.deref-line-items.result.now c.line-item.result c.deref-line-items.ensures.value c.loop-line-test.true c.line-item.is
          c.loop-line.invariant w.add_body.new.chain w.if-line-w.true w.in_ok-add_body.ensures
      | else-line-w w ↦
          w.chain-is
          ∙ body_other (declared_by c.args.script.now) c.args.w c.loop-line.line-index c.loop-line.chain c.deref-line-items.result.now c.line-item.result c.deref-line-items.ensures.value c.loop-line-test.true c.line-item.is
          c.loop-line.invariant w.if-line-w.false
    ]
