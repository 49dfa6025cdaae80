use Rattle.std.proofs.Common.{◌++◌, ◌-◌, arith, sym, ap, ◌∙◌}
use Rattle.be_views.specs.Trees.{children_from}
use Rattle.std.proofs.Common.{drop, ◌+◌}
use Rattle.be_update.proofs.PreorderLemmas.{added, below, none_left, passed, preorder_more, step}
use Rattle.be_update.proofs.preorder.+add_below.Goals as goal
use Rattle.be_update.proofs.preorder.+add_below.Goals.{then-eq+in_ok-add_below, else-eq}

pub loop-child-preserved : goal.loop-child-preserved
loop-child-preserved t c =
    let n = c.args.levels - 1 in
    let tree = c.args.tree.now in
    let k = c.loop-child.child in
    let v = c.args.view in
    let test = c.loop-child-test.true in
    let number = c.len-child-end.ensures.number in
    elim c.if-eq.branch [
      | then-eq+in_ok-add_below w ↦
          let s = step tree k v _ c.parent.result (omega arith) c.parent.ensures.parent (sym w.if-eq.true ∙ c.eq.ensures) in
          ap (λ (vs : _). vs.items ++ below n tree (children_from (k + 1) v (drop (k + 1) tree))) w.views-is
          ∙ added tree n k v s.0 c.loop-child.views.items _ s.1 w.in_ok-add_below.ensures
          ∙ c.loop-child.invariant
      | else-eq w ↦
          let s = step tree k v _ c.parent.result (omega arith) c.parent.ensures.parent (sym w.if-eq.false ∙ c.eq.ensures) in
          ap (λ (vs : _). vs.items ++ below n tree (children_from (k + 1) v (drop (k + 1) tree))) w.views-is
          ∙ passed tree n k v s.0 c.loop-child.views.items s.1
          ∙ c.loop-child.invariant
    ]

pub returns : goal.returns
returns t c =
    let some = c.if-levels-eq0.false in
    let end = c.loop-child-test.false in
    let number = c.len-child-end.ensures.number in
    sym (none_left c.args.tree.now (c.args.levels - 1) c.loop-child.child c.args.view c.loop-child.views.items (omega arith))
    ∙ c.loop-child.invariant
    ∙ ap (λ l. c.args.views.now.items ++ l) (sym (preorder_more c.args.levels c.args.tree.now c.args.view (omega arith)))
