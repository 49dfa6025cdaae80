use Rattle.std.proofs.Common.{sym, subst, ◌∙◌}
use Rattle.be_script.specs.Script.{declared_by}
use Rattle.be_asking.specs.Using.{Answers, AnswersBehind}
use Rattle.be_asking.proofs.DeliveriesAnswered.{second_behind, second_beside}
use Rattle.be_asking.proofs.delivering.second_answer.Goals as goal
use Rattle.be_asking.proofs.delivering.second_answer.Goals.{then-is_to+in_ok-answer-in-Some, else-is_to+in_ok-answer-in-Some-2}

pub returns-after-is_to-clause-told : goal.returns-after-is_to-clause-told
returns-after-is_to-clause-told c = elim c.if-is_to.branch [
  | then-is_to+in_ok-answer-in-Some w ↦
      second_behind (declared_by c.args.script.now) c.args.held.now.parts c.args.delivery.now c.in-Some.post c.if-is_to.answer c.in-Some.is (sym c.is_to.ensures ∙ w.if-is_to.true)
      (subst (AnswersBehind (declared_by c.args.script.now) c.args.held.now.parts c.in-Some.post.window) (sym w.answer-is) w.in_ok-answer-in-Some.ensures.told)
  | else-is_to+in_ok-answer-in-Some-2 w ↦
      second_beside (declared_by c.args.script.now) c.args.held.now.parts c.args.delivery.now c.in-Some.post c.if-is_to.answer c.in-Some.is (sym c.is_to.ensures ∙ w.if-is_to.false)
      (subst (Answers (declared_by c.args.script.now) c.args.held.now.parts c.in-Some.post.window) (sym w.answer-is) w.in_ok-answer-in-Some-2.ensures.told)
]
