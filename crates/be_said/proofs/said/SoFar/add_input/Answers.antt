use Rattle.std.proofs.Common.{arith}
use Rattle.be_said.proofs.DueLemmas.{input-done, input-many}
use Rattle.be_said.proofs.EventKept.{input-kept}
use Rattle.be_said.proofs.said.SoFar.add_input.Goals as goal

pub returns-then-len-ge-EVENTS : goal.returns-then-len-ge-EVENTS
returns-then-len-ge-EVENTS c = rw (← c.self.view_is) (input-many _ _ (omega arith))

pub invariant_of-self : goal.invariant_of-self
invariant_of-self c = rw c.in_ok-push.ensures.items (input-kept _ _ c.args.event c.self.invariant)

pub returns : goal.returns
returns c = rw (← c.self.view_is, c.in_ok-push.ensures.items) (input-done _ _ (omega arith))
