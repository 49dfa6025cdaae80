use Rattle.std.proofs.Common.{rules}
use Rattle.be_stack.specs.Owner.{owner_at}
use Rattle.be_stack.proofs.stack.Stack.owner_at.Goals as goal

pub returns-then-not-is_on_screen : goal.returns-then-not-is_on_screen
unfolding owner_at
returns-then-not-is_on_screen c = search rules

pub returns : goal.returns
unfolding owner_at
returns c = search rules
