use Rattle.be_said.proofs.DueLemmas.{screen-done}
use Rattle.be_said.proofs.EventKept.{screen-kept}
use Rattle.be_said.proofs.said.SoFar.set_screen.Goals as goal

pub invariant_of-self : goal.invariant_of-self
invariant_of-self c = screen-kept _ _ _ _ c.self.invariant c.requires.0 c.requires.1

pub returns : goal.returns
returns c = rw (← c.self.view_is) (screen-done _ _ _)
