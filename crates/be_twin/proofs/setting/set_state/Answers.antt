use Rattle.std.proofs.Common.{refl}
use Rattle.be_state.specs.Stacks.{with_state}
use Rattle.be_twin.proofs.MadeLemmas.{restacked}
use Rattle.be_twin.proofs.setting.set_state.Goals as goal

pub returns : goal.returns
returns c = restacked c.args.view c.from.result c.args.pane.now _ c.index_mut.result.now c.set.new.self (λ s. with_state s c.args.state) refl c.from.ensures c.index_mut.ensures.value c.set.ensures
