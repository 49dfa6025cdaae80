use Rattle.be_actor.proofs.TurnLemmas.{each_asks_in_turn}
use Rattle.be_actor.proofs.law.each_instruction_asks_in_turn.Goals as goal

pub returns : goal.returns
returns c = each_asks_in_turn
