use Rattle.read_back.proofs.rounds.again.Goals as goal

pub returns-clause-same : goal.returns-clause-same
returns-clause-same c = c.each_message_has_one_spelling.ensures _ _ c.in_ok-message.message c.in_ok-flatten.ensures c.in_ok-message.ensures.found
