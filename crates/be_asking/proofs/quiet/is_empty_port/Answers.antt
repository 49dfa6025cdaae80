use Rattle.be_asking.proofs.QuietAnswered.{front_empty}
use Rattle.be_asking.proofs.quiet.is_empty_port.Goals as goal

pub returns : goal.returns
returns c = front_empty c.args.port.now c.port.result.now c.front.result c.is_none.result c.port.ensures c.is_none.ensures c.front.ensures
