use Rattle.be_rules.proofs.Lawfully.{world_lawful}
use Rattle.be_rules.proofs.laws.the_rules_are_lawful.Goals as goal

pub returns : goal.returns
returns c = world_lawful
