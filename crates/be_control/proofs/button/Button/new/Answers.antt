use Rattle.be_control.proofs.Armed.{none_armed}
use Rattle.be_control.proofs.button.Button.new.Goals as goal

pub returns-clause-heard : goal.returns-clause-heard
returns-clause-heard c = none_armed c.args.bounds
