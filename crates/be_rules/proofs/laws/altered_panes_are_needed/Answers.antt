use Rattle.be_rules.proofs.Told.{altered_needed, activated_needed}
use Rattle.be_rules.proofs.laws.altered_panes_are_needed.Goals as goal

pub returns : goal.returns
returns c = record { changed = altered_needed; activated = activated_needed }
