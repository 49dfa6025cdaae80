use Rattle.be_rules.proofs.Told.{wants_known, parts_are_known, parts_needed, waiting_known, ending_known, none_with_all}
use Rattle.be_rules.proofs.laws.own_parts_tell_what_is_wanted.Goals as goal

pub returns : goal.returns
returns c = record { wants = wants_known; parts = parts_are_known; needs = parts_needed; waits = waiting_known; ends = ending_known; all = none_with_all }
