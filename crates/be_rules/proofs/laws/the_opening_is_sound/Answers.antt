use Rattle.be_rules.proofs.Begins.{first_sound, first_budget}
use Rattle.be_rules.proofs.laws.the_opening_is_sound.Goals as goal

pub returns : goal.returns
returns c = record { sound = first_sound; work = first_budget }
