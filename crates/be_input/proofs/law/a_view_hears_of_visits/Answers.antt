use Rattle.be_input.proofs.VisitLemmas.{hears_of_visits}
use Rattle.be_input.proofs.law.a_view_hears_of_visits.Goals as goal

pub returns : goal.returns
returns c = hears_of_visits
