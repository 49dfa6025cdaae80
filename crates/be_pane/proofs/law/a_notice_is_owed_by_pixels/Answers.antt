use Rattle.be_pane.proofs.OwedLemmas.{owed_by_pixels}
use Rattle.be_pane.proofs.law.a_notice_is_owed_by_pixels.Goals as goal

pub returns : goal.returns
returns c = owed_by_pixels
