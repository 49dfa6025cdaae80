use Rattle.be_written.proofs.OwnTexts.{traces_are_own_texts}
use Rattle.be_written.proofs.laws.a_runner_notes_its_own_entries.Goals as goal

pub returns : goal.returns
returns c = traces_are_own_texts
