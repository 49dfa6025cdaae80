use Rattle.be_report.proofs.EntryWords.{words_say_their_entry, no_other_words}
use Rattle.be_report.proofs.laws.an_entry_has_one_line.Goals as goal

pub returns-clause-says : goal.returns-clause-says
returns-clause-says c = words_say_their_entry

pub returns-clause-alone : goal.returns-clause-alone
returns-clause-alone c = no_other_words
