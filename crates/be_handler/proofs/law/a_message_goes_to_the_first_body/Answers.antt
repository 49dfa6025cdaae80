-- Each law is a lemma.
use Rattle.be_handler.proofs.FirstLemmas.{goes_to_the_first, is_unknown_to_all, is_skipped_by_filters}
use Rattle.be_handler.proofs.law.a_message_goes_to_the_first_body.Goals as goal

pub returns-clause-first : goal.returns-clause-first
returns-clause-first c = goes_to_the_first

pub returns-clause-unknown : goal.returns-clause-unknown
returns-clause-unknown c = is_unknown_to_all

pub returns-clause-skipped : goal.returns-clause-skipped
returns-clause-skipped c = is_skipped_by_filters
