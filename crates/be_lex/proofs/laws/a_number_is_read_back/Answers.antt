use Rattle.be_lex.proofs.NumberSpelling.{is_number-signed_decimal, number_of-signed_decimal, is_word-signed_decimal}
use Rattle.be_lex.proofs.laws.a_number_is_read_back.Goals as goal

pub returns-clause-form : goal.returns-clause-form
returns-clause-form c = is_number-signed_decimal

pub returns-clause-value : goal.returns-clause-value
returns-clause-value c = number_of-signed_decimal

pub returns-clause-word : goal.returns-clause-word
returns-clause-word c = is_word-signed_decimal
