use Rattle.be_lex.proofs.NumberSpelling.{signed_decimal-number_of}
use Rattle.be_lex.proofs.laws.a_number_has_one_word.Goals as goal

pub returns : goal.returns
returns c = signed_decimal-number_of
