use Rattle.be_lex.proofs.Spelling.{is_word-name}
use Rattle.be_lex.proofs.laws.a_name_is_a_word.Goals as goal

pub returns : goal.returns
returns c = is_word-name
