use Rattle.be_lex.proofs.CodeSpelling.{code_text-code_of}
use Rattle.be_lex.proofs.laws.a_code_has_one_word.Goals as goal

pub returns : goal.returns
returns c = code_text-code_of
