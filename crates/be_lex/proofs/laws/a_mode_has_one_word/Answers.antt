use Rattle.be_lex.proofs.ValueSpelling.{mode_text-mode_of}
use Rattle.be_lex.proofs.laws.a_mode_has_one_word.Goals as goal

pub returns : goal.returns
returns c = mode_text-mode_of
