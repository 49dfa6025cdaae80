use Rattle.be_lex.proofs.ValueSpelling.{color_text-color_of}
use Rattle.be_lex.proofs.laws.a_color_has_one_word.Goals as goal

pub returns : goal.returns
returns c = color_text-color_of
