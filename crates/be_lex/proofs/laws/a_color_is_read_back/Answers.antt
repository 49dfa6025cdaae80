use Rattle.be_lex.proofs.ValueSpelling.{color_of-color_text, is_word-color_text}
use Rattle.be_lex.proofs.laws.a_color_is_read_back.Goals as goal

pub returns-clause-value : goal.returns-clause-value
returns-clause-value c = color_of-color_text

pub returns-clause-word : goal.returns-clause-word
returns-clause-word c = is_word-color_text
