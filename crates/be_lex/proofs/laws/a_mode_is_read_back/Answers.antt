use Rattle.be_lex.proofs.ValueSpelling.{mode_of-mode_text, is_word-mode_text}
use Rattle.be_lex.proofs.laws.a_mode_is_read_back.Goals as goal

pub returns-clause-value : goal.returns-clause-value
returns-clause-value c = mode_of-mode_text

pub returns-clause-word : goal.returns-clause-word
returns-clause-word c = is_word-mode_text
