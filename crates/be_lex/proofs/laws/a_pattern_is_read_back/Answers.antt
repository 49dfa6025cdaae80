use Rattle.be_lex.proofs.ValueSpelling.{pattern_of-pattern_text, is_word-pattern_text}
use Rattle.be_lex.proofs.laws.a_pattern_is_read_back.Goals as goal

pub returns-clause-value : goal.returns-clause-value
returns-clause-value c = pattern_of-pattern_text

pub returns-clause-word : goal.returns-clause-word
returns-clause-word c = is_word-pattern_text
