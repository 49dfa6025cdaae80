use Rattle.be_lex.proofs.Spelling.{words_of-append, behind_word-append}
use Rattle.be_lex.proofs.laws.a_word_in_front_is_read.Goals as goal

pub returns-clause-words : goal.returns-clause-words
returns-clause-words c = words_of-append

pub returns-clause-behind : goal.returns-clause-behind
returns-clause-behind c = behind_word-append
