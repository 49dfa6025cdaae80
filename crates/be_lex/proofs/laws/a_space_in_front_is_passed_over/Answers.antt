use Rattle.be_lex.proofs.Spelling.{words_of-space, behind_word-space}
use Rattle.be_lex.proofs.laws.a_space_in_front_is_passed_over.Goals as goal

pub returns-clause-words : goal.returns-clause-words
returns-clause-words c = words_of-space

pub returns-clause-behind : goal.returns-clause-behind
returns-clause-behind c = behind_word-space
