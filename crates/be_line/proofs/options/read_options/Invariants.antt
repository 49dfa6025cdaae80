use Rattle.std.proofs.Common.{◌≡◌, length, map}
use Rattle.be_lex.specs.Words.{words_of}
use Rattle.be_line.specs.GivenOptions.{told}
use Rattle.be_line.specs.Options.{option_of}
use Rattle.be_line.proofs.options.read_options.Given as goal

abbrev pub invariant-loop-word : goal.invariant-loop-word
invariant-loop-word l = told l.given (map option_of (words_of l.words)) ≡ told l.initial.given (map option_of (words_of l.initial.words))

abbrev pub decreases-loop-word : goal.decreases-loop-word
decreases-loop-word l = length l.words
