use Rattle.be_lex.proofs.CutLemmas.{cut_at-none, cut_at-some}
use Rattle.be_lex.proofs.word.cut_at.Goals as goal

pub returns-in_default-empty : goal.returns-in_default-empty
returns-in_default-empty c = cut_at-none c.args.byte c.args.word.now c.place_of.result c.split_at.result.1.now c.place_of.ensures.place c.split_at.ensures.back c.in_default-empty.len_below

pub returns-in_default-len1-up : goal.returns-in_default-len1-up
returns-in_default-len1-up c =
    cut_at-some c.args.byte c.args.word.now c.place_of.result c.split_at.result.0.now c.split_at.result.1.now c.place_of.ensures.place c.split_at.ensures.front c.split_at.ensures.back c.in_default-len1-up.len_at_least
