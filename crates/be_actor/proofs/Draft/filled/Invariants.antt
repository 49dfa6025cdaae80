use Rattle.std.proofs.Common.{drop}
use Rattle.std.specs.Option.{option_copied}
use Rattle.be_actor.specs.DraftViews.{seen_words}
use Rattle.be_actor.proofs.FillingLemmas.{IsFilling}
use Rattle.be_actor.proofs.Draft.filled.Given as goal

abbrev pub invariant-loop-word : goal.invariant-loop-word
invariant-loop-word l =
    IsFilling (option_copied l.current) l.fn.self l.word-index l.message (seen_words (drop l.word-index l.word-items))
