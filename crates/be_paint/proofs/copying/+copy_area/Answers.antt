use Rattle.std.proofs.Common.{sym, ◌∙◌}
use Rattle.std.proofs.lemmas.Bool.{true≢false}
use Rattle.be_paint.proofs.CopyLemmas.{more_pixels}
use Rattle.be_paint.proofs.copying.+copy_area.Goals as goal

pub halves_of-requires-clause-more : goal.halves_of-requires-clause-more
halves_of-requires-clause-more t c =
    more_pixels c.args.area c.requires.some
    (λ few. true≢false (sym (c.has_room.ensures.1 few) ∙ c.if-not-has_room.true))
