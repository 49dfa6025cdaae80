use Rattle.std.proofs.Common.{rules}
use Rattle.be_reader.proofs.FitsLemmas.{deed_fits, due_is}
use Rattle.be_said.specs.SeenDeeds.{seen_deed}
use Rattle.be_reader.proofs.reader.read_words.Goals as goal

pub done-requires : goal.done-requires
done-requires c =
    deed_fits c.args.said _ _ (seen_deed c.in_ok-deed.deed) (search rules) (due_is seen_deed _ _ c.in_ok-deed.deed c.in_ok-deed.was c.read_deed.ensures)
