use Rattle.std.proofs.lemmas.Slice.Eq.{slice_eq-Decides}
use Rattle.be_region.proofs.EqLemmas.{span_decides}
use Rattle.be_region.proofs.bands.same_spans.Goals as goal

pub returns : goal.returns
returns c = slice_eq-Decides span_decides c.args.one.now c.args.other.now c.eq.result c.eq.ensures
