use Rattle.std.proofs.lemmas.List.Elements.{All-rest}
use Rattle.be_region.specs.Regions.{IsNotEmpty}
use Rattle.be_region.proofs.edges.frame_of.Goals as goal

pub frame_round-requires-clause-others : goal.frame_round-requires-clause-others
frame_round-requires-clause-others c =
    All-rest IsNotEmpty c.in_ok-first.first.now c.in_ok-first.others.now c.args.rects.now c.in_ok-first.ensures.cases.0 c.requires
