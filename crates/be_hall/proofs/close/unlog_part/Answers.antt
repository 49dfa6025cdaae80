use Rattle.be_hall.proofs.Unlogging.{one_more}
use Rattle.be_hall.proofs.close.unlog_part.Goals as goal

pub push_reserved-requires : goal.push_reserved-requires
push_reserved-requires g c =
    let i = c.loop-pair.invariant in
    one_more _ _ _ _ c.args.pairs.now.items c.loop-pair.pairs.items (g.P.Parts.log c.args.part.now) _ (g.P.Parts.log c.loop-pair.part) _ c.loop-pair.pairs.ok.0 c.args.pairs.now.ok.0 i.1 c.in-Some.ensures.oldest i.2 c.requires
