use Rattle.std.proofs.Common.{map, ap, ◌∙◌}
use Rattle.be_hall.proofs.Unlogging.{part_fits, log_fits, mapped_next, flat_next, next_seen}
use Rattle.be_hall.proofs.close.unlog_parts.Goals as goal

pub unlog_part-requires : goal.unlog_part-requires
unlog_part-requires g c =
    let i = c.loop-part.invariant in
    log_fits g.P.Parts.log _ _ _ _ c.loop-part.pairs.items c.args.pairs.now.items c.loop-part.yielded _ c.args.old.items c.loop-part.part-iterator.rest.items c.in-Some.part c.loop-part.pairs.ok.0 c.args.pairs.now.ok.0 i.1 i.2 c.in-Some.ensures.steps.0 i.4 c.requires.pairs

pub push_reserved-requires : goal.push_reserved-requires
push_reserved-requires g c =
    let i = c.loop-part.invariant in
    part_fits g.P.Parts.meaning _ _ _ _ _ c.loop-part.parts.items c.args.parts.now.items c.loop-part.yielded _ c.args.old.items c.loop-part.part-iterator.rest.items c.in-Some.part c.loop-part.parts.ok.0 c.args.parts.now.ok.0 c.args.old.ok.0 i.0 i.2 c.in-Some.ensures.steps.0 i.3 c.requires.parts

pub loop-part-preserved : goal.loop-part-preserved
loop-part-preserved g c =
    let i = c.loop-part.invariant in (
      ap (map g.P.Parts.meaning) c.push_reserved.ensures.items ∙ mapped_next g.P.Parts.meaning c.loop-part.parts.items c.args.parts.now.items c.loop-part.yielded c.in-Some.part c.unlog_part.new.part i.0 c.unlog_part.ensures.meaning,
      c.unlog_part.ensures.pairs ∙ flat_next g.P.Parts.log c.loop-part.pairs.items c.args.pairs.now.items c.loop-part.yielded c.in-Some.part i.1,
      next_seen c.loop-part.yielded c.loop-part.part-iterator.rest.items _ c.args.old.items c.in-Some.part i.2 c.in-Some.ensures.steps.0,
      c.push_reserved.ensures.capacity ∙ i.3,
      c.unlog_part.ensures.room ∙ i.4,
    )
