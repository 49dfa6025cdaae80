use Rattle.std.proofs.Common.{sym, ◌∙◌}
use Rattle.be_desk.proofs.MeetLemmas.{covers_nothing, covers_within}
use Rattle.be_desk.proofs.zone.meets.Goals as goal

pub returns-in-Some : goal.returns-in-Some
returns-in-Some c none =
    covers_within c.args.stack.now c.args.u c.in-Some.frame c.args.region.now (sym c.frame.ensures.frame ∙ c.in-Some.is) (c.has_some.ensures.0 none)

pub returns-in-None : goal.returns-in-None
returns-in-None c none =
    covers_nothing c.args.stack.now c.args.u c.args.region.now (sym c.frame.ensures.frame ∙ c.in-None.is)
