use Rattle.std.proofs.Common.{refl}
use Rattle.be_desk.proofs.MeetLemmas.{apart_owned, covered_owned, owned_apart}
use Rattle.be_desk.proofs.altered.owns_some.Goals as goal

pub returns-then-not-meets : goal.returns-then-not-meets
returns-then-not-meets c = (
  λ _. covered_owned c.args.stack.now c.args.u c.args.region.now (c.meets.ensures c.if-not-meets.true),
  λ _. refl,
)

pub returns : goal.returns
returns c =
    let own = c.in_ok-own.own in (
      λ none. apart_owned own c.args.region.now c.args.stack.now c.args.u c.in_ok-own.ensures (c.have_common.ensures.0 none),
      λ none. c.have_common.ensures.1 (owned_apart own c.args.region.now c.args.stack.now c.args.u c.in_ok-own.ensures none),
    )
