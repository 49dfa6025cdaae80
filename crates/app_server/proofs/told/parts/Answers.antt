use Rattle.app_server.proofs.Split.{front_is, lines_before, none_passed, one_more, rest_is}
use Rattle.app_server.proofs.told.parts.Goals as goal

pub loop-behind-init : goal.loop-behind-init
loop-behind-init c = none_passed c.args.bytes.now

pub loop-behind-preserved : goal.loop-behind-preserved
loop-behind-preserved c =
    one_more c.args.bytes.now c.loop-behind.rest.now c.loop-behind.before c.loop-behind.invariant
    c.in-Some.behind.now c.in-Some.ensures.line

pub returns-clause-lines : goal.returns-clause-lines
returns-clause-lines c =
    lines_before c.args.bytes.now c.loop-behind.rest.now c.loop-behind.before
    c.loop-behind.invariant c.in_default.ensures.none

pub returns-clause-front : goal.returns-clause-front
returns-clause-front c =
    front_is c.args.bytes.now c.loop-behind.rest.now c.loop-behind.before
    c.loop-behind.invariant c.in_default.ensures.none

pub returns-clause-rest : goal.returns-clause-rest
returns-clause-rest c =
    rest_is c.args.bytes.now c.loop-behind.rest.now c.loop-behind.before
    c.loop-behind.invariant c.in_default.ensures.none
