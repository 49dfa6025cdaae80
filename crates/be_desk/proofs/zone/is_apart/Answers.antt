use Rattle.std.proofs.Common.{◌≡◌, Bool, true, false, not, refl}
use Rattle.be_desk.proofs.OthersLemmas.{unaltered}
use Rattle.be_desk.proofs.zone.is_apart.Goals as goal

isnt : (b : Bool) → not b ≡ true → b ≡ false
isnt true e = cc
isnt false e = refl

pub returns-then-not-meets-clause-same : goal.returns-then-not-meets-clause-same
returns-then-not-meets-clause-same c none after stay is =
    unaltered c.args.before.now after c.args.w c.args.u c.args.zone.now stay is c.if-u-w.false (c.meets.ensures c.if-not-meets.true) (c.meets-then-not-meets.ensures (isnt c.meets-then-not-meets.result none))
