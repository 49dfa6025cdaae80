use Rattle.std.proofs.Common.{rules, arith, SFits, w32}
use Rattle.std.proofs.lemmas.Int.{ints}
use Rattle.std.proofs.Common.{pos, ◌+ℤ◌}
use Rattle.be_region.proofs.RowLemmas.{rest_from, rest_same, ends_from}
use Rattle.be_region.proofs.rows.Rows.below.Goals as goal

pub returns-then-self-y-clause-from : goal.returns-then-self-y-clause-from
returns-then-self-y-clause-from c =
    let s = c.self.inside in
    rw c.new.ensures (rest_from c.args.y s.band.now s.rest.now s.top s.bottom c.self.invariant (rw (← c.self.view_is) at c.requires))

pub returns-then-self-y-clause-same : goal.returns-then-self-y-clause-same
returns-then-self-y-clause-same c = λ x z m.
    let g : SFits w32 c.self.inside.bottom = search rules in
    let h = c.ranges.y in
    let t = c.if-self-y.true in
    let s = c.self.inside in
    rw (c.new.ensures, ← c.self.view_is) (rest_same c.args.y s.band.now s.rest.now s.top s.bottom c.self.invariant (omega (arith, ints)) x z m)

pub returns-else-self-y-clause-from : goal.returns-else-self-y-clause-from
returns-else-self-y-clause-from c =
    let g : SFits w32 c.self.inside.bottom = search rules in
    let h = c.ranges.y in
    let t = c.if-self-y.false in
    let s = c.self.inside in
    rw (← c.self.view_is) (ends_from (c.args.y +ℤ pos 1) s.band.now s.rest.now s.top s.bottom c.self.invariant (omega (arith, ints)))
