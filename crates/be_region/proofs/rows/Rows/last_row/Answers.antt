use Rattle.std.proofs.Common.{rules, arith, SFits, w32}
use Rattle.std.proofs.lemmas.Int.{ints}
use Rattle.be_region.proofs.RowLemmas.{low_in, same_in, same_out, ends_from}
use Rattle.be_region.proofs.rows.Rows.last_row.Goals as goal

pub returns-then-self-y-clause-low : goal.returns-then-self-y-clause-low
returns-then-self-y-clause-low c =
    let f : SFits w32 c.self.inside.bottom = search rules in
    let s = c.self.inside in
    let low = low_in c.args.y s.band.now s.rest.now s.top s.bottom c.self.invariant (rw (← c.self.view_is) at c.requires.from) c.requires.high in
    omega (arith, ints)

pub returns-then-self-y-clause-same : goal.returns-then-self-y-clause-same
returns-then-self-y-clause-same c = λ x z m n.
    let f : SFits w32 c.self.inside.top = search rules in
    let g : SFits w32 c.self.inside.bottom = search rules in
    let h = c.ranges.y in
    let t = c.if-self-y.true in
    let s = c.self.inside in
    rw (← c.self.view_is) (same_in c.args.y s.band.now s.rest.now s.top s.bottom c.self.invariant (rw (← c.self.view_is) at c.requires.from) (omega (arith, ints)) x z m (omega (arith, ints)))

pub returns-else-self-y-clause-same : goal.returns-else-self-y-clause-same
returns-else-self-y-clause-same c = λ x z m n.
    let f : SFits w32 c.self.inside.top = search rules in
    let h = c.ranges.y in
    let t = c.if-self-y.false in
    let s = c.self.inside in
    rw (← c.self.view_is) (same_out c.args.y s.band.now s.rest.now s.top s.bottom c.self.invariant (omega (arith, ints)) x z (omega (arith, ints)))

pub returns-then-self-y-clause-ends : goal.returns-then-self-y-clause-ends
returns-then-self-y-clause-ends c =
    let g : SFits w32 c.self.inside.bottom = search rules in
    let s = c.self.inside in
    rw (← c.self.view_is) (ends_from _ s.band.now s.rest.now s.top s.bottom c.self.invariant (omega (arith, ints)))

pub returns-else-self-y-clause-ends : goal.returns-else-self-y-clause-ends
returns-else-self-y-clause-ends c =
    let f : SFits w32 c.self.inside.top = search rules in
    let s = c.self.inside in
    let down = c.self.invariant.down in
    rw (← c.self.view_is) (ends_from _ s.band.now s.rest.now s.top s.bottom c.self.invariant (omega (arith, ints)))
