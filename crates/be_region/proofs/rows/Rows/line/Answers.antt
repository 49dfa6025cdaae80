use Rattle.std.proofs.Common.{rules, arith, SFits, w32}
use Rattle.std.proofs.lemmas.Int.{ints}
use Rattle.std.proofs.Common.{sym}
use Rattle.be_region.proofs.RowLemmas.{line_in, none_before}
use Rattle.be_region.proofs.rows.Rows.line.Goals as goal

pub returns-then-self-y-clause-columns : goal.returns-then-self-y-clause-columns
returns-then-self-y-clause-columns c = λ x.
    let f : SFits w32 c.self.inside.top = search rules in
    let h = c.ranges.y in
    let t = c.if-self-y.true in
    let s = c.self.inside in
    rw (← c.self.view_is) (line_in c.args.y s.band.now s.rest.now s.top s.bottom c.self.invariant (rw (← c.self.view_is) at c.requires) (omega (arith, ints)) x)

pub returns-else-self-y-clause-columns : goal.returns-else-self-y-clause-columns
returns-else-self-y-clause-columns c = λ x.
    let f : SFits w32 c.self.inside.top = search rules in
    let h = c.ranges.y in
    let t = c.if-self-y.false in
    let s = c.self.inside in
    rw (← c.self.view_is) (sym (none_before s.band.now s.rest.now s.top s.bottom c.self.invariant x c.args.y (omega (arith, ints))))
