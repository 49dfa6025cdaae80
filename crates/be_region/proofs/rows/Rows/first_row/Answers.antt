use Rattle.std.proofs.Common.{rules, arith, SFits, w32}
use Rattle.std.proofs.lemmas.Int.{ints}
use Rattle.be_region.proofs.RowLemmas.{none_before}
use Rattle.be_region.proofs.rows.Rows.first_row.Goals as goal

pub returns-clause-none : goal.returns-clause-none
returns-clause-none c = λ x y k.
    let f : SFits w32 c.self.inside.top = search rules in
    let s = c.self.inside in
    rw (← c.self.view_is) (none_before s.band.now s.rest.now s.top s.bottom c.self.invariant x y (omega (arith, ints)))
