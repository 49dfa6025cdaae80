use Rattle.std.proofs.Common.{SFits, w32, rules}
use Rattle.std.proofs.lemmas.Int.{to_z-of_z}
use Rattle.be_shape.specs.Rows.{row_has}
use Rattle.be_shape.specs.declared.row.Span.{Span}
use Rattle.be_descent.proofs.HullLemmas.{round_holds}
use Rattle.be_descent.proofs.line.round.Goals as goal

pub returns-clause-some : goal.returns-clause-some
returns-clause-some c =
    let a : SFits w32 c.in_ok-one.one.first = search rules in
    let b : SFits w32 c.in_ok-one.one.last = search rules in
    let d : SFits w32 c.in_ok-other.other.first = search rules in
    let e : SFits w32 c.in_ok-other.other.last = search rules in
    let low : SFits w32 c.min.result = search rules in
    let high : SFits w32 c.max.result = search rules in
    let first = simp to_z-of_z at c.min.ensures.value in
    let last = simp to_z-of_z at c.max.ensures.value in
    let run : Span = record { first = c.min.result; last = c.max.result } in
    simp to_z-of_z (λ x has. round_holds c.in_ok-one.one c.in_ok-other.other run
    (row_has c.args.one x) (row_has c.args.other x) x first last
    (c.in_ok-one.ensures.some x) (c.in_ok-other.ensures.some x) has)
