use Rattle.std.proofs.Common.{SFits, w32, rules, subst}
use Rattle.std.proofs.lemmas.Int.{to_z-of_z}
use Rattle.be_shape.specs.Rows.{IsPair, IsRow}
use Rattle.be_descent.proofs.HullLemmas.{ends_hold}
use Rattle.be_descent.proofs.line.ends_of.Goals as goal

pub returns-in-Two-clause-some : goal.returns-in-Two-clause-some
returns-in-Two-clause-some c =
    let pair : IsPair c.in-Two.left c.in-Two.right = subst IsRow c.in-Two.is c.requires in
    let first : SFits w32 c.in-Two.left.first = search rules in
    let last : SFits w32 c.in-Two.right.last = search rules in
    simp to_z-of_z (λ x has. ends_hold c.args.row c.in-Two.left c.in-Two.right x c.in-Two.is
    c.requires has)
