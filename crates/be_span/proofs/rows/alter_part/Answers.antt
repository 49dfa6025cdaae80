-- A part altered.
use Rattle.std.proofs.Common.{arith, cond, ℕ, pos, subst, sym, ◌+ℤ◌, ◌+◌, ◌-◌, refl}
use Rattle.std.proofs.lemmas.Int.{to_z-of_z}
use Rattle.be_span.specs.declared.Cell.{Cell}
use Rattle.be_span.specs.Painting.{changed, AreInRange}
use Rattle.be_span.proofs.CellLemmas.{part_done, part_length, part_sum, put_sum}
use Rattle.be_span.proofs.rows.alter_part.Goals as goal

pub alter-requires-clause-range : goal.alter-requires-clause-range
alter-requires-clause-range g c =
    let long = part_length c.args.cells.now _ c.args.start c.args.count refl c.requires.fits in
    simp (to_z-of_z, c.ranges.x, c.ranges.y) (subst (λ (n : ℕ). AreInRange c.args.x c.args.y n) (sym long) c.requires.range)

pub alter-requires-clause-known : goal.alter-requires-clause-known
alter-requires-clause-known g c k less =
    let long = part_length c.args.cells.now _ c.args.start c.args.count refl c.requires.fits in
    simp (to_z-of_z, c.ranges.x, c.ranges.y) (c.requires.known k (omega arith))

pub alter-requires-clause-among : goal.alter-requires-clause-among
alter-requires-clause-among g c =
    let n = c.args.start + c.args.count - c.args.start in
    let few = part_sum (λ (x : Cell). cond x.dirty 1 0) c.args.start n c.args.cells.now in
    let all = c.requires.counted in
    omega arith

pub returns-clause-part : goal.returns-clause-part
returns-clause-part g c =
    let cells = simp (to_z-of_z, c.ranges.x, c.ranges.y) at c.alter.ensures.cells in
    part_done (λ k. changed (g.A.Alter.rule c.args.alter.now) (g.A.Alter.at c.args.alter.now) (c.args.x +ℤ pos k) c.args.y) c.args.start c.args.count c.args.cells.now c.alter.new.cells c.requires.fits c.alter.auto.cells cells

pub returns-clause-counted : goal.returns-clause-counted
returns-clause-counted g c =
    let n = c.args.start + c.args.count - c.args.start in
    let put = put_sum (λ (x : Cell). cond x.dirty 1 0) c.args.start n c.args.cells.now c.alter.new.cells in
    let counted = c.alter.ensures.counted in
    let all = c.requires.counted in
    omega arith
