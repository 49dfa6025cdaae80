use Rattle.std.proofs.Common.{ℤ, Bool, ◌&&◌, SFits, w32, rules}
use Rattle.std.proofs.lemmas.Int.{to_z-of_z}
use Rattle.be_descent.specs.Drawing.{may_draw}
use Rattle.be_descent.proofs.RunLemmas.{one_run, two_runs}
use Rattle.be_descent.proofs.bands.paint_row.Goals as goal

pub returns-in-One : goal.returns-in-One
returns-in-One g c =
    let at : ℤ → ℤ → Bool = λ x y. may_draw c.args.reach.now x y && g.L.Lay.at c.args.ink.now x y in
    let fits : SFits w32 c.args.by = search rules in
    one_run (g.L.Lay.rule c.args.ink.now) c.args.area c.args.row c.in-One.run' c.args.by at
    c.args.spans.now c.paint_run.new.spans c.in-One.is (simp to_z-of_z at c.paint_run.ensures)

pub returns-in-Two : goal.returns-in-Two
returns-in-Two g c =
    let at : ℤ → ℤ → Bool = λ x y. may_draw c.args.reach.now x y && g.L.Lay.at c.args.ink.now x y in
    let fits : SFits w32 c.args.by = search rules in
    two_runs (g.L.Lay.rule c.args.ink.now) c.args.area c.args.row c.in-Two.left c.in-Two.right
    c.args.by at c.args.spans.now c.paint_run-in-Two.new.spans c.paint_run-in-Two-2.new.spans
    c.in-Two.is c.requires.row (simp to_z-of_z at c.paint_run-in-Two.ensures)
    (simp to_z-of_z at c.paint_run-in-Two-2.ensures)
