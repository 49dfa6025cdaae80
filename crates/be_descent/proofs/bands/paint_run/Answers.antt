use Rattle.std.proofs.Common.{ℤ, Bool, ◌&&◌, SFits, w32, rules}
use Rattle.std.proofs.lemmas.Int.{to_z-of_z}
use Rattle.be_descent.specs.Drawing.{may_draw}
use Rattle.be_descent.proofs.RunLemmas.{no_run, run_painted}
use Rattle.be_descent.proofs.bands.paint_run.Goals as goal

pub returns-in-Some : goal.returns-in-Some
returns-in-Some g c =
    let at : ℤ → ℤ → Bool = λ x y. may_draw c.args.reach.now x y && g.L.Lay.at c.args.ink.now x y in
    let fits : SFits w32 c.args.by = search rules in
    run_painted (g.L.Lay.rule c.args.ink.now) c.args.area c.in-Some.part c.args.run c.args.by at
    c.args.spans.now c.paint_reached.new.spans (simp to_z-of_z at c.in-Some.ensures.both)
    c.paint_reached.ensures

pub returns-in_default : goal.returns-in_default
returns-in_default g c =
    let at : ℤ → ℤ → Bool = λ x y. may_draw c.args.reach.now x y && g.L.Lay.at c.args.ink.now x y in
    let fits : SFits w32 c.args.by = search rules in
    no_run (g.L.Lay.rule c.args.ink.now) c.args.area c.args.run c.args.by at c.args.spans.now
    (simp to_z-of_z at c.in_default.ensures.none)
