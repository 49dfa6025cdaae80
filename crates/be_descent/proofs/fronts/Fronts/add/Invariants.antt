use Rattle.std.proofs.Common.{◌≡◌, ◌+◌, ◌≤◌, ℤ, true, length, drop}
use Rattle.be_geom.specs.Rects.{rect_has}
use Rattle.be_descent.specs.Fronts.{lying}
use Rattle.be_descent.proofs.AddLemmas.{with_rest}
use Rattle.be_descent.proofs.fronts.Fronts.add.Given as goal

abbrev pub invariant-loop-view : goal.invariant-loop-view
invariant-loop-view l = record {
  room : length l.self + lying l.parent (drop l.view l.tree) ≤ length l.initial.self + lying
      l.parent (drop l.from l.tree);
  pixels : (x y : ℤ) → rect_has l.area x y ≡ true
      → with_rest l.self l.tree l.view l.parent l.way x y
      ≡ with_rest l.initial.self l.tree l.from l.parent l.way x y;
}
