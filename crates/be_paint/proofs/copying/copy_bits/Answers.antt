use Rattle.std.proofs.Common.{◌+ℤ◌, SFits, w32, rules, refl, arith}
use Rattle.std.proofs.lemmas.Int.{ints, to_z-of_z}
use Rattle.be_descent.proofs.FitLemmas.{fits_32}
use Rattle.be_descent.specs.declared.way.Way.{Way}
use Rattle.be_paint.proofs.MovingLemmas.{moved_copied}
use Rattle.be_paint.proofs.copying.copy_bits.Goals as goal

pub returns-clause-copied : goal.returns-clause-copied
returns-clause-copied c seen stands x y =
    let g = c.args.reach.now in
    let site = c.in-Some.site in
    let way = c.way_to-way.result in
    let from = c.in-Some.ensures.near.1 in
    let near = c.way_to-way.ensures.near in
    let ox : SFits w32 c.in-Some.site.origin.right = search rules in
    let oy : SFits w32 c.in-Some.site.origin.down = search rules in
    let wx : SFits w32 c.way_to-way.result.right = search rules in
    let wy : SFits w32 c.way_to-way.result.down = search rules in
    let sx : SFits w32 (site.origin.right +ℤ way.right) = fits_32
    (site.origin.right +ℤ way.right) (omega (arith, ints)) (omega (arith, ints)) in
    let sy : SFits w32 (site.origin.down +ℤ way.down) = fits_32
    (site.origin.down +ℤ way.down) (omega (arith, ints)) (omega (arith, ints)) in
    let to : Way = record {
      right = site.origin.right +ℤ way.right;
      down = site.origin.down +ℤ way.down;
    } in
    moved_copied g site seen c.args.source c.args.target way to c.args.view_color c.args.spans.now
    c.copy_moved.new.spans stands c.in-Some.ensures.some record {
      across = c.way_to-way.ensures.across;
      down = c.way_to-way.ensures.down;
      right = refl;
      below = refl;
    } (simp (to_z-of_z, ox, oy, wx, wy, sx, sy) at (rw c.descent.ensures.reach
    at c.copy_moved.ensures)) x y
