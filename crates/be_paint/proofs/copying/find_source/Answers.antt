use Rattle.std.proofs.Common.{pos, ◌-ℤ◌, refl, SFits, w32, rules, arith}
use Rattle.std.proofs.lemmas.Int.{ints, to_z-of_z}
use Rattle.be_descent.proofs.FitLemmas.{fits_32}
use Rattle.be_descent.specs.declared.way.Way.{Way}
use Rattle.be_paint.proofs.MovingLemmas.{shows_found, some_comes}
use Rattle.be_paint.proofs.copying.find_source.Goals as goal

pub returns-in_err-part : goal.returns-in_err-part
returns-in_err-part c x y inside to =
    let near = c.requires.near in
    let wx : SFits w32 c.args.way.right = search rules in
    let wy : SFits w32 c.args.way.down = search rules in
    let nx : SFits w32 (pos 0 -ℤ c.args.way.right) = fits_32 (pos 0 -ℤ c.args.way.right)
    (omega (arith, ints)) (omega (arith, ints)) in
    let ny : SFits w32 (pos 0 -ℤ c.args.way.down) = fits_32 (pos 0 -ℤ c.args.way.down)
    (omega (arith, ints)) (omega (arith, ints)) in
    let back : Way = record {
      right = pos 0 -ℤ c.args.way.right;
      down = pos 0 -ℤ c.args.way.down;
    } in
    absurd (some_comes c.args.frame c.args.area c.args.way back x y refl refl (simp (to_z-of_z, wx, wy, nx, ny) at c.in_err-part.ensures.none) inside to)

pub returns : goal.returns
returns c x y inside to =
    let near = c.requires.near in
    let wx : SFits w32 c.args.way.right = search rules in
    let wy : SFits w32 c.args.way.down = search rules in
    let nx : SFits w32 (pos 0 -ℤ c.args.way.right) = fits_32 (pos 0 -ℤ c.args.way.right)
    (omega (arith, ints)) (omega (arith, ints)) in
    let ny : SFits w32 (pos 0 -ℤ c.args.way.down) = fits_32 (pos 0 -ℤ c.args.way.down)
    (omega (arith, ints)) (omega (arith, ints)) in
    let back : Way = record {
      right = pos 0 -ℤ c.args.way.right;
      down = pos 0 -ℤ c.args.way.down;
    } in
    shows_found c.args.reach.now c.find.new.self c.args.frame c.args.area c.in_ok-part.part
    c.args.way back c.find.result refl refl
    (simp (to_z-of_z, wx, wy, nx, ny) at c.in_ok-part.ensures.some) c.find.ensures.none c.find.ensures.some x y inside to
