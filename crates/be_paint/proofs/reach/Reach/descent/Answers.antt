use Rattle.std.proofs.Common.{◌≡◌, rules, arith, SFits, w16, w32, refl}
use Rattle.std.proofs.lemmas.Int.{to_z-of_z, ints}
use Rattle.be_paint.proofs.FitLemmas.{offset_fits}
use Rattle.be_paint.proofs.reach.Reach.descent.Goals as goal

pub returns : goal.returns
returns c =
    let w = c.args.self.now.window in
    let view = c.args.site.now.view in
    let near = c.requires in
    let wx : SFits w16 w.x = search rules in
    let wy : SFits w16 w.y = search rules in
    let vx : SFits w32 w.x = search rules in
    let vy : SFits w32 w.y = search rules in
    let px : SFits w32 view.right = search rules in
    let py : SFits w32 view.down = search rules in
    let left : c.from.result ≡ w.x = simp to_z-of_z at c.from.ensures in
    let top : c.from-2.result ≡ w.y = simp to_z-of_z at c.from-2.ensures in
    let sx = offset_fits w.x view.right wx near.0 in
    let sy = offset_fits w.y view.down wy near.1 in
    rw (left, top) (simp to_z-of_z record {
      reach = refl;
      near = ((omega (arith, ints), omega (arith, ints)), (omega (arith, ints), omega (arith, ints)));
    })
