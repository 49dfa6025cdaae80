use Rattle.std.proofs.Common.{◌≡◌, ◌+ℤ◌, rules, arith, SFits, w16, w32, ap, ◌∙◌}
use Rattle.std.proofs.lemmas.Int.{to_z-of_z, ints}
use Rattle.be_paint.proofs.SeenLemmas.{place_is}
use Rattle.be_paint.proofs.reach.Reach.site.Goals as goal

pub returns-clause-some : goal.returns-clause-some
returns-clause-some c =
    let w = c.args.self.now.window in
    let wx : SFits w16 w.x = search rules in
    let wy : SFits w16 w.y = search rules in
    let px : SFits w32 c.in_ok-x.x = search rules in
    let py : SFits w32 c.in_ok-x.y = search rules in
    let bx : SFits w32 c.base-right.result.0 = search rules in
    let by : SFits w32 c.base-right.result.1 = search rules in
    let ox : SFits w32 c.origin.result = search rules in
    let oy : SFits w32 c.origin-2.result = search rules in
    let across = simp to_z-of_z at c.origin.ensures.sum in
    let down = simp to_z-of_z at c.origin-2.ensures.sum in
    simp to_z-of_z record {
      place = place_is c.in_ok-x.x c.in_ok-x.y _ c.in_ok-x.ensures.place;
      across = across ∙ ap (λ z. w.x +ℤ c.in_ok-x.x +ℤ z) c.base-right.ensures.across;
      down = down ∙ ap (λ z. w.y +ℤ c.in_ok-x.y +ℤ z) c.base-right.ensures.down;
    }
