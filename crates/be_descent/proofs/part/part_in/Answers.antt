use Rattle.std.proofs.Common.{◌≡◌, rules, SFits, w16, w32}
use Rattle.std.proofs.lemmas.Int.{to_z-of_z}
use Rattle.be_geom.specs.declared.rect.Rect.{Rect}
use Rattle.be_descent.proofs.PartLemmas.{beside_down, part_is}
use Rattle.be_descent.proofs.part.part_in.Goals as goal

pub returns-in_err-top-clause-none : goal.returns-in_err-top-clause-none
returns-in_err-top-clause-none c =
    let at : SFits w16 c.args.area.top = search rules in
    let ab : SFits w16 c.args.area.bottom = search rules in
    let rt : SFits w16 c.args.rect.top = search rules in
    let rb : SFits w16 c.args.rect.bottom = search rules in
    let d : SFits w32 c.args.way.down = search rules in
    let first : SFits w32 c.from-3.result = search rules in
    let last : SFits w32 c.from-4.result = search rules in
    let first_is : c.from-3.result ≡ c.args.rect.top = simp to_z-of_z at c.from-3.ensures in
    let last_is : c.from-4.result ≡ c.args.rect.bottom = simp to_z-of_z at c.from-4.ensures in
    rw c.from_residual-in_err-top.ensures
    (beside_down c.args.area c.args.rect c.args.way
    (rw (first_is, last_is) at (simp to_z-of_z at c.in_err-top.ensures.none)))

pub returns-clause-some : goal.returns-clause-some
returns-clause-some c =
    let l : SFits w16 c.in_ok-left.left = search rules in
    let r : SFits w16 c.in_ok-left.right = search rules in
    let t : SFits w16 c.in_ok-top.top = search rules in
    let b : SFits w16 c.in_ok-top.bottom = search rules in
    let al : SFits w16 c.args.area.left = search rules in
    let ar : SFits w16 c.args.area.right = search rules in
    let at : SFits w16 c.args.area.top = search rules in
    let ab : SFits w16 c.args.area.bottom = search rules in
    let rl : SFits w16 c.args.rect.left = search rules in
    let rr : SFits w16 c.args.rect.right = search rules in
    let rt : SFits w16 c.args.rect.top = search rules in
    let rb : SFits w16 c.args.rect.bottom = search rules in
    let dx : SFits w32 c.args.way.right = search rules in
    let dy : SFits w32 c.args.way.down = search rules in
    let e1 : SFits w32 c.from.result = search rules in
    let e2 : SFits w32 c.from-2.result = search rules in
    let e3 : SFits w32 c.from-3.result = search rules in
    let e4 : SFits w32 c.from-4.result = search rules in
    let is1 : c.from.result ≡ c.args.rect.left = simp to_z-of_z at c.from.ensures in
    let is2 : c.from-2.result ≡ c.args.rect.right = simp to_z-of_z at c.from-2.ensures in
    let is3 : c.from-3.result ≡ c.args.rect.top = simp to_z-of_z at c.from-3.ensures in
    let is4 : c.from-4.result ≡ c.args.rect.bottom = simp to_z-of_z at c.from-4.ensures in
    let part : Rect = record {
      left = c.in_ok-left.left;
      top = c.in_ok-top.top;
      right =
          c.in_ok-left.right;
      bottom = c.in_ok-top.bottom;
    } in
    simp to_z-of_z (part_is part c.args.area c.args.rect c.args.way c.in_ok-left.ensures.order
    c.in_ok-top.ensures.order (rw (is1, is2) at (simp to_z-of_z at c.in_ok-left.ensures.both))
    (rw (is3, is4) at (simp to_z-of_z at c.in_ok-top.ensures.both)))
