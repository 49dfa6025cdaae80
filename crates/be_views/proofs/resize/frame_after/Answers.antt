use Rattle.std.proofs.Common.{rules, SFits, w32, ap}
use Rattle.std.proofs.lemmas.Int.{to_z-of_z}
use Rattle.be_views.specs.Trees.{View}
use Rattle.be_views.proofs.resize.frame_after.Goals as goal

pub returns-clause-followed : goal.returns-clause-followed
returns-clause-followed c =
    let f1 : SFits w32 c.pixel_width.result = search rules in
    let f2 : SFits w32 c.pixel_height.result = search rules in
    let f3 : SFits w32 c.pixel_width-2.result = search rules in
    let f4 : SFits w32 c.pixel_height-2.result = search rules in
    let h = simp to_z-of_z at c.follow.ensures.followed in
    let g = rw (c.pixel_width.ensures, c.pixel_height.ensures, c.pixel_width-2.ensures, c.pixel_height-2.ensures) at h in
    rw (ap (λ (v : View). v.frame) c.view.view_is, ap (λ (v : View). v.mode) c.view.view_is, ap (λ (v : View). v.frame) c.parent.view_is) at g

pub returns-clause-out : goal.returns-clause-out
returns-clause-out c =
    let f1 : SFits w32 c.pixel_width.result = search rules in
    let f2 : SFits w32 c.pixel_height.result = search rules in
    let f3 : SFits w32 c.pixel_width-2.result = search rules in
    let f4 : SFits w32 c.pixel_height-2.result = search rules in
    let h = simp to_z-of_z at c.follow.ensures.out in
    let g = rw (c.pixel_width.ensures, c.pixel_height.ensures, c.pixel_width-2.ensures, c.pixel_height-2.ensures) at h in
    rw (ap (λ (v : View). v.frame) c.view.view_is, ap (λ (v : View). v.mode) c.view.view_is, ap (λ (v : View). v.frame) c.parent.view_is) at g
