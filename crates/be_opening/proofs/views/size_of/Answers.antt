-- The edges are as far apart as they may be.
use Rattle.std.proofs.Common.{SFits, w16, rules}
use Rattle.std.proofs.lemmas.Int.{to_z-of_z}
use Rattle.be_script.proofs.FrameLemmas.{frame_sized}
use Rattle.be_opening.proofs.views.size_of.Goals as goal

pub length_of-requires-clause-low : goal.length_of-requires-clause-low
length_of-requires-clause-low c =
    let left : SFits w16 c.args.frame.left = search rules in
    let right : SFits w16 c.args.frame.right = search rules in
    simp to_z-of_z (frame_sized c.args.frame c.requires).across

pub length_of-requires-clause-high : goal.length_of-requires-clause-high
length_of-requires-clause-high c =
    let left : SFits w16 c.args.frame.left = search rules in
    let right : SFits w16 c.args.frame.right = search rules in
    simp to_z-of_z (frame_sized c.args.frame c.requires).wide

pub length_of-requires-2-clause-low : goal.length_of-requires-2-clause-low
length_of-requires-2-clause-low c =
    let top : SFits w16 c.args.frame.top = search rules in
    let bottom : SFits w16 c.args.frame.bottom = search rules in
    simp to_z-of_z (frame_sized c.args.frame c.requires).down

pub length_of-requires-2-clause-high : goal.length_of-requires-2-clause-high
length_of-requires-2-clause-high c =
    let top : SFits w16 c.args.frame.top = search rules in
    let bottom : SFits w16 c.args.frame.bottom = search rules in
    simp to_z-of_z (frame_sized c.args.frame c.requires).high

pub returns-clause-across : goal.returns-clause-across
returns-clause-across c =
    let sized = frame_sized c.args.frame c.requires in
    let left : SFits w16 c.args.frame.left = search rules in
    let right : SFits w16 c.args.frame.right = search rules in
    let wide : SFits w16 c.length_of.result = search rules in
    let is = simp to_z-of_z at c.length_of.ensures in
    simp to_z-of_z (rw is sized.across)

pub returns-clause-down : goal.returns-clause-down
returns-clause-down c =
    let sized = frame_sized c.args.frame c.requires in
    let top : SFits w16 c.args.frame.top = search rules in
    let bottom : SFits w16 c.args.frame.bottom = search rules in
    let high : SFits w16 c.length_of-2.result = search rules in
    let is = simp to_z-of_z at c.length_of-2.ensures in
    simp to_z-of_z (rw is sized.down)
