use Rattle.std.proofs.Common.{List, rules, SFits, w16}
use Rattle.std.proofs.lemmas.Int.{to_z-of_z}
use Rattle.std.proofs.lemmas.Result.{IfOk-weaker}
use Rattle.be_geom.specs.declared.rect.Rect.{Rect}
use Rattle.be_region.specs.Regions.{HasPixelsOf}
use Rattle.be_views.specs.Clips.{HasPixelsMoved}
use Rattle.be_views.proofs.ClipLemmas.{moved_pixels}
use Rattle.be_views.proofs.clip.region_of.Goals as goal

pub returns : goal.returns
returns c =
    let l : SFits w16 c.in-Some.left = search rules in
    let r : SFits w16 c.in-Some.right = search rules in
    let t : SFits w16 c.in-Some-moved_edges.top = search rules in
    let b : SFits w16 c.in-Some-moved_edges.bottom = search rules in
    let f1 : SFits w16 c.args.frame.left = search rules in
    let f2 : SFits w16 c.args.frame.top = search rules in
    let f3 : SFits w16 c.args.frame.right = search rules in
    let f4 : SFits w16 c.args.frame.bottom = search rules in
    let dx = c.ranges.left in
    let dy = c.ranges.top in
    let has = simp to_z-of_z at c.from_rect.ensures in
    let across = c.in-Some.ensures in
    let down = c.in-Some-moved_edges.ensures in
    IfOk-weaker c.from_rect.result (λ (region : List Rect). HasPixelsOf region record { left = c.in-Some.left; top = c.in-Some-moved_edges.top; right = c.in-Some.right; bottom = c.in-Some-moved_edges.bottom }) (λ (region : List Rect). HasPixelsMoved region c.args.frame c.args.left c.args.top) (λ region h. moved_pixels region c.args.frame c.in-Some.left c.in-Some.right c.in-Some-moved_edges.top c.in-Some-moved_edges.bottom c.args.left c.args.top h (simp to_z-of_z at across) (simp to_z-of_z at down)) has
