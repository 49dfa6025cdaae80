use Rattle.std.proofs.Common.{List, rules, SFits, w16}
use Rattle.std.proofs.lemmas.Result.{IfOk-weaker}
use Rattle.be_geom.specs.declared.rect.Rect.{Rect}
use Rattle.be_region.specs.Regions.{HasPixelsOf}
use Rattle.be_views.specs.Clips.{IsInRange}
use Rattle.be_views.proofs.ClipLemmas.{frame_in_range}
use Rattle.be_views.proofs.clip.region_in.Goals as goal

pub returns-clause-in_range : goal.returns-clause-in_range
returns-clause-in_range c =
    let f : SFits w16 c.args.frame.left = search rules in
    let g : SFits w16 c.args.frame.top = search rules in
    let h : SFits w16 c.args.frame.right = search rules in
    let k : SFits w16 c.args.frame.bottom = search rules in
    IfOk-weaker c.from_rect.result (λ (region : List Rect). HasPixelsOf region c.args.frame) (λ (region : List Rect). IsInRange region) (λ region has. frame_in_range region c.args.frame f g h k has) c.from_rect.ensures
