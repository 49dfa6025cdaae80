-- The smallest rectangle round the region, and room for its cells.
use Rattle.std.proofs.Common.{length, sym, subst, ap, ◌∙◌, arith}
use Rattle.be_geom.specs.Rects.{rect_has}
use Rattle.be_region.specs.Bands.{AreBands}
use Rattle.be_region.specs.Regions.{IsNotEmpty}
use Rattle.be_span.proofs.FrameLemmas.{frame_holds, frame_some, pixel_some}
use Rattle.be_span.proofs.retake.Next.new.Goals as goal

some : (c : goal.After-unwrap_or-frame) → IsNotEmpty c.unwrap_or-frame.result
some c = subst IsNotEmpty (sym c.unwrap_or-frame.ensures) (frame_some c.args.region c.frame.result _ c.frame.ensures.some pixel_some)

pub area_of-requires-clause-across : goal.area_of-requires-clause-across
area_of-requires-clause-across c = (some c).across

pub area_of-requires-clause-down : goal.area_of-requires-clause-down
area_of-requires-clause-down c = (some c).down

pub invariant_of-result : goal.invariant_of-result
invariant_of-result c =
    let area = c.area_of.ensures in
    let room = c.in_ok-room.ensures.capacity in
    record {
      bands = subst AreBands c.region.view_is c.region.invariant;
      some = subst IsNotEmpty (sym c.unwrap_or-frame.ensures) (frame_some c.args.region c.frame.result _ c.frame.ensures.some pixel_some);
      holds = λ x y has. ap (λ f. rect_has f x y) c.unwrap_or-frame.ensures ∙ frame_holds c.args.region c.frame.result _ c.frame.ensures.none c.frame.ensures.some x y has;
      none = ap length c.in_ok-room.ensures.items;
      fits = omega arith;
    }
