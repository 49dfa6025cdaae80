use Rattle.std.proofs.Common.{true, ◌&&◌}
use Rattle.std.proofs.Common.{refl, arith, sym, ap, subst, ◌∙◌}
use Rattle.std.proofs.lemmas.Bool.{true≢false}
use Rattle.std.proofs.lemmas.Int.{ints}
use Rattle.be_descent.specs.Clips.{states_allow}
use Rattle.be_descent.specs.Drawing.{is_open, may_draw}
use Rattle.be_descent.specs.Fronts.{shows}
use Rattle.be_descent.specs.Places.{has_moved}
use Rattle.be_geom.specs.Rects.{rect_has}
use Rattle.be_region.specs.Frames.{IsFrame}
use Rattle.be_region.specs.Regions.{region_has}
use Rattle.be_paint.specs.Moving.{copied_by}
use Rattle.be_paint.proofs.MovingLemmas.{moved_painted, none_moved, none_owned, none_shown}
use Rattle.be_paint.proofs.copying.copy_moved.Goals as goal

pub returns-in_default : goal.returns-in_default
returns-in_default c =
    let m = c.args.moved.now in
    let g = c.args.reach.now in
    let none = c.in_default.ensures.none.0 refl in
    none_owned (copied_by c.args.spans.now g m.way m.color)
    (λ x y. has_moved m.source m.to x y && may_draw g x y) c.args.spans.now
    (λ x y has. absurd (true≢false (sym has ∙ ap (λ l. region_has l x y)
    (sym c.region.ensures.region) ∙ none x y)))

pub returns-in_default-part_in : goal.returns-in_default-part_in
returns-in_default-part_in c =
    let m = c.args.moved.now in
    let g = c.args.reach.now in
    let frame = c.in-Some.frame in
    let whole : IsFrame frame c.args.spans.now.rects = subst (IsFrame frame)
    c.region.ensures.region c.in-Some.ensures.some in
    let none = c.in_default-part_in.ensures.none in
    none_owned (copied_by c.args.spans.now g m.way m.color)
    (λ x y. has_moved m.source m.to x y && may_draw g x y) c.args.spans.now
    (λ x y has. none_moved (rect_has frame x y) (has_moved m.source m.to x y) (may_draw g x y)
    (none x y) (whole.holds x y has))

pub returns-in_default-find : goal.returns-in_default-find
returns-in_default-find c =
    let m = c.args.moved.now in
    let g = c.args.reach.now in
    let frame = c.in-Some.frame in
    let whole : IsFrame frame c.args.spans.now.rects = subst (IsFrame frame)
    c.region.ensures.region c.in-Some.ensures.some in
    let part = c.in-Some-part_in.part in
    let of = c.in-Some-part_in.ensures.some in
    let none = c.in_default-find.ensures.none in
    none_owned (copied_by c.args.spans.now g m.way m.color)
    (λ x y. has_moved m.source m.to x y && may_draw g x y) c.args.spans.now
    (λ x y has. none_shown (rect_has part x y) (rect_has frame x y) (has_moved m.source m.to x y)
    (shows g.tree.now g.view g.window x y)
    (states_allow g.states.now g.corner x y && is_open g x y) (none x y) (of.both x y)
    (whole.holds x y has))

pub copy_area-requires-clause-near : goal.copy_area-requires-clause-near
copy_area-requires-clause-near c =
    let near = c.requires.near in
    ((omega (arith, ints), omega (arith, ints)), (omega (arith, ints), omega (arith, ints)))

pub returns : goal.returns
returns c =
    let m = c.args.moved.now in
    let g = c.args.reach.now in
    let frame = c.in-Some.frame in
    let whole : IsFrame frame c.args.spans.now.rects = subst (IsFrame frame)
    c.region.ensures.region c.in-Some.ensures.some in
    let own = c.frames-2.ensures.list in
    let others = c.frames.ensures.list in
    moved_painted c.args.spans.now c.copy_area.new.spans g record {
      shown = c.find_source-shown.result;
      frames = c.frames.result;
      way = m.way;
    } record {
      frames = c.frames-2.result;
      states = g.states;
      corner = g.corner;
      session = g.session;
      window = c.to.result;
    } frame m.source c.in-Some-part_in.part c.in-Some-find.area m.to m.color
    c.region.ensures.whole whole
    c.in-Some-part_in.ensures.some (rw own c.in-Some-find.ensures.some) record {
      states = refl;
      corner = refl;
      session = refl;
      across = c.to.ensures.across;
      down = c.to.ensures.down;
    } (λ x y inside to. rw others (c.find_source-shown.ensures x y inside to)) c.copy_area.ensures
