use Rattle.std.proofs.Common.{◌-ℤ◌, ◌||◌, false, sym, ap, ◌∙◌}
use Rattle.be_facts.proofs.Truths.{and_first, and_false_second}
use Rattle.be_geom.specs.Rects.{rect_has}
use Rattle.be_region.specs.Regions.{region_has}
use Rattle.be_descent.specs.Pieces.{has_shown}
use Rattle.be_descent.specs.Places.{has_moved}
use Rattle.be_descent.proofs.PieceLemmas.{is_read, none_read}
use Rattle.be_descent.proofs.reading.read_parts.Goals as goal

pub returns-in_default : goal.returns-in_default
returns-in_default c =
    let way = c.args.source.now.way in
    none_read c.args.spans.now c.args.source.now c.args.area c.begin.new.self
    c.begin.ensures.region c.begin.ensures.cells
    (λ x y has. ap (λ o. has_shown o (x -ℤ way.right) (y -ℤ way.down)) c.in_default.is)

pub returns-in_default-part_in : goal.returns-in_default-part_in
returns-in_default-part_in c =
    let way = c.args.source.now.way in
    none_read c.args.spans.now c.args.source.now c.args.area c.begin.new.self
    c.begin.ensures.region c.begin.ensures.cells
    (λ x y has. ap (λ o. has_shown o (x -ℤ way.right) (y -ℤ way.down)) c.in-Some.is
    ∙ and_false_second (rect_has c.args.area x y) (has_moved c.in-Some.shown way x y)
    (c.in_default-part_in.ensures.none x y) has)

pub read_rects-requires-clause-own : goal.read_rects-requires-clause-own
read_rects-requires-clause-own c x y has =
    let area = c.args.area in
    let part = c.in-Some-part_in.ensures.some in
    ap (λ rs. region_has rs x y) c.begin.ensures.region
    ∙ ap (λ b. b || false) (and_first (rect_has area x y)
    (has_moved c.in-Some.shown c.args.source.now.way x y) (sym (part.both x y) ∙ has))

pub leave_out-requires : goal.leave_out-requires
leave_out-requires c = record {
  own = λ x y has. ap (λ rs. region_has rs x y) (c.read_rects.ensures.region
      ∙ c.begin.ensures.region) ∙ ap (λ b. b || false) has;
}

pub returns : goal.returns
returns c =
    is_read c.args.spans.now c.args.source.now c.in-Some.shown c.args.area c.in-Some-part_in.part
    c.begin.new.self c.read_rects.new.piece c.leave_out.new.piece c.in-Some.is
    c.begin.ensures.region c.begin.ensures.cells c.in-Some-part_in.ensures.some c.read_rects.ensures
    c.leave_out.ensures
