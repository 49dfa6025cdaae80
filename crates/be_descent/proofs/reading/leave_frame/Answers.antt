use Rattle.std.proofs.Common.{◌&&◌, sym, ◌∙◌}
use Rattle.be_facts.proofs.Truths.{and_first}
use Rattle.be_geom.specs.Rects.{rect_has}
use Rattle.be_descent.specs.Pieces.{nothing}
use Rattle.be_descent.specs.Places.{has_moved}
use Rattle.be_descent.proofs.PaintLemmas.{none_painted, same_painted}
use Rattle.be_descent.proofs.reading.leave_frame.Goals as goal

pub write-requires-clause-own : goal.write-requires-clause-own
write-requires-clause-own c x y has =
    let area = c.args.area in
    c.requires.own x y (and_first (rect_has area x y) (has_moved c.args.frame c.args.way x y)
    (sym (c.in-Some.ensures.some.both x y) ∙ has))

pub returns-in-Some : goal.returns-in-Some
returns-in-Some c =
    same_painted (λ x y d. nothing) (rect_has c.in-Some.part)
    (λ x y. rect_has c.args.area x y && has_moved c.args.frame c.args.way x y) c.args.piece.now
    c.write.new.self c.in-Some.ensures.some.both c.write.ensures

pub returns-in_default : goal.returns-in_default
returns-in_default c =
    none_painted (λ x y d. nothing)
    (λ x y. rect_has c.args.area x y && has_moved c.args.frame c.args.way x y) c.args.piece.now
    c.in_default.ensures.none
