use Rattle.std.proofs.Common.{SFits, w16, arith, rules}
use Rattle.std.proofs.lemmas.Int.{ints}
use Rattle.be_geom.specs.Rects.{HasNoPixel}
use Rattle.be_shape.proofs.RowLemmas.{no_pixel_no_rows, is_across, is_down}
use Rattle.be_shape.proofs.row.rows_of.Goals as goal

pub returns-then-is_empty-clause-none : goal.returns-then-is_empty-clause-none
returns-then-is_empty-clause-none c = no_pixel_no_rows _ (c.is_empty.ensures.0 c.if-is_empty.true)

pub returns-clause-some : goal.returns-clause-some
returns-clause-some c =
    let pixels : ¬ HasNoPixel c.args.rect = λ none. cc (c.is_empty.ensures.1 none, c.if-is_empty.false) in
    let top : SFits w16 c.args.rect.top = search rules in
    let bottom : SFits w16 c.args.rect.bottom = search rules in
    let across = is_across c.args.rect pixels in
    let down = is_down c.args.rect pixels in
    record {
      sound = record { low = omega (arith, ints); forward = omega (arith, ints); high = omega (arith, ints) };
      across = across;
      down = down;
      first_is = omega (arith, ints);
      last_is = omega (arith, ints);
    }
