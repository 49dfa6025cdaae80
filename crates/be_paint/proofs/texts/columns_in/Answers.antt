use Rattle.std.proofs.Common.{◌≡◌, ◌-ℤ◌, ◌≤ℤ◌, SFits, w16, w32, sym, ◌∙◌, arith, rules}
use Rattle.std.proofs.lemmas.Bool.{and_parts, true≢false}
use Rattle.std.proofs.lemmas.Int.{to_z-of_z, ints, clamps, by_lt_z}
use Rattle.be_descent.proofs.FitLemmas.{fits_32}
use Rattle.be_geom.specs.Points.{between}
use Rattle.be_shape.proofs.BetweenLemmas.{not_above, not_below}
use Rattle.be_paint.proofs.TextLemmas.{text_from}
use Rattle.be_paint.proofs.texts.columns_in.Goals as goal

pub returns : goal.returns
returns c =
    let area = c.args.area in
    let text = c.args.text.now in
    let way = text.way.right in
    let near = c.requires in
    let ended = c.end_of.ensures.near in
    let px : SFits w16 text.pen.x = search rules in
    let al : SFits w16 area.left = search rules in
    let ar : SFits w16 area.right = search rules in
    let wx : SFits w32 way = search rules in
    let fp : SFits w32 c.from.result = search rules in
    let fl : SFits w32 c.from-2.result = search rules in
    let fr : SFits w32 c.from-3.result = search rules in
    let e : SFits w32 c.end_of.result = search rules in
    let pen : c.from.result ≡ text.pen.x = simp to_z-of_z at c.from.ensures in
    let left : c.from-2.result ≡ area.left = simp to_z-of_z at c.from-2.ensures in
    let right : c.from-3.result ≡ area.right = simp to_z-of_z at c.from-3.ensures in
    let dl : SFits w32 (c.from-2.result -ℤ way) = fits_32 (c.from-2.result -ℤ way)
    (omega (arith, ints, near, left)) (omega (arith, ints, near, left)) in
    let dr : SFits w32 (c.from-3.result -ℤ way) = fits_32 (c.from-3.result -ℤ way)
    (omega (arith, ints, near, right)) (omega (arith, ints, near, right)) in
    let first = simp to_z-of_z at c.max-first.ensures.value in
    let last = simp to_z-of_z at c.min-last.ensures.value in
    let ff : SFits w32 c.max-first.result = search rules in
    let ll : SFits w32 c.min-last.result = search rules in
    rw (to_z-of_z w32 _ ff, to_z-of_z w32 _ ll) record {
      near = (
        (
          omega (arith, ints, clamps, near, left, pen, first),
          omega (arith, ints, clamps, near, left, pen, first),
        ),
        (
          omega (arith, ints, clamps, near, right, last, ended),
          omega (arith, ints, clamps, near, right, last, ended),
        ),
      );
      within = λ x y has is.
          let in_area = and_parts (between area.left x area.right)
          (between area.top y area.bottom) has in
          let low = not_below area.left x area.right in_area.0 in
          let high = not_above area.left x area.right in_area.0 in
          let from = text_from text.codes.now text.pen.x text.pen.y (x -ℤ way) (y -ℤ text.way.down)
          (omega (arith, ints, px)) is in
          let to : (x -ℤ way) ≤ℤ c.end_of.result = by_lt_z c.end_of.result (x -ℤ way)
          (λ out. absurd (true≢false (sym is ∙ c.end_of.ensures.end (x -ℤ way)
          (y -ℤ text.way.down) out))) (λ in_it. in_it) in (
            omega (arith, ints, clamps, first, pen, left, low, from),
            omega (arith, ints, clamps, last, right, high, to),
          );
    }
