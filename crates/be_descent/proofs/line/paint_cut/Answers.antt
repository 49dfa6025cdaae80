use Rattle.std.proofs.Common.{◌≡◌, ℤ, ◌-ℤ◌, Bool, ◌&&◌, inl, inr, SFits, w16, w32}
use Rattle.std.proofs.Common.{sym, ◌∙◌, rules}
use Rattle.std.proofs.lemmas.Bool.{true≢false}
use Rattle.std.proofs.lemmas.Int.{to_z-of_z}
use Rattle.be_geom.specs.Rects.{rect_has}
use Rattle.be_shape.specs.Rasters.{raster_has}
use Rattle.be_shape.specs.Rows.{row_has, span_has}
use Rattle.be_descent.specs.Drawing.{may_draw}
use Rattle.be_descent.specs.Inks.{shape_has}
use Rattle.be_descent.proofs.HullLemmas.{line_held}
use Rattle.be_descent.proofs.PaintLemmas.{none_painted, same_painted}
use Rattle.be_descent.proofs.RegionLemmas.{beside_all, cut_test}
use Rattle.be_descent.proofs.line.paint_cut.Given.{Over}
use Rattle.be_descent.proofs.line.paint_cut.Goals as goal
use Rattle.be_descent.proofs.line.paint_cut.Goals.{After-row-bottom}

-- the first row has the line's columns
top_has : (g : Over) (c : After-row-bottom g) (x : ℤ)
    → row_has c.row-top.result x
    ≡ raster_has c.args.line.now x (c.args.area.top -ℤ c.args.way.down)
top_has g c =
    let area = c.args.area in
    let way = c.args.way in
    let t : SFits w16 area.top = search rules in
    let tb : SFits w32 c.from.result = search rules in
    let is : c.from.result ≡ area.top = simp to_z-of_z at c.from.ensures in
    let near = c.requires.near.1 in
    let d : SFits w32 way.down = search rules in
    let td : SFits w32 (area.top -ℤ way.down) = search rules in
    simp to_z-of_z at (rw is at (simp to_z-of_z at c.row-top.ensures.pixels))

-- the last row has them
bottom_has : (g : Over) (c : After-row-bottom g) (x : ℤ)
    → row_has c.row-bottom.result x
    ≡ raster_has c.args.line.now x (c.args.area.bottom -ℤ c.args.way.down)
bottom_has g c =
    let area = c.args.area in
    let way = c.args.way in
    let b : SFits w16 area.bottom = search rules in
    let bb : SFits w32 c.from-2.result = search rules in
    let is : c.from-2.result ≡ area.bottom = simp to_z-of_z at c.from-2.ensures in
    let near = c.requires.near.1 in
    let d : SFits w32 way.down = search rules in
    let bd : SFits w32 (area.bottom -ℤ way.down) = search rules in
    simp to_z-of_z at (rw is at (simp to_z-of_z at c.row-bottom.ensures.pixels))

pub returns-in_default : goal.returns-in_default
returns-in_default g c =
    let before = (goal.at.returns-in_default g c).After-row-bottom in
    elim c.in_default.ensures.none [
      | inl none ↦ absurd (true≢false (sym c.requires.top.1
          ∙ sym (top_has g before c.requires.top.0) ∙ none c.requires.top.0))
      | inr none ↦ absurd (true≢false (sym c.requires.bottom.1
          ∙ sym (bottom_has g before c.requires.bottom.0) ∙ none c.requires.bottom.0))
    ]

pub returns-in-Some-columns_in : goal.returns-in-Some-columns_in
returns-in-Some-columns_in g c =
    let area = c.args.area in
    let way = c.args.way in
    let line = c.args.line.now in
    let before = (goal.at.returns-in-Some-columns_in g c).After-row-bottom in
    let hold = line_held line area way c.row-top.result c.row-bottom.result c.in-Some.run'
    c.requires.line c.requires.top c.requires.bottom (top_has g before) (bottom_has g before)
    c.in-Some.ensures.some in
    let across : SFits w32 way.right = search rules in
    let part = c.in-Some-columns_in.part in
    let both = simp to_z-of_z at c.in-Some-columns_in.ensures.both in
    let at = g.P.Paint.at c.args.paint.now in
    let may : ℤ → ℤ → Bool = λ x y. may_draw c.args.reach.now x y in
    same_painted (g.P.Paint.rule c.args.paint.now)
    (λ x y. rect_has part x y && (may x y && (shape_has line way x y && at x y)))
    (λ x y. rect_has area x y && (shape_has line way x y && (may x y && at x y))) c.args.spans.now
    c.paint_held.new.spans
    (λ x y. cut_test (rect_has part x y) (rect_has area x y)
    (span_has c.in-Some.run' (x -ℤ way.right)) (may x y) (shape_has line way x y) (at x y)
    (both x y) (hold x y))
    c.paint_held.ensures

pub returns-in_default-columns_in : goal.returns-in_default-columns_in
returns-in_default-columns_in g c =
    let area = c.args.area in
    let way = c.args.way in
    let line = c.args.line.now in
    let before = (goal.at.returns-in_default-columns_in g c).After-row-bottom in
    let hold = line_held line area way c.row-top.result c.row-bottom.result c.in-Some.run'
    c.requires.line c.requires.top c.requires.bottom (top_has g before) (bottom_has g before)
    c.in-Some.ensures.some in
    let across : SFits w32 way.right = search rules in
    let none = simp to_z-of_z at c.in_default-columns_in.ensures.none in
    let at : ℤ → ℤ → Bool = λ x y. may_draw c.args.reach.now x y && g.P.Paint.at c.args.paint.now x y in
    none_painted (g.P.Paint.rule c.args.paint.now)
    (λ x y. rect_has area x y && (shape_has line way x y && at x y)) c.args.spans.now
    (λ x y. beside_all (rect_has area x y) (shape_has line way x y)
    (span_has c.in-Some.run' (x -ℤ way.right)) (at x y)
    (hold x y) (none x y))
