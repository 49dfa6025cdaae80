-- From a cell on.
use Rattle.std.proofs.Common.{◌≡◌, ◌+◌, ◌-◌, length, slice_get, cond, arith, inl, inr, refl, sym, ap, ◌∙◌}
use Rattle.std.specs.Option.{option_map}
use Rattle.std.proofs.lemmas.Bool.{cases_lt}
use Rattle.std.proofs.lemmas.Option.{slice_get_past}
use Rattle.be_color.specs.declared.colors.Color.{Color}
use Rattle.be_span.specs.declared.Cell.{Cell}
use Rattle.be_span.specs.Slices.{painted}
use Rattle.be_span.proofs.CellLemmas.{part_get, part_length, put_inside, put_others, put_sum}
use Rattle.be_span.proofs.SliceLemmas.{color_before, color_behind, color_here}
use Rattle.be_span.proofs.cells.paint_colors.Goals as goal

pub returns-then-from-cells-clause-cells : goal.returns-then-from-cells-clause-cells
returns-then-from-cells-clause-cells c k =
    let old = c.args.cells.now in
    let new = c.paint_cells.new.cells in
    let from = c.args.from in
    let m = c.min-count.result in
    let n = from + m - from in
    let brush = c.args.brush in
    let colors = c.args.colors.now in
    let least = c.min-count.ensures in
    let kept = c.paint_cells.auto.cells in
    let long = part_length old _ from m refl (omega arith) in
    elim (cases_lt k from) [
      | inl h ↦ put_others from n old new k (omega arith) (omega arith) (inl h) ∙ color_before brush from colors k (slice_get old k) h
      | inr h ↦ elim (cases_lt k (from + m)) [
        | inl less ↦
            let j = k - from in
            let is : from + j ≡ k = omega arith in
            ap (slice_get _) (sym is)
            ∙ put_inside from n old new j (omega arith) (omega arith)
            ∙ c.paint_cells.ensures.cells j
            ∙ ap (option_map _) (part_get old _ from m j refl (omega arith) ∙ ap (slice_get old) is)
            ∙ ap (λ (s : Color). option_map (painted brush s) (slice_get old k)) (color_here from colors k j (omega arith) (omega arith))
        | inr past ↦
            put_others from n old new k (omega arith) (omega arith) (inr (omega arith))
            ∙ elim (cases_lt k (length old)) [
              | inl less ↦ color_behind brush from colors k (slice_get old k) (omega arith)
              | inr over ↦ let none = slice_get_past old k over in none ∙ sym (ap (option_map _) none)
            ]
      ]
    ]

pub returns-then-from-cells-clause-marks : goal.returns-then-from-cells-clause-marks
returns-then-from-cells-clause-marks c =
    let n = c.args.from + c.min-count.result - c.args.from in
    let put = put_sum (λ (x : Cell). cond x.dirty 1 0) c.args.from n c.args.cells.now c.paint_cells.new.cells in
    let marks = c.paint_cells.ensures.marks in
    omega arith

pub returns-else-from-cells-clause-cells : goal.returns-else-from-cells-clause-cells
returns-else-from-cells-clause-cells c k =
    let old = c.args.cells.now in
    elim (cases_lt k c.args.from) [
      | inl h ↦ color_before c.args.brush c.args.from c.args.colors.now k (slice_get old k) h
      | inr h ↦ let none = slice_get_past old k (omega arith) in none ∙ sym (ap (option_map _) none)
    ]
