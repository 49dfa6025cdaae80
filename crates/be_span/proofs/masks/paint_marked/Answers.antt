-- From a cell on.
use Rattle.std.proofs.Common.{◌≡◌, ◌+◌, ◌-◌, length, slice_get, cond, arith, inl, inr, sym, ap, ◌∙◌}
use Rattle.std.specs.Option.{option_map}
use Rattle.std.proofs.lemmas.Bool.{cases_lt}
use Rattle.std.proofs.lemmas.Option.{slice_get_past}
use Rattle.be_facts.proofs.Lists.{get_drop, get_take}
use Rattle.be_color.specs.declared.colors.Color.{Color}
use Rattle.be_color.specs.declared.colors.Color.TheVariants.{Clear, Solid}
use Rattle.be_span.specs.declared.Cell.{Cell}
use Rattle.be_span.specs.Slices.{has_bit_from, painted}
use Rattle.be_span.proofs.CellLemmas.{part_sum, put_inside, put_others, put_sum}
use Rattle.be_span.proofs.MaskLemmas.{before_from, bit_from}
use Rattle.be_span.proofs.masks.paint_marked.Goals as goal

pub mark_each-requires : goal.mark_each-requires
mark_each-requires c told =
    let some = part_sum (λ (x : Cell). cond x.dirty 1 0) c.args.from (length c.args.cells.now - c.args.from) c.args.cells.now in
    let none = c.requires told in
    omega arith

pub returns-then-from-cells-clause-cells : goal.returns-then-from-cells-clause-cells
returns-then-from-cells-clause-cells c k =
    let old = c.args.cells.now in
    let from = c.args.from in
    let n = length old - from in
    let brush = c.args.brush in
    let mask = c.args.mask in
    let color : Color = Solid c.in-Solid.rgb in
    let kept = c.mark_each.auto.cells in
    let new = c.mark_each.new.cells in
    elim (cases_lt k from) [
      | inl h ↦ put_others from n old new k (omega arith) (omega arith) (inl h) ∙ before_from brush c.args.color from mask k (slice_get old k) h
      | inr h ↦ elim (cases_lt k (length old)) [
        | inl less ↦
            let j = k - from in
            let is : from + j ≡ k = omega arith in
            ap (slice_get _) (sym is)
            ∙ put_inside from n old new j (omega arith) (omega arith)
            ∙ c.mark_each.ensures.cells j
            ∙ ap (option_map _) (get_take n _ j (omega arith) ∙ get_drop from old j k (omega arith))
            ∙ ap (λ b. option_map (painted brush (cond b color Clear)) (slice_get old k)) (sym (bit_from from mask k j (omega arith)))
            ∙ ap (λ (s : Color). option_map (painted brush (cond (has_bit_from from mask k) s Clear)) (slice_get old k)) (sym c.in-Solid.is)
        | inr past ↦
            let none = slice_get_past old k past in
            put_others from n old new k (omega arith) (omega arith) (inr (omega arith)) ∙ none ∙ sym (ap (option_map _) none)
      ]
    ]

pub returns-then-from-cells-clause-marks : goal.returns-then-from-cells-clause-marks
returns-then-from-cells-clause-marks c =
    let put = put_sum (λ (x : Cell). cond x.dirty 1 0) c.args.from (length c.args.cells.now - c.args.from) c.args.cells.now c.mark_each.new.cells in
    let marks = c.mark_each.ensures.marks in
    omega arith

pub returns-else-from-cells-clause-cells : goal.returns-else-from-cells-clause-cells
returns-else-from-cells-clause-cells c k =
    let old = c.args.cells.now in
    elim (cases_lt k c.args.from) [
      | inl h ↦ before_from c.args.brush c.args.color c.args.from c.args.mask k (slice_get old k) h
      | inr h ↦ let none = slice_get_past old k (omega arith) in none ∙ sym (ap (option_map _) none)
    ]
