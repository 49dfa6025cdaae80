use Rattle.std.proofs.Common.{Some, None, slice_get, sym, ap, ◌∙◌, arith}
use Rattle.std.proofs.lemmas.Option.{slice_get-get_or, slice_get_past}
use Rattle.std.specs.Prelude.{if◌then◌else◌}
use Rattle.be_paint.proofs.ExposingLemmas.{view_exposed, view_passed, views_exposed}
use Rattle.be_paint.proofs.invalidating.expose_area.Goals as goal
use Rattle.be_paint.proofs.invalidating.expose_area.Goals.{then-is_at_or_below+in-Some}
use Rattle.be_paint.proofs.invalidating.expose_area.Goals.{then-is_at_or_below+in_default}
use Rattle.be_paint.proofs.invalidating.expose_area.Goals.{else-is_at_or_below}

pub loop-view-preserved : goal.loop-view-preserved
loop-view-preserved c =
    let g = c.args.reach.now in
    let n = c.loop-view.view in
    let colors = c.args.colors.now in
    let old = c.args.spans.now in
    let mid = c.loop-view.spans in
    let is = sym c.is_at_or_below.ensures in
    elim c.if-is_at_or_below.branch [
      | then-is_at_or_below+in-Some w ↦
          rw w.spans-is (view_exposed g colors c.args.area n w.in-Some.color.now old mid
          w.expose_view.new.spans
          (ap (λ b. if b then slice_get colors n else None) (is ∙ w.if-is_at_or_below.true)
          ∙ ap (slice_get colors) (sym w.from.ensures)
          ∙ slice_get-get_or colors w.from.result w.in-Some.color.now
          w.in-Some.ensures.lookup.3.0 ∙ ap Some (sym w.in-Some.ensures.lookup.1))
          c.loop-view.invariant w.expose_view.ensures)
      | then-is_at_or_below+in_default w ↦
          rw w.spans-is (view_passed g colors c.args.area n old mid
          (ap (λ b. if b then slice_get colors n else None) (is ∙ w.if-is_at_or_below.true)
          ∙ ap (slice_get colors) (sym w.from.ensures)
          ∙ slice_get_past colors w.from.result w.in_default.ensures.lookup.3)
          c.loop-view.invariant)
      | else-is_at_or_below w ↦
          rw w.spans-is (view_passed g colors c.args.area n old mid
          (ap (λ b. if b then slice_get colors n else None) (is ∙ w.if-is_at_or_below.false))
          c.loop-view.invariant)
    ]

pub returns : goal.returns
returns c =
    let test = c.loop-view-test.false in
    let auto = c.loop-view.auto.view-end in
    let number = c.len-end.ensures.number in
    let few = c.len-end.ensures.whole.few in
    views_exposed c.args.reach.now c.args.colors.now c.args.area c.loop-view.view c.args.spans.now
    c.loop-view.spans (omega arith) c.loop-view.invariant
