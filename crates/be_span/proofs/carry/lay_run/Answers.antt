-- Cells over cells, or none.
use Rattle.std.proofs.Common.{◌≡◌, arith, cond, sym, subst, ◌∙◌, refl, length, take, pos, ◌+ℤ◌, rules, SFits, w32}
use Rattle.std.proofs.lemmas.Int.{to_z-of_z}
use Rattle.std.proofs.lemmas.List.{length-take}
use Rattle.std.proofs.lemmas.List.Sums.{sum_by-take-le}
use Rattle.be_facts.proofs.Lists.{get_take}
use Rattle.be_span.specs.declared.Cell.{Cell}
use Rattle.be_span.specs.Runs.{IsBeside}
use Rattle.be_span.proofs.MarkLemmas.{row_clean}
use Rattle.be_span.proofs.LaidLemmas.{laid_nothing, laid_put}
use Rattle.be_span.proofs.carry.lay_run.Goals as goal

pub returns-then-is_empty-clause-cells : goal.returns-then-is_empty-clause-cells
returns-then-is_empty-clause-cells c =
    let fx : SFits w32 c.args.source.x = search rules in
    let fy : SFits w32 c.args.source.y = search rules in
    record { inside = λ k less. sym (laid_nothing _ _ (c.gap_from.ensures.none k less)); beside = λ z w h. refl }

pub put_counted-requires-clause-run : goal.put_counted-requires-clause-run
put_counted-requires-clause-run c =
    let x : SFits w32 c.args.target.x = search rules in
    let y : SFits w32 c.args.target.y = search rules in
    let long = length-take c.min-count.result c.row_from-row.result.now in
    simp to_z-of_z (λ k less. c.requires.inside k (omega arith))

pub returns-clause-cells : goal.returns-clause-cells
returns-clause-cells c =
    let x : SFits w32 c.args.target.x = search rules in
    let y : SFits w32 c.args.target.y = search rules in
    let fx : SFits w32 c.args.source.x = search rules in
    let fy : SFits w32 c.args.source.y = search rules in
    let long : length (take c.min-count.result c.row_from-row.result.now) ≡ c.min-count.result = let l = length-take c.min-count.result c.row_from-row.result.now in omega arith in
    let put = simp to_z-of_z at c.put_counted.ensures.cells in
    let from = simp to_z-of_z at c.row_from-row.ensures.cells in
    let others = simp to_z-of_z at c.put_counted.ensures.others in
    record {
      inside = λ k less. laid_put _ c.args.to.now _ c.row_from-row.result.now k (c.args.target.x +ℤ pos k) c.args.target.y (omega arith) (from k (omega arith)) c.put_counted.ensures.whole (c.requires.inside k (omega arith)) (put k (omega arith) ∙ get_take c.min-count.result c.row_from-row.result.now k less);
      beside = λ z w h. others z w (subst (λ n. IsBeside c.args.target.x c.args.target.y n z w) (sym long) h);
    }

pub dirty_in-requires : goal.dirty_in-requires
dirty_in-requires c none =
    let fx : SFits w32 c.args.source.x = search rules in
    let fy : SFits w32 c.args.source.y = search rules in
    let from = simp to_z-of_z at c.row_from-row.ensures.cells in
    let some = sum_by-take-le (λ (d : Cell). cond d.dirty 1 0) c.row_from-row.result.now c.min-count.result in
    let all = row_clean c.args.from.now c.row_from-row.result.now c.args.source.x c.args.source.y from none in
    omega arith
