use Rattle.std.proofs.Common.{◌≡◌, ◌+◌, ap, sym, ◌∙◌, ⊎_elim, Some, subst, arith}
use Rattle.std.proofs.lemmas.Bool.{cases_lt}
use Rattle.be_written.specs.Screens.{rgb_at}
use Rattle.be_written.proofs.ScreenRows.{rgb_there}
use Rattle.be_written.proofs.WordLemmas.{or_is_zero, xor_is_zero}
use Rattle.be_written.proofs.plain.is_plain.Goals as goal

pub loop-cell-preserved : goal.loop-cell-preserved
loop-cell-preserved c =
    let cells = c.args.cells.now in
    let place = c.loop-cell.cell-index in
    record {
      within = omega arith;
      colored =
          λ none k from below.
          let parts = or_is_zero c.loop-cell.other _ none in
          let here : rgb_at cells place ≡ Some c.args.rgb =
          rgb_there cells place _ c.loop-cell-test.true
          ∙ ap Some (c.word.ensures ∙ xor_is_zero _ _ parts.1 ∙ sym c.word-sought.ensures) in
          ⊎_elim (λ before. c.loop-cell.invariant.colored parts.0 k from before)
          (λ past. let at : place ≡ k = omega arith in subst (λ i. rgb_at cells i ≡ Some c.args.rgb) at here)
          (cases_lt k place);
    }
