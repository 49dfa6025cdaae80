use Rattle.std.proofs.Common.{SFits, rules, w32, ◌+◌, pos, ap, ◌∙◌}
use Rattle.std.proofs.lemmas.Int.{to_z-of_z}
use Rattle.be_parts.specs.Parts.{meaning_of}
use Rattle.be_shown.specs.Pixels.{pixel_in}
use Rattle.be_shown.proofs.Panes.{none_run}
use Rattle.be_shown.proofs.looks.none_from.Goals as goal

pub returns-clause-none : goal.returns-clause-none
returns-clause-none c = λ k lt.
    let column : SFits w32 c.from-column.result = search rules in
    let row : SFits w32 c.from.result = search rules in
    let end : SFits w32 c.run_at-has.result.1 = search rules in
    let told = simp to_z-of_z at c.run_at-has.ensures.answer in
    let run = simp to_z-of_z at c.run_at-has.ensures.run in
    let far = simp to_z-of_z at c.steps.ensures.far in
    ap (λ q. pixel_in (meaning_of q) (pos (c.args.x + k)) (pos c.args.y)) c.in-Pane.is
    ∙ none_run c.in-Pane.pane.slice c.pane.result.now c.region.result.now c.args.x c.args.y c.steps.result k c.from-column.result c.from.result c.run_at-has.result.1 c.run_at-has.result.0 c.pane.ensures c.region.ensures.region c.from-column.ensures c.from.ensures told c.if-has.false run far lt
