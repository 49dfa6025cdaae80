use Rattle.std.proofs.Common.{ℕ, List, ◌++◌, ◌∙◌, ap}
use Rattle.std.specs.Prelude.{codes}
use Rattle.be_machine.specs.Activities.{activities}
use Rattle.be_script.specs.Script.{declared_by}
use Rattle.be_summary.specs.Counts.{count_line}
use Rattle.app_server.proofs.check.text.Goals as goal

pub returns : goal.returns
returns c =
    let d = declared_by c.args.script.now in
    let last = codes "activities" in
    c.in_ok-write_count-2.ensures
    ∙ ap (λ (n : ℕ). c.write_count.new.text.items ++ count_line last n) c.activities.ensures
    ∙ ap (λ (l : List ℕ). l ++ count_line last (activities d))
    (c.in_ok-write_count.ensures
    ∙ ap (λ (l : List ℕ). l ++ count_line (codes "work") c.in_ok-work.field-0) c.new-text.ensures.items
    ∙ ap (λ (n : ℕ). count_line (codes "work") n) c.in_ok-work.ensures)
