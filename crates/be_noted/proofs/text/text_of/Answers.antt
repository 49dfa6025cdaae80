use Rattle.std.proofs.Common.{◌≡◌, ◌∙◌, List, ◌++◌, ℕ, ap, sym}
use Rattle.be_asking.specs.Wants.{runner_in}
use Rattle.be_machine.specs.Activities.{Runner}
use Rattle.be_script.specs.Script.{declared_by}
use Rattle.be_written.specs.Takings.{runner_of}
use Rattle.be_written.specs.TraceText.{noted_text}
use Rattle.be_noted.proofs.text.text_of.Goals as goal
use Rattle.be_noted.proofs.text.text_of.Goals.{in-App, in-Looper}

pub returns : goal.returns
returns c =
    let d = declared_by c.args.script.now in
    let writes : runner_of c.match-runner.writer ≡ runner_in c.args.runner =
    elim c.match-runner.branch [
      | in-App w ↦ ap runner_of w.writer-is ∙ ap runner_in (sym w.in-App.is)
      | in-Looper w ↦ ap runner_of w.writer-is ∙ ap runner_in (sym w.in-Looper.is)
    ] in
    λ traces says. c.into_bytes.ensures ∙ c.in_ok-write_note.ensures traces says
    ∙ ap (λ (old : List ℕ). old ++ noted_text d (runner_of c.match-runner.writer) traces)
    c.new-page.ensures
    ∙ ap (λ (r : Runner). noted_text d r traces) writes
