use Rattle.std.proofs.Common.{◌≡◌, ◌++◌, drop}
use Rattle.be_script.specs.Script.{declared_by}
use Rattle.be_written.specs.Takings.{runner_of}
use Rattle.be_written.specs.TraceText.{noted_text}
use Rattle.be_written.proofs.NoteLemmas.{listing}
use Rattle.be_written.proofs.note.write_listing.Given as goal

-- what is written and what is left to write are the whole listing
abbrev pub invariant-loop-view : goal.invariant-loop-view
invariant-loop-view l =
    l.page ++ noted_text (declared_by l.script) (runner_of l.runner) (listing (drop l.view-index l.views))
    ≡ l.fn.page ++ noted_text (declared_by l.script) (runner_of l.runner) (listing l.views)
