use Rattle.std.proofs.Common.{◌≡◌, List, ◌++◌}
use Rattle.be_facts.proofs.Lists.{on_ok_map}
use Rattle.be_machine.specs.declared.Entry.{Entry}
use Rattle.be_script.specs.Script.{declared_by}
use Rattle.be_written.specs.Notings.{AreTold}
use Rattle.be_written.specs.TraceText.{loopers_text, traces_text}
use Rattle.be_written.proofs.RunnerTexts.{traces_written}
use Rattle.be_written.proofs.traces.write_traces.Goals as goal

pub returns : goal.returns
returns g c =
    let d = declared_by c.args.script.now in
    let told = g.N.Notes.told c.args.notes.now in
    let apps = c.write_apps.new.page in
    let new = c.write_loopers.new.page in
    on_ok_map c.write_loopers.result ((h : List Entry) → AreTold d h told → new ≡ apps ++ loopers_text d h) ((h : List Entry) → AreTold d h told → new ≡ c.args.page.now ++ traces_text d h) c.write_loopers.ensures
    (λ loopers h noted. traces_written d h c.args.page.now c.text.new.self c.end_line.new.self apps new
    c.in_ok-text.ensures c.in_ok-end_line.ensures (c.in_ok-write_apps.ensures h noted) (loopers h noted))
