use Rattle.std.proofs.Common.{length, refl, ◌+◌, ◌∙◌}
use Rattle.be_script.specs.Script.{declared_by}
use Rattle.be_written.proofs.WriteLemmas.{heading_written, entries_go_on, all_written}
use Rattle.be_written.proofs.writing.write_history.Goals as goal

pub loop-place-init : goal.loop-place-init
loop-place-init c =
    heading_written (declared_by c.args.script.now) c.args.history.now (length c.args.history.now) c.args.page.now c.text.new.self c.number_word.new.self c.end_line.new.self
    refl c.in_ok-text.ensures c.in_ok-number_word.ensures c.in_ok-end_line.ensures

pub loop-place-preserved : goal.loop-place-preserved
loop-place-preserved c =
    entries_go_on (declared_by c.args.script.now) c.args.history.now c.loop-place.place c.index-history-place.result c.loop-place.page c.write_entry.new.page
    c.loop-place-test.true c.index-history-place.is c.in_ok-write_entry.ensures
    ∙ c.loop-place.invariant

pub returns : goal.returns
returns c = all_written (declared_by c.args.script.now) c.args.history.now (c.loop-place.place + 1) c.loop-place.place c.loop-place.page _ c.loop-place.invariant c.loop-place-test.false
