use Rattle.be_script.specs.Script.{declared_by}
use Rattle.be_written.proofs.WriteLemmas.{entry_written}
use Rattle.be_written.proofs.writing.write_entry.Goals as goal

pub returns : goal.returns
returns c =
    entry_written c.end_line.result (declared_by c.args.script.now) c.args.number c.args.entry.now c.args.page.now c.number.new.self c.write_actor.new.page c.write_act.new.page c.end_line.new.self
    c.in_ok-number.ensures c.in_ok-write_actor.ensures c.in_ok-write_act.ensures c.end_line.ensures
