use Rattle.std.proofs.Common.{[]}
use Rattle.be_line.specs.declared.statement.Statement.TheVariants as statement
use Rattle.be_reader.specs.Forms.{form_of}
use Rattle.be_reader.specs.Kinds.{a_window}
use Rattle.be_reader.proofs.DeedLemmas.{is_deed, reads_end, reads_kind}
use Rattle.be_reader.proofs.deeds.instructions.lock.Goals as goal

pub returns : goal.returns
unfolding form_of
returns c =
    is_deed c.args.said.now statement.Lock c.args.line (c.window-window.result, tt) _ c.unless_faulty.result c.requires
    (reads_kind c.args.said.now a_window [] _ _ _ _ _ c.window-window.ensures
    (reads_end c.args.said.now c.window-window.new.self))
    c.unless_faulty.ensures
