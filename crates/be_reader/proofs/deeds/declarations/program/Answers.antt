use Rattle.std.proofs.Common.{[]}
use Rattle.be_line.specs.declared.statement.Statement.TheVariants as statement
use Rattle.be_reader.specs.Forms.{form_of}
use Rattle.be_reader.specs.Kinds.{a_new_app}
use Rattle.be_reader.proofs.DeedLemmas.{is_deed, reads_end, reads_kind, takes_copy}
use Rattle.be_reader.proofs.deeds.declarations.program.Goals as goal

pub returns : goal.returns
unfolding form_of
returns c =
    is_deed c.args.said.now statement.App c.args.line (c.in_ok-name.name, tt) _ c.unless_faulty.result c.requires
    (reads_kind c.args.said.now a_new_app [] _ _ _ _ _ (takes_copy _ _ _ _ _ _ c.in_ok-name.ensures c.new_app.ensures)
    (reads_end c.args.said.now c.new_app.new.self))
    c.unless_faulty.ensures
