use Rattle.std.proofs.Common.{[]}
use Rattle.be_line.specs.declared.statement.Statement.TheVariants as statement
use Rattle.be_reader.specs.Forms.{form_of}
use Rattle.be_reader.specs.Kinds.{an_app}
use Rattle.be_reader.proofs.DeedLemmas.{is_deed, reads_end, reads_kind}
use Rattle.be_reader.proofs.deeds.inputs.after.Goals as goal

pub returns : goal.returns
unfolding form_of
returns c =
    is_deed c.args.said.now statement.After c.args.line (c.app-app.result, tt) _ c.unless_faulty.result c.requires
    (reads_kind c.args.said.now an_app [] _ _ _ _ _ c.app-app.ensures
    (reads_end c.args.said.now c.app-app.new.self))
    c.unless_faulty.ensures
