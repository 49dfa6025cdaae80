use Rattle.std.proofs.Common.{[]}
use Rattle.be_line.specs.declared.statement.Statement.TheVariants as statement
use Rattle.be_reader.specs.Forms.{form_of}
use Rattle.be_reader.specs.Kinds.{some_pixels}
use Rattle.be_reader.proofs.DeedLemmas.{is_deed, reads_end, reads_kind}
use Rattle.be_reader.proofs.deeds.declarations.row.Goals as goal

pub returns : goal.returns
unfolding form_of
returns c =
    is_deed c.args.said.now statement.Row c.args.line (c.in_ok-colors.colors.items, tt) _ c.unless_faulty.result c.requires
    (reads_kind c.args.said.now some_pixels [] _ _ _ _ _ c.in_ok-colors.ensures
    (reads_end c.args.said.now c.pixels.new.self))
    c.unless_faulty.ensures
