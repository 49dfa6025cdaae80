use Rattle.std.proofs.Common.{[]}
use Rattle.be_line.specs.declared.statement.Statement.TheVariants as statement
use Rattle.be_reader.specs.Forms.{form_of}
use Rattle.be_reader.specs.Kinds.{a_note}
use Rattle.be_reader.proofs.DeedLemmas.{is_deed, reads_end, reads_kind, takes_copy}
use Rattle.be_reader.proofs.deeds.instructions.note.Goals as goal

pub returns : goal.returns
unfolding form_of
returns c =
    λ said. is_deed said statement.Note c.args.line (c.in_ok-text.text, tt) _ c.unless_faulty.result c.requires
    (reads_kind said a_note [] _ _ _ _ _ (takes_copy _ _ _ _ _ _ c.in_ok-text.ensures c.note.ensures)
    (reads_end said c.note.new.self))
    c.unless_faulty.ensures
