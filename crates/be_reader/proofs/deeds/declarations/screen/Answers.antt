use Rattle.std.proofs.Common.{[], ◌∷◌}
use Rattle.be_line.specs.declared.statement.Statement.TheVariants as statement
use Rattle.be_reader.specs.Forms.{form_of}
use Rattle.be_reader.specs.Kinds.{a_number}
use Rattle.be_reader.proofs.DeedLemmas.{is_deed, reads_end, reads_kind}
use Rattle.be_reader.proofs.deeds.declarations.screen.Goals as goal

pub returns : goal.returns
unfolding form_of
returns c =
    λ said. is_deed said statement.Screen c.args.line (c.number-width.result, (c.number-height.result, tt)) _ c.unless_faulty.result c.requires
    (reads_kind said (a_number 1 1024) (a_number 1 768 ∷ []) _ _ _ _ _ c.number-width.ensures
    (reads_kind said (a_number 1 768) [] _ _ _ _ _ c.number-height.ensures
    (reads_end said c.number-height.new.self)))
    c.unless_faulty.ensures
