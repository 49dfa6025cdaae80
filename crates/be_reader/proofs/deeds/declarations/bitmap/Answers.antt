use Rattle.std.proofs.Common.{[], ◌∷◌}
use Rattle.be_line.specs.declared.statement.Statement.TheVariants as statement
use Rattle.be_reader.specs.Forms.{form_of}
use Rattle.be_reader.specs.Kinds.{a_new_bitmap, a_number}
use Rattle.be_reader.proofs.DeedLemmas.{is_deed, reads_end, reads_kind, takes_copy}
use Rattle.be_reader.proofs.deeds.declarations.bitmap.Goals as goal

pub returns : goal.returns
unfolding form_of
returns c =
    is_deed c.args.said.now statement.Bitmap c.args.line (c.in_ok-name.name, (c.number-width.result, (c.number-height.result, tt))) _ c.unless_faulty.result c.requires
    (reads_kind c.args.said.now a_new_bitmap (a_number 1 256 ∷ a_number 1 256 ∷ []) _ _ _ _ _ (takes_copy _ _ _ _ _ _ c.in_ok-name.ensures c.new_bitmap.ensures)
    (reads_kind c.args.said.now (a_number 1 256) (a_number 1 256 ∷ []) _ _ _ _ _ c.number-width.ensures
    (reads_kind c.args.said.now (a_number 1 256) [] _ _ _ _ _ c.number-height.ensures
    (reads_end c.args.said.now c.number-height.new.self))))
    c.unless_faulty.ensures
