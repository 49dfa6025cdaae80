use Rattle.std.proofs.Common.{◌≡◌, [], of_z, rules, to_z, w32}
use Rattle.be_line.specs.declared.statement.Statement.TheVariants as statement
use Rattle.be_reader.specs.Forms.{form_of}
use Rattle.be_reader.specs.Kinds.{a_number}
use Rattle.be_reader.proofs.DeedLemmas.{is_deed, reads_end, reads_kind}
use Rattle.be_reader.proofs.deeds.inputs.key.Goals as goal

pub returns : goal.returns
unfolding form_of
returns c =
    let key : to_z w32 (of_z w32 c.from-key.result) ≡ c.from-key.result = search rules in
    λ said. is_deed said statement.Key c.args.line (c.number.result, tt) _ c.unless_faulty.result c.requires
    (reads_kind said (a_number 0 255) [] _ _ _ _ _ c.number.ensures
    (reads_end said c.number.new.self))
    (rw (key, c.from-key.ensures) at c.unless_faulty.ensures)
