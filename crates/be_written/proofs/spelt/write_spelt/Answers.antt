use Rattle.std.proofs.Common.{◌∷◌, [], refl, sym, ◌∙◌, arith, append-nil}
use Rattle.std.specs.Int.{w32, to_le_bytes}
use Rattle.be_message.specs.Messages.{all_fields}
use Rattle.be_message.specs.Sound.{field_count}
use Rattle.be_written.proofs.spelt.write_spelt.Goals as goal

pub returns : goal.returns
returns c = λ m spells.
    let (small, few, rest, is, fields) = spells.parts in
    let all = all_fields m.fields in
    let first = c.cut.ensures (to_le_bytes w32 m.what) (field_count all ∷ rest) is refl in
    let second = c.cut-2.ensures (field_count all ∷ []) rest first.1 refl in
    let count = c.byte_of.ensures (field_count all) second.0 in
    (c.in_ok-write_spelt_fields.ensures all [] (record { front = rest; parts = second.1 ∙ sym (append-nil rest); spells = fields; many = sym count; deep = omega (arith, spells.depth) })).0
