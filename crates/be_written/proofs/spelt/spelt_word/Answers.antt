use Rattle.std.proofs.Common.{◌∷◌, refl}
use Rattle.std.specs.Int.{w32, to_le_bytes}
use Rattle.be_message.specs.Messages.{all_fields}
use Rattle.be_message.specs.Sound.{field_count}
use Rattle.be_written.proofs.spelt.spelt_word.Goals as goal

pub returns : goal.returns
returns c = λ m spells.
    let (small, few, rest, is, fields) = spells.parts in
    c.word_of.ensures m.what small (c.cut.ensures (to_le_bytes w32 m.what) (field_count (all_fields m.fields) ∷ rest) is refl).0
