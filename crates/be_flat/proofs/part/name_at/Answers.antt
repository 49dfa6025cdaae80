use Rattle.std.proofs.Common.{rules}
use Rattle.be_flat.proofs.FieldNames.{name_is_utf8}
use Rattle.be_flat.proofs.part.name_at.Goals as goal

pub unwrap-name-requires : goal.unwrap-name-requires
unwrap-name-requires c = search (rules, name_is_utf8 _ _ _ c.in_ok-bytes.ensures, c.from_utf8.ensures.cases)
