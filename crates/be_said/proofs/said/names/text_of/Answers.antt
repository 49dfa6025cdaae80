use Rattle.std.proofs.Common.{rules}
use Rattle.std.specs.Str.{IsUtf8}
use Rattle.be_said.proofs.NameText.{name_is_text}
use Rattle.be_said.proofs.said.names.text_of.Goals as goal

pub unwrap-requires : goal.unwrap-requires
unwrap-requires c =
    let text : IsUtf8 c.as_slice.result.now = rw c.as_slice.ensures (name_is_text c.args.name.now c.requires) in
    search (rules, text, c.from_utf8.ensures.cases)
