use Rattle.std.proofs.Common.{◌≡◌, Some, ◌∙◌}
use Rattle.be_lex.specs.Hex.{hex_text}
use Rattle.be_script.specs.Script.{declared_by}
use Rattle.be_trees.specs.ArchiveLine.{opening_tree}
use Rattle.be_trees.proofs.LinesWritten.{no_some, none_line, tree_line}
use Rattle.be_trees.proofs.line.write_archive.Goals as goal

pub returns-in_default : goal.returns-in_default
returns-in_default c =
    none_line _ c.in_ok-from_slice.field-0.items
    (no_some c.in_ok-tree.field-0 c.in_default.not-Some ∙ c.in_ok-tree.ensures)
    c.in_ok-from_slice.ensures.items

pub returns : goal.returns
returns c =
    let due = opening_tree (declared_by c.args.script.now) c.args.window in
    let found : Some c.in-Some.tree ≡ due =
    (let is = c.in-Some.is in let opened = c.in_ok-tree.ensures in cc) in
    let digits : c.into_bytes-line.result.items ≡ hex_text c.in_ok-bytes.bytes.items =
    (let bytes = c.into_bytes-line.ensures.value in let text = c.in_ok-encode.ensures in cc) in
    tree_line due c.in-Some.tree c.in_ok-message.message c.in_ok-bytes.bytes.items
    c.into_bytes-line.result.items c.push.new.self.items found c.in_ok-message.ensures
    c.in_ok-bytes.ensures digits c.in_ok-push.ensures.items
