use Rattle.std.proofs.Common.{◌≡◌, Some, None, Option, IfOk, subst, ap, ◌∙◌}
use Rattle.be_views.specs.Trees.{Tree}
use Rattle.be_trees.specs.Reading.{bytes_in}
use Rattle.be_trees.proofs.DigitsRead.{line_read, line_refused, no_line_read}
use Rattle.be_trees.proofs.reading.tree_of_text.Goals as goal

pub returns-in_default : goal.returns-in_default
returns-in_default c = no_line_read c.args.text.now c.in_default.ensures

pub returns-in-Some-2 : goal.returns-in-Some-2
returns-in-Some-2 c =
    let line = c.in-Some.digits.now in
    let found : Some c.in-Some-2.bytes.items ≡ bytes_in line =
    rw c.in-Some-2.is at c.in_ok-bytes.ensures in
    let read : Some c.as_slice.result.now ≡ bytes_in line = ap Some c.as_slice.ensures.value ∙ found in
    subst (λ (tree : Option Tree). IfOk c.tree_of_bytes.result (λ t. t ≡ tree))
    (line_read c.args.text.now line c.as_slice.result.now c.in-Some.ensures read)
    c.tree_of_bytes.ensures

pub returns-in-None : goal.returns-in-None
returns-in-None c =
    let line = c.in-Some.digits.now in
    let none : None ≡ bytes_in line = rw c.in-None.is at c.in_ok-bytes.ensures in
    line_refused c.args.text.now line c.in-Some.ensures none
