use Rattle.std.proofs.Common.{◌≡◌, true, false, rules, sym, ◌∙◌}
use Rattle.be_trees.proofs.DigitsRead.{no_pairs, pairs_read}
use Rattle.be_trees.proofs.reading.bytes_in.Goals as goal

pub returns-then-not-are_pairs : goal.returns-then-not-are_pairs
returns-then-not-are_pairs c =
    let no : c.are_pairs.result ≡ false = search rules in
    no_pairs c.args.digits.now (sym c.are_pairs.ensures ∙ no)

pub returns-in-Ok : goal.returns-in-Ok
returns-in-Ok c =
    let yes : c.are_pairs.result ≡ true = search rules in
    pairs_read c.args.digits.now c.in-Ok.bytes.items (sym c.are_pairs.ensures ∙ yes)
    c.in-Ok.ensures.ok
