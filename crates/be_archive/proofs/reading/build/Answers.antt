use Rattle.std.proofs.Common.{rules, ◌+◌, ◌-◌, length, suc, option_map, sym, ap, ◌∙◌}
use Rattle.std.proofs.Common.{arith}
use Rattle.be_archive.specs.Reading.{views_from}
use Rattle.be_archive.specs.Rows.{seen_row}
use Rattle.be_archive.proofs.Read.{can, goes_on, left}
use Rattle.be_message.specs.Views.{seen_fields}
use Rattle.be_views.proofs.TreeLemmas.{length_more}
use Rattle.be_archive.proofs.reading.build.Goals as goal

pub add-requires-clause-follows : goal.add-requires-clause-follows
add-requires-clause-follows c =
    let fs = seen_fields c.args.fields.now in
    let k = c.loop-number.number in
    let n = c.value_count-count.result in
    let tree = c.loop-number.tree in
    let row = sym c.row_at.ensures ∙ ap (option_map seen_row) c.in-Some.is in
    can fs (n - (k + 1)) k tree (seen_row c.in-Some.row) c.requires.tree.0 row
    (sym (ap (λ j. views_from fs j k tree) (left n k (search rules)))
    ∙ (sym c.loop-number.invariant.0 ∙ c.requires.tree.1))

pub loop-number-preserved : goal.loop-number-preserved
loop-number-preserved c =
    let fs = seen_fields c.args.fields.now in
    let k = c.loop-number.number in
    let n = c.value_count-count.result in
    let i = c.loop-number.invariant in
    let tree = c.loop-number.tree in
    let view = seen_row c.in-Some.row in
    let row = sym c.row_at.ensures ∙ ap (option_map seen_row) c.in-Some.is in
    let all = ap (λ j. views_from fs j k tree) (left n k (search rules)) in
    let follows = can fs (n - (k + 1)) k tree view c.requires.tree.0 row
    (sym all ∙ (sym i.0 ∙ c.requires.tree.1)) in (
      i.0 ∙ (all ∙ (goes_on fs (n - (k + 1)) k tree view row follows
          ∙ ap (views_from fs (n - (k + 1)) (k + 1)) (sym c.in_ok-add.ensures))),
      ap length c.in_ok-add.ensures ∙ (length_more tree view ∙ (ap suc i.1 ∙ omega arith)),
      i.2,
    )
