use Rattle.std.proofs.Common.{rules, ◌≡◌, ◌<◌, ◌-◌, ◌++◌, List, take, sym, ap, ◌∙◌}
use Rattle.std.specs.Prelude.{length}
use Rattle.be_archive.specs.Archives.{further}
use Rattle.be_archive.specs.Columns.{column_kind, column_name, column_of, column_value}
use Rattle.be_message.specs.Fields.{with_value_in}
use Rattle.be_message.specs.Messages.{Field, Message}
use Rattle.be_message.specs.Sound.{kind_of}
use Rattle.be_message.specs.Views.{seen_value}
use Rattle.be_views.specs.Trees.{View}
use Rattle.be_views.proofs.TreeLemmas.{view_there}
use Rattle.be_archive.proofs.Written.{all_further, grown, kind_is, one_further, same_message}
use Rattle.be_archive.proofs.writing.add_column.Goals as goal

pub value-requires : goal.value-requires
value-requires c =
    let below : c.loop-number.number < length c.args.tree.now = search rules in
    view_there c.args.tree.now c.loop-number.number below

pub loop-number-preserved : goal.loop-number-preserved
loop-number-preserved c =
    let tree = c.args.tree.now in
    let n = c.loop-number.number in
    let fs = c.args.message.now.fields in
    let below : n < length tree = search rules in
    let some : 0 < n = search rules in
    let view = view_there tree n below in
    let column = c.args.column in
    let d = seen_value c.value.result in
    let is = c.value.ensures view.0 view.1 in
    let vs = take (n - 1) (further tree) in (
      ap (λ (m : Message). m.what) c.in_ok-put.ensures ∙ c.loop-number.invariant.0,
      ap (λ (m : Message). m.fields) c.in_ok-put.ensures
          ∙ (ap (λ name. with_value_in c.loop-number.message.fields name d) c.name.ensures
          ∙ (ap (λ (l : List Field). with_value_in l (column_name column) d) c.loop-number.invariant.1
          ∙ (grown (column_name column) (column_kind column) (column_value column) fs
          c.requires.new vs view.0 d is (ap kind_of is ∙ kind_is column view.0)
          ∙ ap (λ (l : List View). fs ++ column_of column l)
          (sym (one_further tree n view.0 some view.1))))),
    )

pub returns : goal.returns
returns c =
    let tree = c.args.tree.now in
    let n = c.loop-number.number in
    let end : n ≡ length tree = search rules in
    let some : 0 < n = search rules in
    same_message c.loop-number.message _ c.loop-number.invariant.0
    (c.loop-number.invariant.1
    ∙ ap (λ (l : List View). c.args.message.now.fields ++ column_of c.args.column l)
    (all_further tree n end some))
