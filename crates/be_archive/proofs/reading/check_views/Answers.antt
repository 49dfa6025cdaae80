use Rattle.std.proofs.Common.{rules, ◌≡◌, ◌≤◌, ◌+◌, ◌-◌, ◌<◌, [], ◌∷◌, ◌++◌, length, option_map}
use Rattle.std.proofs.Common.{suc, refl, sym, ap, ◌∙◌}
use Rattle.std.proofs.Common.{ℕ, List, subst, arith}
use Rattle.std.proofs.lemmas.List.{length-set}
use Rattle.be_archive.specs.Reading.{views_from}
use Rattle.std.specs.Prelude.{slice_set, unwrap_or}
use Rattle.be_archive.specs.Rows.{DepthsAre, seen_row}
use Rattle.be_archive.proofs.Depths.{depth_of_root, depths_more}
use Rattle.be_archive.proofs.Read.{ends, follows, goes_on, left, read_view}
use Rattle.be_message.specs.Views.{seen_fields}
use Rattle.be_views.specs.Whole.{depth_of, root_view}
use Rattle.be_views.proofs.TreeLemmas.{tree_of_one, tree_of_push, length_more}
use Rattle.be_archive.proofs.reading.check_views.Goals as goal

ones : List ℕ
ones = 1 ∷ 1 ∷ 1 ∷ 1 ∷ 1 ∷ 1 ∷ 1 ∷ 1 ∷ 1 ∷ 1 ∷ 1 ∷ 1 ∷ 1 ∷ 1 ∷ 1 ∷ 1 ∷
    1 ∷ 1 ∷ 1 ∷ 1 ∷ 1 ∷ 1 ∷ 1 ∷ 1 ∷ 1 ∷ 1 ∷ 1 ∷ 1 ∷ 1 ∷ 1 ∷ 1 ∷ 1 ∷ []

pub loop-number-init : goal.loop-number-init
unfolding ones
loop-number-init c =
    let root = root_view c.args.size.x c.args.size.y in
    let fs = seen_fields c.args.fields.now in
    let n = c.value_count-count.result in
    let all : n - 0 ≡ n = omega arith in (
      root ∷ [],
      ap (λ k. views_from fs k 0 (root ∷ [])) (sym c.value_count-count.ensures ∙ sym all),
      c.value_count-count.ensures,
      tree_of_one root refl refl,
      refl,
      depth_of_root ones root refl refl,
      refl,
    )

pub returns-in-None-clause-fault : goal.returns-in-None-clause-fault
returns-in-None-clause-fault c =
    let fs = seen_fields c.args.fields.now in
    let k = c.loop-number.number in
    let n = c.value_count-count.result in
    let i = c.loop-number.invariant in
    let tree = i.0 in
    let o = option_map seen_row c.row_at.result in
    i.1 ∙ (ap (λ j. views_from fs j k tree) (left n k (search rules))
    ∙ ends fs (n - (k + 1)) k tree o (sym c.row_at.ensures)
    (sym (c.depth_of.ensures tree i.5 i.4) ∙ c.in-None.is))

pub loop-number-preserved : goal.loop-number-preserved
loop-number-preserved c =
    let fs = seen_fields c.args.fields.now in
    let k = c.loop-number.number in
    let n = c.value_count-count.result in
    let i = c.loop-number.invariant in
    let tree = i.0 in
    let d = c.in-Some.depth in
    let o = option_map seen_row c.row_at.result in
    let deep = sym (c.depth_of.ensures tree i.5 i.4) ∙ c.in-Some.is in
    let read = read_view fs (n - (k + 1)) k tree o d deep in
    let view = read.0 in
    let f = follows tree view read.2 in
    let within : k < n = search rules in
    let most : n ≤ 31 = search rules in
    let low : length tree < 32 = omega (arith, i.4, within, most) in
    let more = depths_more c.loop-number.depths tree view f.parent d i.3.parents f.is f.before
    (read.3 ∙ ap (λ o. depth_of tree (unwrap_or o 0) + 1) f.is) (omega (arith, low, i.6)) i.5 in (
      tree ++ view ∷ [],
      i.1 ∙ (ap (λ j. views_from fs j k tree) (left n k within)
          ∙ goes_on fs (n - (k + 1)) k tree view (sym c.row_at.ensures ∙ read.1) read.2),
      i.2,
      tree_of_push tree view f.parent i.3 f.is f.before f.above low,
      length_more tree view ∙ (ap suc i.4 ∙ omega arith),
      subst (λ j. DepthsAre (slice_set c.loop-number.depths j d) (tree ++ view ∷ [])) i.4 more,
      length-set c.loop-number.depths (k + 1) d ∙ i.6,
    )
