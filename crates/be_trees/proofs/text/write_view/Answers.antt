use Rattle.std.proofs.Common.{◌≡◌, ◌++◌, List, ℕ, ap, sym, ◌∙◌}
use Rattle.std.specs.Fmt.{decimal, signed_decimal}
use Rattle.std.specs.Prelude.{option_and_then, unwrap_or}
use Rattle.be_written.specs.Lines.{line_of}
use Rattle.be_trees.proofs.TreeLines.{told_of, view_written, words_are}
use Rattle.be_trees.proofs.text.write_view.Goals as goal

pub returns : goal.returns
returns c view there =
    let n = c.args.number in
    let tree = c.args.tree.now in
    let old = c.args.text.now.items in
    let r = c.unwrap-frame.result in
    let m = c.unwrap-mode.result in
    let p : ℕ = c.unwrap_or.result in
    let frame = told_of (λ v. v.frame) tree n view r there
    (sym c.frame_of.ensures.frame ∙ c.unwrap-frame.ensures) in
    let mode = told_of (λ v. v.mode) tree n view m there
    (sym c.mode_of.ensures.mode ∙ c.unwrap-mode.ensures) in
    let parent : p ≡ unwrap_or view.parent 0 =
    c.unwrap_or.ensures ∙ ap (λ o. unwrap_or o 0)
    (c.parent.ensures.parent ∙ ap (option_and_then (λ v. v.parent)) there) in
    view_written old _ _ _ _ _ _ _ (decimal n) (decimal p) (signed_decimal r.left)
    (signed_decimal r.top) (signed_decimal r.right) (signed_decimal r.bottom)
    c.across_word.result.now c.down_word.result.now c.in_ok-extend_from_slice.ensures.items
    c.in_ok-write_view_number.ensures c.in_ok-write_view_number-2.ensures
    c.in_ok-write_edges.ensures c.in_ok-write_word.ensures c.in_ok-write_word-2.ensures
    c.in_ok-push.ensures.items
    ∙ ap (λ (words : List (List ℕ)). old ++ line_of words)
    (words_are n p r m c.across_word.result.now c.down_word.result.now view parent frame mode
    c.across_word.ensures c.down_word.ensures)
