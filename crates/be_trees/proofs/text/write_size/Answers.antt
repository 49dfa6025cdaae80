use Rattle.std.proofs.Common.{◌≡◌, ◌++◌, to_z, of_z, rules, sym, ap, ◌∙◌}
use Rattle.std.specs.Fmt.{signed_decimal}
use Rattle.std.specs.Int.{w16}
use Rattle.be_geom.specs.declared.rect.Rect.{Rect}
use Rattle.be_trees.specs.TreeText.{size_words}
use Rattle.be_written.specs.Lines.{line_of}
use Rattle.be_trees.proofs.TreeLines.{size_written, told_of}
use Rattle.be_trees.proofs.text.write_size.Goals as goal

pub returns : goal.returns
returns c root there =
    let r = c.unwrap-root.result in
    let right : to_z w16 (of_z w16 r.right) ≡ r.right = search rules in
    let bottom : to_z w16 (of_z w16 r.bottom) ≡ r.bottom = search rules in
    let first = simp right at c.in_ok-write_edge.ensures in
    let second = simp bottom at c.in_ok-write_edge-2.ensures in
    size_written c.args.text.now.items _ _ _ _ (signed_decimal r.right) (signed_decimal r.bottom)
    c.in_ok-extend_from_slice.ensures.items first second c.in_ok-push.ensures.items
    ∙ ap (λ (frame : Rect). c.args.text.now.items ++ line_of (size_words frame))
    (told_of (λ v. v.frame) c.args.tree.now 0 root r there
    (sym c.frame_of.ensures.frame ∙ c.unwrap-root.ensures))
