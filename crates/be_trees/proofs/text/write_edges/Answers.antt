use Rattle.std.proofs.Common.{◌≡◌, to_z, of_z, rules}
use Rattle.std.specs.Fmt.{signed_decimal}
use Rattle.std.specs.Int.{w16}
use Rattle.be_facts.proofs.Lists.{on_ok_map}
use Rattle.be_trees.proofs.TreeLines.{edges_written}
use Rattle.be_trees.proofs.text.write_edges.Goals as goal

pub returns : goal.returns
returns c =
    let r = c.args.rect in
    let left : to_z w16 (of_z w16 r.left) ≡ r.left = search rules in
    let top : to_z w16 (of_z w16 r.top) ≡ r.top = search rules in
    let right : to_z w16 (of_z w16 r.right) ≡ r.right = search rules in
    let bottom : to_z w16 (of_z w16 r.bottom) ≡ r.bottom = search rules in
    let first = simp left at c.in_ok-write_edge.ensures in
    let second = simp top at c.in_ok-write_edge-2.ensures in
    let third = simp right at c.in_ok-write_edge-3.ensures in
    let fourth = simp bottom at c.write_edge-4.ensures in
    on_ok_map c.write_edge-4.result _ _ fourth
    (edges_written c.args.text.now.items _ _ _ _ (signed_decimal r.left) (signed_decimal r.top)
    (signed_decimal r.right) (signed_decimal r.bottom) first second third)
