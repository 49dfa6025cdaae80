use Rattle.std.proofs.Common.{◌≡◌, to_z, of_z, rules}
use Rattle.std.specs.Int.{w16}
use Rattle.be_written.specs.MessageText.{stroked, datum_text}
use Rattle.be_written.proofs.MessageLemmas.{edges_written}
use Rattle.be_written.proofs.message.write_rect.Goals as goal

pub returns : goal.returns
unfolding datum_text
returns c =
    let r = c.args.rect in
    let left : to_z w16 (of_z w16 r.left) ≡ r.left = search rules in
    let top : to_z w16 (of_z w16 r.top) ≡ r.top = search rules in
    let right : to_z w16 (of_z w16 r.right) ≡ r.right = search rules in
    let bottom : to_z w16 (of_z w16 r.bottom) ≡ r.bottom = search rules in
    let first = simp (left, top) at c.in_ok-write_stroked.ensures in
    let last = simp (right, bottom) at c.write_stroked-2.ensures in
    edges_written c.write_stroked-2.result (stroked r.left r.top) (stroked r.right r.bottom) c.args.page.now c.write_stroked.new.page c.text.new.self c.write_stroked-2.new.page
    first c.in_ok-text.ensures last
