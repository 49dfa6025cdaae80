use Rattle.std.proofs.Common.{◌≡◌, to_z, of_z, rules}
use Rattle.std.specs.Int.{w16}
use Rattle.be_script.specs.Script.{declared_by}
use Rattle.be_written.specs.Takings.{runner_of}
use Rattle.be_written.proofs.NoteLemmas.{listed_written}
use Rattle.be_written.proofs.note.write_listed.Goals as goal

pub returns : goal.returns
returns c =
    let r = c.args.rect in
    let left : to_z w16 (of_z w16 r.left) ≡ r.left = search rules in
    let top : to_z w16 (of_z w16 r.top) ≡ r.top = search rules in
    let right : to_z w16 (of_z w16 r.right) ≡ r.right = search rules in
    let bottom : to_z w16 (of_z w16 r.bottom) ≡ r.bottom = search rules in
    let first = simp left at c.in_ok-write_edge.ensures in
    let second = simp top at c.in_ok-write_edge-2.ensures in
    let third = simp right at c.in_ok-write_edge-3.ensures in
    let fourth = simp bottom at c.in_ok-write_edge-4.ensures in
    listed_written c.end_line.result (declared_by c.args.script.now) (runner_of c.args.runner) c.args.view r
    c.args.page.now c.text.new.self c.word.new.self c.write_edge.new.page c.write_edge-2.new.page c.write_edge-3.new.page c.write_edge-4.new.page c.end_line.new.self c.listed_name.result.now
    c.listed_name.ensures c.in_ok-text.ensures c.in_ok-word.ensures first second third fourth c.end_line.ensures
