use Rattle.std.proofs.Common.{SFits, w16, rules}
use Rattle.std.proofs.lemmas.Int.{to_z-of_z}
use Rattle.desk_screen.proofs.MadeLemmas.{added_made}
use Rattle.desk_screen.proofs.making.Making.add.Goals as goal

pub returns : goal.returns
returns c =
    let wide : SFits w16 c.in-Some.width = search rules in
    let high : SFits w16 c.in-Some.height = search rules in
    let root = simp to_z-of_z at c.in_ok-tree.ensures.root in
    let now = c.args.self.now in
    let frame = c.args.declared.now.frame in
    added_made now.stack c.add.new.self now.trees.items c.push.new.self.items now.panes.items c.push-2.new.self.items c.in_ok-w.w frame c.args.declared.now.flags c.in_ok-tree.tree c.in_ok-copy.field-0 c.in_ok-pane.pane c.in-Some.width c.in-Some.height c.requires c.in_ok-w.ensures.number c.in_ok-w.ensures.added c.in_ok-push.ensures.items c.in_ok-push-2.ensures.items c.in-Some.ensures.width c.in-Some.ensures.height root c.in_ok-copy.ensures c.in_ok-pane.ensures
