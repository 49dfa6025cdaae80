use Rattle.be_desk.specs.Desks.{desk_of, desk_with_both}
use Rattle.be_desk.proofs.DeskLemmas.{is_after}
use Rattle.be_desk.proofs.OthersLemmas.{others_stay}
use Rattle.be_desk.proofs.altered.affected.Goals as goal

pub altered-requires-clause-others : goal.altered-requires-clause-others
altered-requires-clause-others c =
    let before = desk_of c.args.desk.now in
    let next = c.in_ok-next.next in
    let after = desk_with_both before c.args.w c.args.change.now next.stack next.tree in
    others_stay c.args.desk.now.stack next.stack c.args.w c.args.change.now (is_after before after c.args.w c.args.change.now c.in_ok-next.ensures.next).windows
