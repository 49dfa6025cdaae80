use Rattle.be_changes.proofs.RefuseDone.{link_in_hand, refuse_done}
use Rattle.be_changes.proofs.changing.refuse.Goals as goal
use Rattle.be_script.specs.Script.{declared_by}

pub link_to_change-requires : goal.link_to_change-requires
link_to_change-requires c =
    link_in_hand (declared_by c.args.script.now) c.args.held.now c.args.w c.requires.allowed c.requires.refused c.link_place.result c.link_place.ensures

pub returns : goal.returns
returns c =
    refuse_done (declared_by c.args.script.now) c.args.held.now c.args.w c.requires.allowed c.requires.refused c.link_place.result c.link_place.ensures
    c.link_to_change.result.now c.pop-command.new.self c.link_to_change.ensures.value c.pop-command.ensures.slice
