use Rattle.be_desk.specs.Desks.{desk_of}
use Rattle.be_script.specs.Script.{declared_by}
use Rattle.be_ready.proofs.ChangeReady.{desk_there, plannable, refused_in}
use Rattle.be_ready.proofs.planning.planned.Goals as goal

pub desk_there-requires : goal.desk_there-requires
desk_there-requires c = desk_there (declared_by c.args.script.now) c.args.held.now.parts c.args.w c.requires.allowed c.args.change.now c.requires.next

pub plan_for-requires : goal.plan_for-requires
plan_for-requires c =
    plannable (declared_by c.args.script.now) c.args.held.now.parts c.args.w c.requires.allowed c.args.change.now c.requires.next
    c.desk_there.result.now (desk_of c.desk-desk.result.now) c.desk_there.ensures c.desk-desk.ensures.slice
    c.waiting_commands_are_within_limits.ensures.linked c.desk-desk.ensures.paired

pub returns-in-Err : goal.returns-in-Err
returns-in-Err c =
    refused_in (declared_by c.args.script.now) c.args.held.now.parts c.args.w c.requires.allowed c.args.change.now c.requires.next
    c.desk_there.result.now (desk_of c.desk-desk.result.now) c.desk_there.ensures c.desk-desk.ensures.slice
    c.in-Err.fault c.in-Err.ensures.refused c.refusal.result c.refusal.ensures
