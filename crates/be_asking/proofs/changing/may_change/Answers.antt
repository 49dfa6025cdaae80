use Rattle.std.proofs.Common.{ℕ, List, map, ap, ◌∙◌}
use Rattle.be_desk.specs.Changes.{desk_after}
use Rattle.be_desk.specs.Desks.{desk_of}
use Rattle.be_machine.specs.Touched as part
use Rattle.be_script.specs.Script.{declared_by}
use Rattle.be_asking.specs.Changing.{first_missing}
use Rattle.be_asking.proofs.ChangesAnswered.{allowed, executes_taken, needs_desk, needs_named, needs_pane, needs_port, reach_desk, reach_pane, refuses}
use Rattle.be_asking.proofs.changing.may_change.Goals as goal

pub find_desk-requires : goal.find_desk-requires
find_desk-requires c = reach_desk (declared_by c.args.script.now) c.args.held.now.parts c.args.number c.args.w c.requires.asked c.args.front c.args.change.now c.requires.oldest

pub returns-in-Err : goal.returns-in-Err
returns-in-Err c = needs_desk (declared_by c.args.script.now) c.args.held.now.parts c.args.number c.args.w c.requires.asked c.args.front c.args.change.now c.requires.oldest c.in-Err.place c.in-Err.ensures.missing

pub returns-in-Some : goal.returns-in-Some
returns-in-Some c = needs_port (declared_by c.args.script.now) c.args.held.now.parts c.args.number c.args.w c.requires.asked c.args.front c.args.change.now c.requires.oldest c.in-Some.place c.in-Some.ensures

pub find_pane-requires : goal.find_pane-requires
find_pane-requires c = reach_pane (declared_by c.args.script.now) c.args.held.now.parts c.args.number c.args.w c.requires.asked c.args.front c.args.change.now c.requires.oldest

pub returns-in-Err-find_pane : goal.returns-in-Err-find_pane
returns-in-Err-find_pane c = needs_pane (declared_by c.args.script.now) c.args.held.now.parts c.args.number c.args.w c.requires.asked c.args.front c.args.change.now c.requires.oldest c.in-Err-find_pane.place c.in-Err-find_pane.ensures.missing

pub affected-requires : goal.affected-requires
affected-requires c =
    allowed (declared_by c.args.script.now) c.args.held.now.parts c.args.number c.args.w c.requires.asked c.args.front c.args.change.now c.requires.oldest
    c.in-Ok.part.now (desk_of c.desk.result.now) c.in-Ok.ensures.there c.desk.ensures.slice
    c.waiting_commands_are_within_limits.ensures.linked c.desk.ensures.paired

pub returns-in-Some-missing_pane : goal.returns-in-Some-missing_pane
returns-in-Some-missing_pane c =
    needs_named (declared_by c.args.script.now) c.args.held.now.parts c.args.number c.args.w c.requires.asked c.args.front c.args.change.now c.requires.oldest
    c.in-Ok.part.now (desk_of c.desk.result.now) c.in-Ok.ensures.there c.desk.ensures.slice
    c.in_default.ensures c.in_default-find_pane.field-0.now c.in_default-find_pane.ensures.there
    c.in-Ok-affected.names.items c.in-Ok-affected.ensures.taken c.in-Ok-affected.ensures.names
    c.in-Some-missing_pane.place
    (c.in-Some-missing_pane.ensures ∙ ap (λ (names : List ℕ). first_missing (declared_by c.args.script.now) c.args.held.now.parts (map part.pane names)) c.deref.ensures.value)

pub returns-in-Ok-affected : goal.returns-in-Ok-affected
returns-in-Ok-affected c =
    executes_taken (declared_by c.args.script.now) c.args.held.now.parts c.args.number c.args.w c.requires.asked c.args.front c.args.change.now c.requires.oldest
    c.in-Ok.part.now (desk_of c.desk.result.now) c.in-Ok.ensures.there c.desk.ensures.slice
    c.in_default.ensures c.in_default-find_pane.field-0.now c.in_default-find_pane.ensures.there
    c.in-Ok-affected.names.items c.in-Ok-affected.ensures.taken c.in-Ok-affected.ensures.names
    (c.in-None.ensures ∙ ap (λ (names : List ℕ). first_missing (declared_by c.args.script.now) c.args.held.now.parts (map part.pane names)) c.deref.ensures.value)

pub returns : goal.returns
returns c =
    refuses (declared_by c.args.script.now) c.args.held.now.parts c.args.number c.args.w c.requires.asked c.args.front c.args.change.now c.requires.oldest
    c.in-Ok.part.now (desk_of c.desk.result.now) c.in-Ok.ensures.there c.desk.ensures.slice
    c.in_default.ensures c.in_default-find_pane.field-0.now c.in_default-find_pane.ensures.there
    c.in_ok-outcome-in-Err-affected.outcome
    (c.in_ok-outcome-in-Err-affected.ensures (desk_after (desk_of c.desk.result.now) c.args.w c.args.change.now) c.in-Err-affected.ensures.refused)
