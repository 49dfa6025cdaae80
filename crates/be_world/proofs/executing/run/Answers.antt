use Rattle.std.proofs.Common.{subst, sym, ⊎_elim}
use Rattle.be_changes.specs.Planned.{IsPlannedIn}
use Rattle.be_script.specs.Script.{declared_by}
use Rattle.be_world.proofs.Suiting.{suits_command}
use Rattle.be_world.specs.declared.work.Work.TheVariants as work
use Rattle.be_world.proofs.executing.run.Goals as goal

pub execute-requires-clause-front : goal.execute-requires-clause-front
execute-requires-clause-front c =
    suits_command (declared_by c.args.script.now) c.args.held.now.parts c.args.w c.args.made
    c.requires.allowed c.requires.suits work.Nothing c.in-Nothing.is

-- ---- changes

pub change-requires-clause-next : goal.change-requires-clause-next
change-requires-clause-next c =
    (suits_command (declared_by c.args.script.now) c.args.held.now.parts c.args.w c.args.made
    c.requires.allowed c.requires.suits (work.Change c.in-Change.plan c.in-Change.places)
    c.in-Change.is).0

pub change-requires-clause-window : goal.change-requires-clause-window
change-requires-clause-window c =
    (suits_command (declared_by c.args.script.now) c.args.held.now.parts c.args.w c.args.made
    c.requires.allowed c.requires.suits (work.Change c.in-Change.plan c.in-Change.places)
    c.in-Change.is).1

pub change-requires-clause-planned : goal.change-requires-clause-planned
change-requires-clause-planned c =
    let d = declared_by c.args.script.now in
    let parts = c.args.held.now.parts in
    subst (λ places. IsPlannedIn d parts c.in-Change.plan places) (sym c.deref.ensures.value)
    (suits_command d parts c.args.w c.args.made c.requires.allowed c.requires.suits
    (work.Change c.in-Change.plan c.in-Change.places) c.in-Change.is).2

pub refuse-requires-clause-refused : goal.refuse-requires-clause-refused
refuse-requires-clause-refused c =
    suits_command (declared_by c.args.script.now) c.args.held.now.parts c.args.w c.args.made
    c.requires.allowed c.requires.suits work.Refused c.in-Refused.is

-- ---- what is made for nothing of it

pub unreachable-requires : goal.unreachable-requires
unreachable-requires c =
    let suits =
    suits_command (declared_by c.args.script.now) c.args.held.now.parts c.args.w c.args.made
    c.requires.allowed c.requires.suits in
    ⊎_elim (λ h. suits (work.Letter h.0) h.1)
    (λ k. ⊎_elim (λ h. suits (work.Reply h.0) h.1) (λ h. suits (work.Taken h.0 h.1) h.2) k)
    c.in-Letter.is

pub unreachable-requires-in-Command : goal.unreachable-requires-in-Command
unreachable-requires-in-Command c =
    let suits =
    suits_command (declared_by c.args.script.now) c.args.held.now.parts c.args.w c.args.made
    c.requires.allowed c.requires.suits in
    ⊎_elim (λ h. suits (work.Command h.0) h.1)
    (λ k. ⊎_elim (λ h. suits (work.Survey h.0) h.1) (λ h. suits (work.Event h.0) h.1) k)
    c.in-Command.is
