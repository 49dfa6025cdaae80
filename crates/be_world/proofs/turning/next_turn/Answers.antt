use Rattle.std.proofs.Common.{◌∙◌, ap, subst, sym}
use Rattle.std.specs.Prelude.{option_map}
use Rattle.be_asking.specs.Deeds.{IsAnswer}
use Rattle.be_asking.specs.Wants.{activity_in}
use Rattle.be_asking.specs.declared.deed.Answer.{Answer}
use Rattle.be_hall.specs.Hands.{meant}
use Rattle.be_parts.specs.Parts.{meaning_of}
use Rattle.be_script.specs.Script.{declared_by}
use Rattle.be_world.proofs.Telling.{ended, needs, nobody}
use Rattle.be_world.proofs.turning.next_turn.Goals as goal

pub returns-in_default : goal.returns-in_default
returns-in_default c =
    λ all sound fits. nobody (declared_by c.args.script.now) c.args.number
    (sym c.activity_of.ensures ∙ ap (option_map activity_in) c.in_default.is) all

pub returns-in-Nothing : goal.returns-in-Nothing
returns-in-Nothing c =
    ended (declared_by c.args.script.now) c.args.number (meant meaning_of c.args.held.now.parts)
    (activity_in c.in-Some.who) (sym c.in-Some.ensures) c.in-Nothing.ensures

pub returns-in-Needs : goal.returns-in-Needs
returns-in-Needs c =
    needs (declared_by c.args.script.now) c.args.number (meant meaning_of c.args.held.now.parts)
    (activity_in c.in-Some.who) (sym c.in-Some.ensures) c.in-Needs.place c.requires.fitting
    c.in-Needs.ensures

pub returns-in-Needs-2 : goal.returns-in-Needs-2
returns-in-Needs-2 c =
    let d = declared_by c.args.script.now in
    let held = meant meaning_of c.args.held.now.parts in
    needs d c.args.number held (activity_in c.in-Some.who) (sym c.in-Some.ensures)
    c.in-Needs-2.place c.requires.fitting
    (subst (λ (x : Answer). IsAnswer d held c.args.number x) c.in-Needs-2.is
    c.in_ok-deed-in-Wants.ensures)
