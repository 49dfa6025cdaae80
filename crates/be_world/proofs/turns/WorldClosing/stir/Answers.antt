use Rattle.std.proofs.Common.{◌∙◌, ap, subst, sym}
use Rattle.be_machine.specs.Activities.{activities}
use Rattle.be_rules.specs.Rules.{world_machine}
use Rattle.be_script.specs.Script.{Declared, declared_by}
use Rattle.be_serial.specs.Known.{Stirs}
use Rattle.be_world.specs.Turns.{legal_entry}
use Rattle.be_world.proofs.Stirred.{stirs_no_other}
use Rattle.be_world.proofs.turns.WorldClosing.stir.Goals as goal

pub mark_stirred-requires-clause-long : goal.mark_stirred-requires-clause-long
mark_stirred-requires-clause-long c = c.requires ∙ ap activities (sym c.self.view_is)

pub returns : goal.returns
returns c =
    let marks = c.mark_stirred.new.marks in
    subst (λ (d : Declared). Stirs (world_machine d) (legal_entry d) (activities d)
    c.args.entry.now c.args.stale.now marks) c.self.view_is
    (stirs_no_other (declared_by c.self.inside.script) c.args.entry.now c.args.stale.now marks
    (c.requires ∙ ap activities (sym c.self.view_is)) c.mark_stirred.ensures)
