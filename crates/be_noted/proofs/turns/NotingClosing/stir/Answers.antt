use Rattle.std.proofs.Common.{subst}
use Rattle.be_machine.specs.Activities.{activities}
use Rattle.be_noting.proofs.KeepTurns.{stirs_noted}
use Rattle.be_rules.specs.Rules.{world_machine}
use Rattle.be_script.specs.Script.{Declared}
use Rattle.be_serial.specs.Known.{Stirs}
use Rattle.be_world.specs.Turns.{legal_entry}
use Rattle.be_jotted.specs.Jotting.{told_of}
use Rattle.be_noted.proofs.turns.NotingClosing.stir.Goals as goal

pub returns : goal.returns
returns c =
    let d = c.args.self.now in
    stirs_noted (world_machine d) (told_of d) (legal_entry d) (activities d) c.args.entry.now
    c.args.stale.now c.stir.new.stale
    (subst (λ (x : Declared). Stirs (world_machine x) (legal_entry x) (activities x)
    c.args.entry.now c.args.stale.now c.stir.new.stale) c.self.view_is c.stir.ensures)
