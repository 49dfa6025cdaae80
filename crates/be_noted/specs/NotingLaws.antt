-- The rules that keep notes keep what is asked of rules.
use Rattle.be_hall.specs.Machine.{Lawful}
use Rattle.be_machine.specs.Activities.{activities}
use Rattle.be_noting.proofs.KeepLaws.{noting_lawful}
use Rattle.be_noting.proofs.KeepTurns.{never_stuck_noted, turning_noted}
use Rattle.be_rules.proofs.Lawfully.{world_lawful}
use Rattle.be_rules.specs.Rules.{world_machine}
use Rattle.be_script.specs.Script.{Declared}
use Rattle.be_serial.specs.Running.{NeverStuck}
use Rattle.be_turns.specs.Turning.{Turning}
use Rattle.be_world.specs.TurnLaws.{world_closing, world_turning}
use Rattle.be_world.specs.Turns.{has_stopped, is_last, legal_entry}
use Rattle.be_jotted.specs.Jotting.{noted_machine, told_of}
use Rattle.be_noted.specs.Noting.{noted_legal, noted_stopped}

pub noting_is_lawful : (d : Declared) → Lawful (noted_machine d)
noting_is_lawful d = noting_lawful (world_machine d) (told_of d) (world_lawful d)

pub noting_is_turning : (d : Declared)
    → Turning (noted_machine d) (noted_legal d) (λ e. is_last e.act) (activities d)
noting_is_turning d =
    turning_noted (world_machine d) (told_of d) (legal_entry d) (λ e. is_last e.act) (activities d)
    (world_turning d)

pub noting_is_closing : (d : Declared)
    → NeverStuck (noted_machine d) (noted_legal d) (λ e. is_last e.act) (activities d)
    (noted_stopped d)
noting_is_closing d =
    never_stuck_noted (world_machine d) (told_of d) (legal_entry d) (λ e. is_last e.act)
    (activities d) (has_stopped d) (world_closing d)
