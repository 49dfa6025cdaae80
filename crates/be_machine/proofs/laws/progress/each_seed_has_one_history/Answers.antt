use Rattle.be_script.specs.Work.{work_of}
use Rattle.be_machine.proofs.ProgressSchedule.{one_scheduled, scheduled_alone}
use Rattle.be_machine.proofs.WorkHistory.{history_bound}
use Rattle.be_machine.proofs.laws.progress.each_seed_has_one_history.Goals as goal

pub returns : goal.returns
returns c = record { there = λ d seed limits. one_scheduled d seed (work_of d) limits (λ h legal. history_bound d h limits legal); alone = scheduled_alone }
