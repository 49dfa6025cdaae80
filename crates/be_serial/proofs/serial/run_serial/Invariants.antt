use Rattle.std.proofs.Common.{◌≡◌, ◌≤◌, length, map, vec_capacity}
use Rattle.be_hall.specs.Numbers.{total}
use Rattle.be_hall.specs.Machine.{leads}
use Rattle.be_serial.specs.Scheduled.{draws, Picked}
use Rattle.be_serial.specs.Running.{Runs}
use Rattle.be_serial.specs.Known.{Knows}
use Rattle.be_serial.proofs.serial.run_serial.Given as goal

abbrev pub invariant-loop-listed : goal.invariant-loop-listed
invariant-loop-listed g l =
    (l.run.rules ≡ l.fn.rules) × (l.run.opening.value.items ≡ l.fn.parts.items) × (l.run.limit ≡ l.fn.limit)
    × Runs (g.W.Parts.machine l.run.rules) g.W.Parts.meaning g.W.Parts.log (map g.W.Parts.meaning l.run.opening.value.items) l.run.limit l.run.held.parts l.run.history.items
    × (g.W.Turns.activities l.fn.rules ≤ vec_capacity l.ready) × (l.schedule.seed ≡ l.fn.seed)
    × (l.schedule.drawn ≡ draws l.fn.seed l.fn.seed (length l.run.history.items))
    × Picked (g.W.Parts.machine l.fn.rules) (g.W.Turns.legal l.fn.rules) (g.W.Turns.activities l.fn.rules) l.fn.seed l.fn.seed (map g.W.Parts.meaning l.fn.parts.items) l.run.history.items
    × Knows (g.W.Turns.legal l.run.rules) (g.W.Turns.activities l.run.rules)
    (leads (g.W.Parts.machine l.run.rules) (map g.W.Parts.meaning l.run.opening.value.items) l.run.history.items)
    l.answers.can.items l.answers.stale.items

abbrev pub decreases-loop-listed : goal.decreases-loop-listed
decreases-loop-listed g l = total (g.W.Parts.machine l.run.rules).budget (leads (g.W.Parts.machine l.run.rules) (map g.W.Parts.meaning l.run.opening.value.items) l.run.history.items)
