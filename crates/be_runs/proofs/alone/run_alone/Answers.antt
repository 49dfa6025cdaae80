use Rattle.std.proofs.Common.{length, map, refl, ap, subst, ◌∙◌}
use Rattle.be_machine.specs.Activities.{activities}
use Rattle.be_machine.specs.Schedule.{IsScheduled, entries_from}
use Rattle.be_noted.specs.Noting.{noted_of}
use Rattle.be_noting.proofs.NotedRuns.{run_picked}
use Rattle.be_parts.specs.Parts.{meaning_of}
use Rattle.be_rules.specs.Rules.{world_machine}
use Rattle.be_runs.proofs.Follows.{opening_is, opening_sound}
use Rattle.be_runs.proofs.Left.{ended, is_finished, parts_are, traces_are}
use Rattle.be_runs.proofs.Scheduling.{chosen_each}
use Rattle.be_runs.specs.Runs.{Leaves}
use Rattle.be_runs.specs.declared.finished.Finished.{Finished}
use Rattle.be_script.specs.Limits.{IsWithinLimits}
use Rattle.be_script.specs.Script.{Declared}
use Rattle.be_world.specs.Turns.{legal_entry}
use Rattle.be_jotted.specs.Jotting.{told_of}
use Rattle.be_runs.proofs.alone.run_alone.Goals as goal

pub returns-clause-leaves : goal.returns-clause-leaves
returns-clause-leaves c =
    let d = c.new-noting.result in
    let xs = c.in_ok-parts.parts.items in
    let opens = c.in_ok-parts.ensures.meant in
    let blank = c.in_ok-parts.ensures.notes in
    let limits : IsWithinLimits d = c.in_ok-parts.ensures.sound.limits in
    let ran = c.in_ok-ran.ran in
    let h = ran.history.items in
    let ys = ran.parts.items in
    let ends = c.in_ok-ran.ensures.finished in
    let run : Finished =
    record { world = c.into_world.result; history = ran.history; parts = ran.parts } in
    subst (λ (w : Declared). Leaves w run) c.new-noting.ensures
    record {
      world = c.into_world.ensures ∙ c.in_ok-ran.ensures.rules;
      finished = is_finished d limits xs opens blank h ys ends;
      parts = parts_are d limits xs opens blank h ys ends;
      traces = traces_are d limits xs opens blank h ys ends;
    }

pub returns-clause-scheduled : goal.returns-clause-scheduled
returns-clause-scheduled c =
    let d = c.new-noting.result in
    let seed = c.args.seed in
    let xs = c.in_ok-parts.parts.items in
    let all = map meaning_of xs in
    let opens = c.in_ok-parts.ensures.meant in
    let blank = c.in_ok-parts.ensures.notes in
    let limits : IsWithinLimits d = c.in_ok-parts.ensures.sound.limits in
    let h = c.in_ok-ran.ran.history.items in
    let ys = c.in_ok-ran.ran.parts.items in
    let ends = c.in_ok-ran.ensures.finished in
    let picked =
    run_picked (world_machine d) (told_of d) noted_of xs h (legal_entry d) (activities d) seed seed
    c.in_ok-ran.ensures.scheduled in
    subst (λ (w : Declared). IsScheduled w seed h) c.new-noting.ensures
    record {
      chosen_each =
          chosen_each d seed h all (opening_sound d limits all opens) seed seed (λ e. refl)
          (ended d limits xs opens blank h ys ends).legal picked
          ∙ ap (entries_from (length h) d seed seed) (opening_is d limits all opens);
      finished = is_finished d limits xs opens blank h ys ends;
    }
