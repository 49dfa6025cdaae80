use Rattle.std.proofs.Common.{◌≡◌, ℕ, List, All, length, map, sym, ap, subst, ◌∙◌}
use Rattle.be_facts.proofs.Lists.{whole_again}
use Rattle.be_hall.specs.Words.{opened}
use Rattle.be_machine.specs.declared.Entry.{Entry}
use Rattle.be_noted.specs.Noting.{noted_of}
use Rattle.be_noting.specs.Noting.{Noted}
use Rattle.be_rules.specs.Slices.{Slice}
use Rattle.be_runs.proofs.Left.{is_finished, parts_are, traces_are}
use Rattle.be_runs.specs.Runs.{Leaves}
use Rattle.be_runs.specs.declared.finished.Finished.{Finished}
use Rattle.be_script.specs.Limits.{IsWithinLimits}
use Rattle.be_script.specs.Script.{Declared}
use Rattle.be_turns.specs.Turning as turning
use Rattle.be_workers.specs.Workers.{IsDone}
use Rattle.be_world.specs.Turns.{is_last}
use Rattle.be_jotted.specs.Jotting.{noted_machine}
use Rattle.be_threads.proofs.run.run.Goals as goal

pub finish-requires-clause-sound : goal.finish-requires-clause-sound
finish-requires-clause-sound g c =
    let hall = c.in_ok-hall.hall in
    let all = map noted_of c.in_ok-parts.parts.items in
    let begun : (opened noted_of hall).opening ≡ all =
    ap (λ about. about.opening) c.in_ok-hall.ensures.opened in
    subst (λ (w : Declared). (noted_machine w).sound (opened noted_of hall).opening)
    (sym c.in_ok-hall.ensures.rules)
    (subst (noted_machine c.new-noting.result).sound (sym begun) c.in_ok-parts.ensures.sound)

pub finish-requires-clause-workers : goal.finish-requires-clause-workers
finish-requires-clause-workers g c =
    let hall = c.in_ok-hall.hall in
    let new = c.work_all.new.workers in
    let old = c.in_ok-workers.workers.items in
    subst (All (IsDone noted_of (λ (e : Entry). is_last e.act) hall))
    (sym
    (whole_again c.in_ok-workers.workers.len new old
    (c.work_all.auto.workers ∙ ap length c.as_mut_slice.ensures.value)
    c.in_ok-workers.workers.ok.0))
    c.work_all.ensures

pub returns : goal.returns
returns g c =
    let d = c.new-noting.result in
    let xs = c.in_ok-parts.parts.items in
    let opens = c.in_ok-parts.ensures.meant in
    let blank = c.in_ok-parts.ensures.notes in
    let limits : IsWithinLimits d = c.in_ok-parts.ensures.sound.limits in
    let hall = c.in_ok-hall.hall in
    let all = map noted_of xs in
    let closed = c.in_ok-closed.closed in
    let h = closed.history.items in
    let ys = closed.parts.items in
    let left = map noted_of ys in
    let begun : (opened noted_of hall).opening ≡ all =
    ap (λ about. about.opening) c.in_ok-hall.ensures.opened in
    let ends : turning.IsFinished (noted_machine d) (λ (e : Entry). is_last e.act) all h left =
    subst
    (λ (l : List (Noted Slice ℕ)). turning.IsFinished (noted_machine d)
    (λ (e : Entry). is_last e.act) l h left)
    begun
    (subst
    (λ (w : Declared). turning.IsFinished (noted_machine w) (λ (e : Entry). is_last e.act)
    (opened noted_of hall).opening h left)
    c.in_ok-hall.ensures.rules c.in_ok-closed.ensures.finished) in
    let run : Finished =
    record { world = c.into_world.result; history = closed.history; parts = closed.parts } in
    subst (λ (w : Declared). Leaves w run) c.new-noting.ensures
    record {
      world = c.into_world.ensures ∙ c.in_ok-closed.ensures.rules ∙ c.in_ok-hall.ensures.rules;
      finished = is_finished d limits xs opens blank h ys ends;
      parts = parts_are d limits xs opens blank h ys ends;
      traces = traces_are d limits xs opens blank h ys ends;
    }
