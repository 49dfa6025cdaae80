-- What it saves that an actor goes on in its program.
use Rattle.std.proofs.Common.{◌≡◌, ℕ, ◌+◌, ◌<◌, ◌≤◌, Bool, List, Some, ap, ◌∙◌, arith}
use Rattle.std.specs.Prelude.{slice_get}
use Rattle.std.specs.Option.{option_map_or}
use Rattle.be_actor.specs.declared.Instruction.{Instruction}
use Rattle.be_actor.specs.declared.Place.{Place}
use Rattle.be_actor.specs.declared.Wish.{Wish}
use Rattle.be_actor.specs.Wishes.{place_after, next_place, second_part}
use Rattle.be_looper.specs.Duties.{Hand}
use Rattle.be_message.specs.Messages.{Message}
use Rattle.be_script.specs.Script.{Declared}
use Rattle.be_machine.specs.Activities.{Runner, app, looper}
use Rattle.be_machine.specs.Lists.{at}
use Rattle.be_machine.specs.Program.{app_program, letter_program, update_program, gone_on, app_gone_on, looper_gone_on, moved_on}
use Rattle.be_machine.specs.State.{State, App, Looper, handling, in_body, in_update}
use Rattle.be_machine.proofs.WorkParts.{left_next, left_second, apps_turn, loopers_turn}
use Rattle.be_machine.specs.Shares.{here, left, app_cost, body_step_cost, draw_cost, apps_share, loopers_share, potential}

-- the actor's share falls as its program
abbrev pub Moves : Declared → Runner → (Instruction → ℕ) → List Instruction → Place → State → Type 0
Moves d who cost program place t = (accepted : Bool) (wish : Wish) → potential d (moved_on d who accepted wish t) + left cost program place ≡ potential d t + left cost program (gone_on program accepted wish place)

with_apps : (d : Declared) (t : State) (apps : List App) → potential d (record t { apps = apps }) + apps_share d t.apps ≡ potential d t + apps_share d apps
unfolding potential
with_apps d t apps = omega arith

with_loopers : (d : Declared) (t : State) (loopers : List Looper) → potential d (record t { loopers = loopers }) + loopers_share d t.loopers ≡ potential d t + loopers_share d loopers
unfolding potential
with_loopers d t loopers = omega arith

pub app_moves : (d : Declared) (t : State) (m : ℕ) (a : App) → slice_get t.apps m ≡ Some a → Moves d (app m) (app_cost d) (app_program d m) a.place t
unfolding moved_on
app_moves d t m a read accepted wish = omega (
  arith,
  with_apps d t (at t.apps m (app_gone_on d m accepted wish)),
  apps_turn d t.apps m (app_gone_on d m accepted wish) a read,
)

pub body_moves : (d : Declared) (t : State) (w : ℕ) (hand : Hand Message) (place : Place) → slice_get t.loopers w ≡ Some (handling hand (in_body place)) → Moves d (looper w) (body_step_cost d hand.letter.hop hand.letter.body.what) (letter_program d w hand) place t
unfolding moved_on
body_moves d t w hand place read accepted wish = omega (
  arith,
  with_loopers d t (at t.loopers w (looper_gone_on d w accepted wish)),
  loopers_turn d t.loopers w (looper_gone_on d w accepted wish) (handling hand (in_body place)) read,
)

pub update_moves : (d : Declared) (t : State) (w : ℕ) (hand : Hand Message) (views : List ℕ) (place : Place) → slice_get t.loopers w ≡ Some (handling hand (in_update views place)) → Moves d (looper w) draw_cost (update_program d w views) place t
unfolding moved_on
update_moves d t w hand views place read accepted wish = omega (
  arith,
  with_loopers d t (at t.loopers w (looper_gone_on d w accepted wish)),
  loopers_turn d t.loopers w (looper_gone_on d w accepted wish) (handling hand (in_update views place)) read,
)

-- ---- where it goes

gone_to : (program : List Instruction) (accepted : Bool) (wish : Wish) (place : Place) (i : Instruction) → slice_get program place.step ≡ Some i → gone_on program accepted wish place ≡ place_after i place accepted wish
gone_to program accepted wish place i read = ap (λ o. option_map_or (λ x. place_after x place accepted wish) o place) read

-- to the next instruction
pub next_falls : (d : Declared) (s t : State) (who : Runner) (cost : Instruction → ℕ) (program : List Instruction) (place : Place) (i : Instruction) (accepted : Bool) (wish : Wish) → slice_get program place.step ≡ Some i → Moves d who cost program place t → place_after i place accepted wish ≡ next_place place → potential d t + 1 ≤ potential d s + here cost place.part i → potential d (moved_on d who accepted wish t) < potential d s
next_falls d s t who cost program place i accepted wish read moves goes pays =
    let to : left cost program (gone_on program accepted wish place) ≡ left cost program (next_place place) = ap (left cost program) (gone_to program accepted wish place i read ∙ goes) in
    omega (arith, moves accepted wish, to, left_next cost program place i read, pays)

-- to the second part of an instruction
pub second_falls : (d : Declared) (s t : State) (who : Runner) (cost : Instruction → ℕ) (program : List Instruction) (place : Place) (i : Instruction) (accepted : Bool) (wish : Wish) → slice_get program place.step ≡ Some i → Moves d who cost program place t → place_after i place accepted wish ≡ second_part place → potential d t + here cost 1 i + 1 ≤ potential d s + here cost place.part i → potential d (moved_on d who accepted wish t) < potential d s
second_falls d s t who cost program place i accepted wish read moves goes pays =
    let to : left cost program (gone_on program accepted wish place) ≡ left cost program (second_part place) = ap (left cost program) (gone_to program accepted wish place i read ∙ goes) in
    omega (arith, moves accepted wish, to, left_second cost program place i read, pays)

-- nowhere
pub here_falls : (d : Declared) (s t : State) (who : Runner) (cost : Instruction → ℕ) (program : List Instruction) (place : Place) (i : Instruction) (accepted : Bool) (wish : Wish) → slice_get program place.step ≡ Some i → Moves d who cost program place t → place_after i place accepted wish ≡ place → potential d t < potential d s → potential d (moved_on d who accepted wish t) < potential d s
here_falls d s t who cost program place i accepted wish read moves goes pays =
    let to : left cost program (gone_on program accepted wish place) ≡ left cost program place = ap (left cost program) (gone_to program accepted wish place i read ∙ goes) in
    omega (arith, moves accepted wish, to, pays)
