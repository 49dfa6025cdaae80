-- What the potential is once an instruction got what it asked for.
use Rattle.std.proofs.Common.{◌≡◌, ℕ, ◌+◌, ◌≤◌, false, length, Option, Some, None, refl, arith}
use Rattle.std.specs.Prelude.{slice_get, option_and_then}
use Rattle.std.specs.Option.{option_map_or}
use Rattle.be_command.specs.declared.Command.{Command}
use Rattle.be_command.specs.Effects.{effect_of}
use Rattle.be_link.specs.Queues.{Buffer}
use Rattle.be_message.specs.Messages.{Message}
use Rattle.be_port.specs.declared.Duty.{Duty}
use Rattle.be_port.specs.Ports.{Letter}
use Rattle.be_reply.specs.Cells as reply
use Rattle.be_script.specs.Script.{Declared}
use Rattle.be_script.specs.Work.{updates_cost}
use Rattle.be_machine.specs.Activities.{Runner, app, looper}
use Rattle.be_machine.specs.Commands.{drawn, flushed, flushed_into}
use Rattle.be_machine.specs.Looper.{with_looper, with_cell, with_duty, with_duty_by, told}
use Rattle.be_machine.specs.Port.{with_post}
use Rattle.be_machine.specs.Program.{window_of, buffered}
use Rattle.be_machine.specs.State.{State, Looper, free, locked, handling, in_body, beginning, in_update, ending}
use Rattle.be_machine.specs.Step.{in_own}
use Rattle.be_machine.proofs.WorkParts.{apps_quiet, loopers_drop, ports_posted, ports_post, buffers_drawn, flush_pays}
use Rattle.be_machine.specs.Shares.{exposure, post_at, letter_share, looper_share, potential}

-- ---- who acts stays where it is

pub record Keeps (s t : State) : Type 0 where
  pub apps : t.apps ≡ s.apps
  pub loopers : t.loopers ≡ s.loopers

keeps_by : (s : State) (f : ℕ → State) (o : Option ℕ) → ((w : ℕ) → Keeps s (f w)) → Keeps s (option_map_or f o s)
keeps_by s f (Some w) h = h w
keeps_by s f None h = record { apps = refl; loopers = refl }

pub keeps_own : (s : State) (who : Runner) (f : ℕ → State) → ((w : ℕ) → Keeps s (f w)) → Keeps s (in_own s who f)
keeps_own s who f h = keeps_by s f (window_of s who) h

flush_by : (s : State) (w : ℕ) (o : Option Buffer) → Keeps s (option_map_or (flushed_into s w) o s)
flush_by s w (Some b) = record { apps = refl; loopers = refl }
flush_by s w None = record { apps = refl; loopers = refl }

pub flush_keeps : (s : State) (w : ℕ) → Keeps s (flushed s w)
flush_keeps s w = flush_by s w (slice_get s.buffers w)

-- ---- posts

pub post_adds : (d : Declared) (s : State) (w : ℕ) (letter : Letter Message) → potential d (with_post s w letter) ≤ potential d s + letter_share d w letter
unfolding potential
post_adds d s w letter = omega (arith, ports_posted d s.ports w letter)

pub post_pays : (d : Declared) (s : State) (w : ℕ) (letter : Letter Message) → letter.notice ≡ false → potential d (with_post s w letter) + 1 ≤ potential d s + post_at d letter.hop w letter.target letter.body.what
unfolding potential
post_pays d s w letter plain = omega (arith, ports_post d s.ports w letter plain)

-- ---- cells and duties

pub cell_keeps : (d : Declared) (s : State) (m : ℕ) (f : reply.Cell → reply.Cell) → potential d (with_cell s m f) ≤ potential d s
unfolding potential
cell_keeps d s m f = omega (arith, apps_quiet d s.apps m (λ a. record a { cell = f a.cell }) (λ a. refl))

pub told_keeps : (d : Declared) (message : Message) (o : Option ℕ) (s : State) → potential d (told message o s) ≤ potential d s
told_keeps d message (Some m) s = cell_keeps d s m (reply.with_reply message)
told_keeps d message None s = omega arith

duty_share : (d : Declared) (w : ℕ) (f : Duty → Duty) (l : Looper) → looper_share d w (with_duty_by f l) ≤ looper_share d w l
duty_share d w f (handling hand (in_body place)) = omega arith
duty_share d w f (handling hand beginning) = omega arith
duty_share d w f (handling hand (in_update views place)) = omega arith
duty_share d w f (handling hand ending) = omega arith
duty_share d w f (locked m) = omega arith
duty_share d w f free = omega arith

pub duty_keeps : (d : Declared) (f : Duty → Duty) (who : Runner) (s : State) → potential d (with_duty f who s) ≤ potential d s
unfolding potential
duty_keeps d f (looper w) s = omega (arith, loopers_drop d s.loopers w (with_duty_by f) (duty_share d w f))
duty_keeps d f (app m) s = omega arith

pub looper_keeps : (d : Declared) (s : State) (w : ℕ) (f : Looper → Looper) → ((l : Looper) → looper_share d w (f l) ≤ looper_share d w l) → potential d (with_looper s w f) ≤ potential d s
unfolding potential
looper_keeps d s w f down = omega (arith, loopers_drop d s.loopers w f down)

-- ---- commands

pub drawn_adds : (d : Declared) (s : State) (w : ℕ) (c : Command) → potential d (drawn s w c) ≤ potential d s + (2 + exposure (updates_cost d) (effect_of c))
unfolding potential
drawn_adds d s w c = omega (arith, buffers_drawn d s.buffers w c)

flushed_there : (d : Declared) (s : State) (w : ℕ) (b : Buffer) → slice_get s.buffers w ≡ Some b → potential d (flushed_into s w b) + length b.commands ≤ potential d s
unfolding potential
flushed_there d s w b read = omega (arith, flush_pays d s.buffers s.links w b read)

flushed_by : (d : Declared) (s : State) (w : ℕ) (o : Option Buffer) → slice_get s.buffers w ≡ o → potential d (option_map_or (flushed_into s w) o s) + option_map_or (λ b. length b.commands) o 0 ≤ potential d s
flushed_by d s w (Some b) read = flushed_there d s w b read
flushed_by d s w None read = omega arith

-- a flush falls by the commands of the buffer
pub flushed_pays : (d : Declared) (s : State) (w : ℕ) → potential d (flushed s w) + option_map_or (λ b. length b.commands) (slice_get s.buffers w) 0 ≤ potential d s
flushed_pays d s w = flushed_by d s w (slice_get s.buffers w) refl

own_by : (d : Declared) (s : State) (o : Option ℕ) → potential d (option_map_or (flushed s) o s) + option_map_or (λ b. length b.commands) (option_and_then (λ w. slice_get s.buffers w) o) 0 ≤ potential d s
own_by d s (Some w) = flushed_pays d s w
own_by d s None = omega arith

pub own_flush : (d : Declared) (s : State) (who : Runner) → potential d (in_own s who (flushed s)) + buffered s who ≤ potential d s
own_flush d s who = own_by d s (window_of s who)

draw_by : (d : Declared) (s : State) (c : Command) (o : Option ℕ) → potential d (option_map_or (λ w. drawn s w c) o s) ≤ potential d s + (2 + exposure (updates_cost d) (effect_of c))
draw_by d s c (Some w) = drawn_adds d s w c
draw_by d s c None = omega arith

pub own_draw : (d : Declared) (s : State) (who : Runner) (c : Command) → potential d (in_own s who (λ w. drawn s w c)) ≤ potential d s + (2 + exposure (updates_cost d) (effect_of c))
own_draw d s who c = draw_by d s c (window_of s who)
