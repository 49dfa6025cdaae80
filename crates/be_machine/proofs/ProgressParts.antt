-- Each list of the state has one element for each window, or for each application.
use Rattle.std.proofs.Common.{◌≡◌, ℕ, Bool, true, false, length, Option, Some, None, refl, ap, ◌∙◌}
use Rattle.std.specs.Prelude.{slice_get, option_and_then, if◌then◌else◌}
use Rattle.std.specs.Option.{option_map_or}
use Rattle.be_actor.specs.declared.Wish.{Wish}
use Rattle.be_actor.specs.declared.Wish.TheVariants as wish
use Rattle.be_command.specs.declared.Command.{Command}
use Rattle.be_command.specs.declared.Command.TheVariants.{EndUpdate}
use Rattle.be_link.specs.Queues.{with_command, emptied, lengthened}
use Rattle.be_looper.specs.Duties.{Hand, waiter, duty_after_reply, duty_after_forward, duty_handed_on, EndTelling, nobody, no_reply, not_understood, end_telling}
use Rattle.be_message.specs.declared.target.Target.{Target}
use Rattle.be_message.specs.Messages.{Message}
use Rattle.be_port.specs.declared.Duty.{Duty}
use Rattle.be_port.specs.Ports.{Letter, posted, front, without_front}
use Rattle.be_reply.specs.Cells as reply
use Rattle.be_script.specs.Script.{Declared}
use Rattle.be_update.specs.Sessions.{is_any, passed}
use Rattle.be_machine.specs.Windows.{dirty_of, corner_at}
use Rattle.be_machine.specs.Activities.{Runner, app, looper, sender_of}
use Rattle.be_machine.specs.Commands.{drawn, flushed, flushed_into, executed}
use Rattle.be_machine.specs.Looper.{with_looper, freed, with_cell, with_waiting, sent, claimed, with_duty, with_duty_by, told, told_at_end, ended_hand, forwarded_hand, locked_for}
use Rattle.be_machine.specs.Port.{letter, with_post, with_letter_in_hand, taken, notified, is_accepted_at}
use Rattle.be_machine.specs.Program.{hop_of, hand_of, hand_at, window_of, app_gone_on, looper_gone_on, moved_on}
use Rattle.be_machine.specs.State.{State, Looper, App, ending}
use Rattle.be_machine.specs.Step.{granted, met}
use Rattle.be_machine.specs.Update.{at_stage, opened, passed_by, begun}
use Rattle.be_machine.specs.Wants.{Want, asks, takes, begins, flushes, draws_end, ends, notifies, executes, uses, stops}
use Rattle.be_machine.proofs.ProgressCases.{by_test, by_option}
use Rattle.be_machine.proofs.Lists.{length_at}
use Rattle.be_machine.proofs.ProgressBeside.{Beside, beside_executed, beside_notified}

pub record SameSizes (s t : State) : Type 0 where
  pub ports : length t.ports ≡ length s.ports
  pub loopers : length t.loopers ≡ length s.loopers
  pub buffers : length t.buffers ≡ length s.buffers
  pub links : length t.links ≡ length s.links
  pub panes : length t.panes ≡ length s.panes
  pub apps : length t.apps ≡ length s.apps
  pub events : t.events ≡ s.events
  pub stopped : t.stopped ≡ s.stopped

same_itself : (s : State) → SameSizes s s
same_itself s = record { ports = refl; loopers = refl; buffers = refl; links = refl; panes = refl; apps = refl; events = refl; stopped = refl }

same_then : (s t u : State) → SameSizes s t → SameSizes t u → SameSizes s u
same_then s t u h k = record {
  ports = k.ports ∙ h.ports;
  loopers = k.loopers ∙ h.loopers;
  buffers = k.buffers ∙ h.buffers;
  links = k.links ∙ h.links;
  panes = k.panes ∙ h.panes;
  apps = k.apps ∙ h.apps;
  events = k.events ∙ h.events;
  stopped = k.stopped ∙ h.stopped;
}

pub same_beside : (s t : State) → Beside s t → SameSizes s t
same_beside s t h = record { ports = h.ports; loopers = ap length h.loopers; buffers = ap length h.buffers; links = h.links; panes = h.panes; apps = ap length h.apps; events = h.events; stopped = h.stopped }

-- ---- single changes

same_looper : (s : State) (w : ℕ) (f : Looper → Looper) → SameSizes s (with_looper s w f)
same_looper s w f = record { ports = refl; loopers = length_at s.loopers w f; buffers = refl; links = refl; panes = refl; apps = refl; events = refl; stopped = refl }

same_post : (s : State) (w : ℕ) (letter : Letter Message) → SameSizes s (with_post s w letter)
same_post s w letter = record { ports = length_at s.ports w (posted letter); loopers = refl; buffers = refl; links = refl; panes = refl; apps = refl; events = refl; stopped = refl }

same_cell : (s : State) (m : ℕ) (f : reply.Cell → reply.Cell) → SameSizes s (with_cell s m f)
same_cell s m f = record { ports = refl; loopers = refl; buffers = refl; links = refl; panes = refl; apps = length_at s.apps m (λ (a : App). record a { cell = f a.cell }); events = refl; stopped = refl }

same_drawn : (s : State) (w : ℕ) (command : Command) → SameSizes s (drawn s w command)
same_drawn s w command = record { ports = refl; loopers = refl; buffers = length_at s.buffers w (with_command command); links = refl; panes = refl; apps = refl; events = refl; stopped = refl }

same_told : (message : Message) (o : Option ℕ) (s : State) → SameSizes s (told message o s)
same_told message (Some m) s = same_cell s m (reply.with_reply message)
same_told message None s = same_itself s

same_duty : (f : Duty → Duty) (who : Runner) (s : State) → SameSizes s (with_duty f who s)
same_duty f (looper w) s = same_looper s w (with_duty_by f)
same_duty f (app m) s = same_itself s

same_waiting : (who : Runner) (s : State) → SameSizes s (with_waiting who s)
same_waiting (app m) s = same_cell s m (λ _. reply.waiting)
same_waiting (looper w) s = same_itself s

same_claimed : (s : State) (who : Runner) → SameSizes s (claimed s who)
same_claimed s (app m) = same_cell s m (λ _. reply.idle)
same_claimed s (looper w) = same_itself s

same_flushed : (s : State) (w : ℕ) → SameSizes s (flushed s w)
same_flushed s w = by_option (SameSizes s) (flushed_into s w) s (slice_get s.buffers w) (same_itself s) (λ b. record { ports = refl; loopers = refl; buffers = length_at s.buffers w emptied; links = length_at s.links w (lengthened b); panes = refl; apps = refl; events = refl; stopped = refl })

same_or : {X : Type 0} (s : State) (f : X → State) (o : Option X) → ((x : X) → SameSizes s (f x)) → SameSizes s (option_map_or f o s)
same_or s f o h = by_option (SameSizes s) f s o (same_itself s) h

-- ---- what is granted

forwarded_by : (s : State) (who : Runner) (w : ℕ) (target : Target) (hand : Hand Message) → SameSizes s (forwarded_hand s who w target hand)
forwarded_by s who w target hand =
    let t : State = with_post s w (letter (sender_of who) target (hop_of s who) (duty_handed_on hand.duty) hand.letter.body) in
    by_test (SameSizes s) (is_accepted_at s w (hop_of s who)) (with_duty duty_after_forward who t) t (same_then s t _ (same_post s w _) (same_duty duty_after_forward who t)) (same_post s w _)

sent_by : (s : State) (who : Runner) (w : ℕ) (sent : Letter Message) (b : Bool) → SameSizes s (if b then with_waiting who (with_post s w sent) else with_post s w sent)
sent_by s who w sent b = by_test (SameSizes s) b (with_waiting who (with_post s w sent)) (with_post s w sent) (same_then s (with_post s w sent) _ (same_post s w sent) (same_waiting who (with_post s w sent))) (same_post s w sent)

same_granted : (s : State) (who : Runner) (x : Wish) → SameSizes s (granted s who x)
unfolding granted
same_granted s who (wish.Note word) = same_itself s
same_granted s who (wish.Post w target message) = same_post s w _
same_granted s who (wish.Send w target message) = sent_by s who w _ (is_accepted_at s w (hop_of s who))
same_granted s who (wish.Forward w target) = same_or s (forwarded_hand s who w target) (hand_of s who) (forwarded_by s who w target)
same_granted s who (wish.Reply message) =
    let o = option_and_then (λ (hand : Hand Message). waiter hand.duty) (hand_of s who) in
    same_then s (told message o s) _ (same_told message o s) (same_duty duty_after_reply who (told message o s))
same_granted s who wish.Claim = same_claimed s who
same_granted s who (wish.Lock w) = same_looper s w (locked_for who)
same_granted s who wish.Unlock = same_or s (freed s) (window_of s who) (λ w. same_looper s w _)
same_granted s who wish.Flush = same_or s (flushed s) (window_of s who) (same_flushed s)
same_granted s who wish.SyncDone = same_itself s
same_granted s who (wish.Draw command) = same_or s (λ w. drawn s w command) (window_of s who) (λ w. same_drawn s w command)

same_moved : (d : Declared) (who : Runner) (accepted : Bool) (x : Wish) (s : State) → SameSizes s (moved_on d who accepted x s)
unfolding moved_on
same_moved d (app m) accepted x s = record { ports = refl; loopers = refl; buffers = refl; links = refl; panes = refl; apps = length_at s.apps m (app_gone_on d m accepted x); events = refl; stopped = refl }
same_moved d (looper w) accepted x s = same_looper s w (looper_gone_on d w accepted x)

-- ---- other wants

same_taken : (d : Declared) (s : State) (w : ℕ) → SameSizes s (taken d s w)
same_taken d s w = same_or s (with_letter_in_hand d s w) (option_and_then front (slice_get s.ports w)) (λ letter. record { ports = length_at s.ports w without_front; loopers = length_at s.loopers w _; buffers = refl; links = refl; panes = refl; apps = refl; events = refl; stopped = refl })

same_begun : (s : State) (w : ℕ) → SameSizes s (begun s w)
unfolding begun
same_begun s w =
    by_test (SameSizes s) (is_any (dirty_of s w)) (option_map_or (opened s w) (corner_at s w) s) (passed_by s w) (same_or s (opened s w) (corner_at s w) (λ corner. record { ports = refl; loopers = length_at s.loopers w _; buffers = refl; links = refl; panes = length_at s.panes w _; apps = refl; events = refl; stopped = refl }))
    (record { ports = refl; loopers = length_at s.loopers w (at_stage ending); buffers = refl; links = refl; panes = length_at s.panes w passed; apps = refl; events = refl; stopped = refl })

same_telling : (t : EndTelling) (s : State) → SameSizes s (told_at_end t s)
same_telling nobody s = same_itself s
same_telling (no_reply m) s = same_cell s m _
same_telling (not_understood m) s = same_cell s m _

same_ended : (s : State) (w : ℕ) (hand : Hand Message) → SameSizes s (ended_hand s w hand)
same_ended s w hand = same_then s (freed s w) _ (same_looper s w _) (same_telling (end_telling hand.duty hand.route) (freed s w))

-- neither an event nor the end
abbrev pub is_work : Want → Bool
is_work (asks who x) = true
is_work (takes w) = true
is_work (begins w) = true
is_work (flushes w) = true
is_work (draws_end w) = true
is_work (ends w) = true
is_work (notifies w) = true
is_work (executes w) = true
is_work (uses x) = false
is_work stops = false

pub same_met : (d : Declared) (s : State) (want : Want) → is_work want ≡ true → SameSizes s (met d s want)
unfolding met
same_met d s (asks who x) work = same_then s (granted s who x) _ (same_granted s who x) (same_moved d who _ x (granted s who x))
same_met d s (takes w) work = same_taken d s w
same_met d s (begins w) work = same_begun s w
same_met d s (flushes w) work = same_flushed s w
same_met d s (draws_end w) work = same_then s (drawn s w EndUpdate) _ (same_drawn s w EndUpdate) (same_looper (drawn s w EndUpdate) w (at_stage ending))
same_met d s (ends w) work = same_or s (ended_hand s w) (hand_at s w) (same_ended s w)
same_met d s (notifies w) work = same_beside s (notified s w) (beside_notified s w)
same_met d s (executes w) work = same_beside s (executed d s w) (beside_executed d s w)
same_met d s (uses x) work = cc
same_met d s stops work = cc
