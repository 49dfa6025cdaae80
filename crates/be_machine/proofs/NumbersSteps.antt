-- What each entry lets grow: two letters, a command and an event at most.
use Rattle.std.proofs.Common.{◌≡◌, ℕ, ◌+◌, ◌≤◌, Bool, true, false, List, [], ◌∷◌, length, length-append, Option, Some, None, refl, ◌∙◌, arith}
use Rattle.std.specs.Prelude.{slice_get, option_and_then, if◌then◌else◌}
use Rattle.std.specs.Option.{option_map_or}
use Rattle.be_actor.specs.declared.Wish.{Wish}
use Rattle.be_actor.specs.declared.Wish.TheVariants as wish
use Rattle.be_bitmap.specs.Pictures.{Picture}
use Rattle.be_command.specs.declared.Command.{Command}
use Rattle.be_command.specs.declared.Command.TheVariants.{EndUpdate}
use Rattle.be_command.specs.Effects.{Deed, Effect, at_view, changes, ends_update, effect_of}
use Rattle.be_geom.specs.declared.change.Change.TheVariants as change
use Rattle.be_geom.specs.declared.point.Point.{Point}
use Rattle.be_input.specs.Deliveries.{Delivery, Post}
use Rattle.be_link.specs.Queues.{Buffer, Numbered, with_command, emptied}
use Rattle.be_looper.specs.Duties.{Hand, EndTelling, nobody, no_reply, not_understood, end_telling, duty_after_reply, duty_after_forward, duty_handed_on}
use Rattle.be_message.specs.declared.target.Target.{Target}
use Rattle.be_message.specs.Messages.{Message}
use Rattle.be_pane.specs.Panes.{Pane}
use Rattle.be_port.specs.declared.Duty.{Duty}
use Rattle.be_port.specs.declared.Duty.TheVariants.{Free}
use Rattle.be_port.specs.Ports.{Letter, Port, judged, is_accepted, posted, with_letter, front, without_front}
use Rattle.be_reply.specs.Cells as reply
use Rattle.be_script.specs.declared.InputLine.{InputLine}
use Rattle.be_script.specs.declared.InputLine.TheVariants as line
use Rattle.be_script.specs.Script.{Declared}
use Rattle.be_span.specs.declared.Cell.{Cell}
use Rattle.be_twin.specs.Executed.{pane_after, without_session}
use Rattle.be_update.specs.Sessions.{is_any, passed, session_of, with_session, with_notice}
use Rattle.be_machine.specs.Activities.{Runner, app, looper, activity_of, sender_of}
use Rattle.be_machine.specs.Commands.{drawn, flushed, flushed_into, with_effect, done_at_view, sight_at, without_front as without_command, executed, executed_command}
use Rattle.be_machine.specs.declared.Entry.{Entry}
use Rattle.be_machine.specs.Input.{with_event, with_delivery, activated, used, ports_with, input_letter, with_under}
use Rattle.be_machine.specs.Looper.{freed, with_cell, sent_duty, with_waiting, sent, claimed, with_duty, told, replied_by, forwarded_hand, told_at_end, ended_hand}
use Rattle.be_machine.specs.Lists.{at}
use Rattle.be_machine.specs.Port.{letter, with_post, is_accepted_at, notified, notice, taken, with_letter_in_hand}
use Rattle.be_machine.specs.Program.{window_of, hop_of, hand_of, hand_at, moved_on}
use Rattle.be_machine.specs.State.{State, App, Looper}
use Rattle.be_machine.specs.Step.{in_own, granted, is_accepted_wish, met, step}
use Rattle.be_machine.specs.Update.{begun, opened, passed_by}
use Rattle.be_machine.specs.Wants.{Want, asks, takes, begins, flushes, draws_end, ends, notifies, executes, uses, stops, want_of}
use Rattle.be_machine.specs.Windows.{corner_at, dirty_of}
use Rattle.be_machine.proofs.Lists.{AtPlace, length_at}
use Rattle.be_machine.proofs.NumbersChanges.{grows_changed}
use Rattle.be_machine.proofs.NumbersGrow.{Grows, stays, and_then, at_most, ports_grow, buffers_grow, Holds, ports_stay, ports_change, buffers_stay}

-- ---- letters

letter_more : (letter : Letter Message) (p : Port Message) → length (with_letter letter p).arrived ≤ length p.arrived + 1
letter_more letter p = omega (arith, length-append p.arrived (letter ∷ []))

pub posted_if : (b : Bool) (letter : Letter Message) (p : Port Message) → length (if b then with_letter letter p else p).arrived ≤ length p.arrived + 1
posted_if true letter p = letter_more letter p
posted_if false letter p = omega arith

pub posted_more : (letter : Letter Message) (p : Port Message) → length (posted letter p).arrived ≤ length p.arrived + 1
unfolding posted
posted_more letter p = posted_if (is_accepted (judged p letter.hop)) letter p

grows_post : (s : State) (w : ℕ) (letter : Letter Message) → Grows 1 0 0 s (with_post s w letter)
grows_post s w letter = ports_grow 1 s w (posted letter) (posted_more letter)

-- ---- parts that have no number

pub same_apps : (s : State) (apps : List App) → Grows 0 0 0 s (record s { apps = apps })
same_apps s apps = let h : Grows 0 0 0 s s = stays s in record { arrived = h.arrived; made = h.made; used = h.used; panes = h.panes; ports = h.ports; rooted = h.rooted }

pub same_loopers : (s : State) (loopers : List Looper) → Grows 0 0 0 s (record s { loopers = loopers })
same_loopers s loopers = let h : Grows 0 0 0 s s = stays s in record { arrived = h.arrived; made = h.made; used = h.used; panes = h.panes; ports = h.ports; rooted = h.rooted }

pub same_links : (s : State) (links : List (List Numbered)) → Grows 0 0 0 s (record s { links = links })
same_links s links = let h : Grows 0 0 0 s s = stays s in record { arrived = h.arrived; made = h.made; used = h.used; panes = h.panes; ports = h.ports; rooted = h.rooted }

grows_cell : (s : State) (m : ℕ) (f : reply.Cell → reply.Cell) → Grows 0 0 0 s (with_cell s m f)
grows_cell s m f = same_apps s _

grows_told : (message : Message) (m : Option ℕ) (s : State) → Grows 0 0 0 s (told message m s)
grows_told message (Some m) s = grows_cell s m _
grows_told message None s = stays s

grows_duty : (f : Duty → Duty) (who : Runner) (s : State) → Grows 0 0 0 s (with_duty f who s)
grows_duty f (looper w) s = same_loopers s _
grows_duty f (app m) s = stays s

grows_waiting : (who : Runner) (s : State) → Grows 0 0 0 s (with_waiting who s)
grows_waiting (app m) s = grows_cell s m _
grows_waiting (looper w) s = stays s

grows_moved : (d : Declared) (who : Runner) (accepted : Bool) (w : Wish) (s : State) → Grows 0 0 0 s (moved_on d who accepted w s)
unfolding moved_on
grows_moved d (app m) accepted w s = same_apps s _
grows_moved d (looper v) accepted w s = same_loopers s _

-- ---- choices

pub grows_if : {i j k : ℕ} (b : Bool) (s t u : State) → Grows i j k s t → Grows i j k s u → Grows i j k s (if b then t else u)
grows_if true s t u g h = g
grows_if false s t u g h = h

pub grows_maybe : {X : Type 0} {i j k : ℕ} (f : X → State) (o : Option X) (s : State) → ((x : X) → Grows i j k s (f x)) → Grows i j k s (option_map_or f o s)
grows_maybe f (Some x) s g = g x
grows_maybe f None s g = at_most s s (omega arith) (omega arith) (omega arith) (stays s)

-- ---- what instructions ask for

grows_sent : (s : State) (who : Runner) (w : ℕ) (target : Target) (message : Message) → Grows 1 0 0 s (sent s who w target message)
grows_sent s who w target message =
    let post : State = with_post s w (letter (sender_of who) target (hop_of s who) (sent_duty who) message) in
    let g : Grows 1 0 0 s post = grows_post s w _ in
    grows_if (is_accepted_at s w (hop_of s who)) s (with_waiting who post) post (and_then s post _ g (grows_waiting who post)) g

grows_forwarded : (s : State) (who : Runner) (w : ℕ) (target : Target) (hand : Hand Message) → Grows 1 0 0 s (forwarded_hand s who w target hand)
grows_forwarded s who w target hand =
    let post : State = with_post s w (letter (sender_of who) target (hop_of s who) (duty_handed_on hand.duty) hand.letter.body) in
    let g : Grows 1 0 0 s post = grows_post s w _ in
    grows_if (is_accepted_at s w (hop_of s who)) s (with_duty duty_after_forward who post) post (and_then s post _ g (grows_duty duty_after_forward who post)) g

grows_replied : (s : State) (who : Runner) (message : Message) → Grows 0 0 0 s (replied_by s who message)
grows_replied s who message = and_then s (told message _ s) _ (grows_told message _ s) (grows_duty duty_after_reply who _)

grows_claimed : (s : State) (who : Runner) → Grows 0 0 0 s (claimed s who)
grows_claimed s (app m) = grows_cell s m _
grows_claimed s (looper w) = stays s

grows_drawn : (s : State) (w : ℕ) (c : Command) → Grows 0 1 0 s (drawn s w c)
grows_drawn s w c = buffers_grow 1 s w (with_command c) (λ b. omega arith)

grows_flushed_into : (s : State) (w : ℕ) (b : Buffer) → Grows 0 0 0 s (flushed_into s w b)
grows_flushed_into s w b =
    let t : State = record s { buffers = at s.buffers w emptied } in
    and_then s t _ (buffers_grow 0 s w emptied (λ b. omega arith)) (same_links t _)

pub grows_flushed : (s : State) (w : ℕ) → Grows 0 0 0 s (flushed s w)
grows_flushed s w = grows_maybe (flushed_into s w) (slice_get s.buffers w) s (grows_flushed_into s w)

grows_own : {i j k : ℕ} (s : State) (who : Runner) (f : ℕ → State) → ((w : ℕ) → Grows i j k s (f w)) → Grows i j k s (in_own s who f)
grows_own s who f g = grows_maybe f (window_of s who) s g

up : {i j k : ℕ} (s t : State) → i ≤ 2 → j ≤ 1 → k ≤ 1 → Grows i j k s t → Grows 2 1 1 s t
up s t p q r g = at_most s t p q r g

grows_granted : (s : State) (who : Runner) (w : Wish) → Grows 2 1 1 s (granted s who w)
unfolding granted
grows_granted s who (wish.Note word) = up s s (omega arith) (omega arith) (omega arith) (stays s)
grows_granted s who (wish.Post w target message) = up s _ (omega arith) (omega arith) (omega arith) (grows_post s w (letter (sender_of who) target (hop_of s who) Free message))
grows_granted s who (wish.Send w target message) = up s _ (omega arith) (omega arith) (omega arith) (grows_sent s who w target message)
grows_granted s who (wish.Forward w target) = up s _ (omega arith) (omega arith) (omega arith) (grows_maybe (forwarded_hand s who w target) (hand_of s who) s (grows_forwarded s who w target))
grows_granted s who (wish.Reply message) = up s _ (omega arith) (omega arith) (omega arith) (grows_replied s who message)
grows_granted s who wish.Claim = up s _ (omega arith) (omega arith) (omega arith) (grows_claimed s who)
grows_granted s who (wish.Lock w) = up s _ (omega arith) (omega arith) (omega arith) (same_loopers s _)
grows_granted s who wish.Unlock = up s _ (omega arith) (omega arith) (omega arith) (grows_own s who (freed s) (λ w. same_loopers s _))
grows_granted s who wish.Flush = up s _ (omega arith) (omega arith) (omega arith) (grows_own s who (flushed s) (grows_flushed s))
grows_granted s who wish.SyncDone = up s s (omega arith) (omega arith) (omega arith) (stays s)
grows_granted s who (wish.Draw command) = up s _ (omega arith) (omega arith) (omega arith) (grows_own s who (λ w. drawn s w command) (λ w. grows_drawn s w command))

-- ---- twins

same_shown : (s : State) (w : ℕ) (f : Pane → Pane) (screen : List Cell) → Grows 0 0 0 s (record s { panes = at s.panes w f; screen = screen })
same_shown s w f screen =
    let h : Grows 0 0 0 s s = stays s in
    record { arrived = h.arrived; made = h.made; used = h.used; panes = length_at s.panes w f; ports = h.ports; rooted = h.rooted }

same_panes : (s : State) (w : ℕ) (f : Pane → Pane) → Grows 0 0 0 s (record s { panes = at s.panes w f })
same_panes s w f = same_shown s w f s.screen

grows_at_view : (pictures : List Picture) (s : State) (w v : ℕ) (deed : Deed) (pane : Pane) → Grows 0 0 0 s (done_at_view pictures s w v deed pane)
grows_at_view pictures s w v deed pane = same_shown s w (pane_after pictures deed v (sight_at s w v pane)) (done_at_view pictures s w v deed pane).screen

grows_effect : (pictures : List Picture) (s : State) (w : ℕ) (e : Effect) → Grows 0 0 0 s (with_effect pictures s w e)
grows_effect pictures s w (at_view v deed) = grows_maybe (done_at_view pictures s w v deed) (slice_get s.panes w) s (grows_at_view pictures s w v deed)
grows_effect pictures s w (changes c) = grows_changed s w c
grows_effect pictures s w ends_update = same_panes s w without_session

grows_command : (d : Declared) (s : State) (w : ℕ) (c : Numbered) → Grows 0 0 0 s (executed_command d s w c)
grows_command d s w c = and_then s (without_command s w) _ (same_links s _) (grows_effect d.pictures (without_command s w) w (effect_of c.command))

grows_executed : (d : Declared) (s : State) (w : ℕ) → Grows 0 0 0 s (executed d s w)
unfolding executed
grows_executed d s w = grows_maybe (executed_command d s w) (option_and_then (λ link. slice_get link 0) (slice_get s.links w)) s (grows_command d s w)

grows_notified : (s : State) (w : ℕ) → Grows 1 0 0 s (notified s w)
grows_notified s w =
    let t : State = record s { ports = at s.ports w (with_letter (notice w)) } in
    and_then s t _ (ports_grow 1 s w (with_letter (notice w)) (letter_more (notice w))) (same_panes t w with_notice)

-- ---- loopers

grows_letter : (d : Declared) (s : State) (w : ℕ) (letter : Letter Message) → Grows 0 0 0 s (with_letter_in_hand d s w letter)
grows_letter d s w letter =
    let t : State = record s { ports = at s.ports w without_front } in
    and_then s t _ (ports_grow 0 s w without_front (λ p. omega arith)) (same_loopers t _)

grows_taken : (d : Declared) (s : State) (w : ℕ) → Grows 0 0 0 s (taken d s w)
grows_taken d s w = grows_maybe (with_letter_in_hand d s w) (option_and_then front (slice_get s.ports w)) s (grows_letter d s w)

grows_opened : (s : State) (w : ℕ) (corner : Point) → Grows 0 0 0 s (opened s w corner)
grows_opened s w corner =
    let t : State = record s { panes = at s.panes w (with_session (session_of corner (dirty_of s w))); screen = (opened s w corner).screen } in
    and_then s t _ (same_shown s w (with_session (session_of corner (dirty_of s w))) t.screen) (same_loopers t _)

grows_passed : (s : State) (w : ℕ) → Grows 0 0 0 s (passed_by s w)
grows_passed s w =
    let t : State = record s { panes = at s.panes w passed } in
    and_then s t _ (same_panes s w passed) (same_loopers t _)

grows_begun : (s : State) (w : ℕ) → Grows 0 0 0 s (begun s w)
unfolding begun
grows_begun s w = grows_if (is_any (dirty_of s w)) s _ _ (grows_maybe (opened s w) (corner_at s w) s (grows_opened s w)) (grows_passed s w)

grows_telling : (t : EndTelling) (s : State) → Grows 0 0 0 s (told_at_end t s)
grows_telling nobody s = stays s
grows_telling (no_reply m) s = grows_told _ (Some m) s
grows_telling (not_understood m) s = grows_told _ (Some m) s

grows_ended : (s : State) (w : ℕ) (hand : Hand Message) → Grows 0 0 0 s (ended_hand s w hand)
grows_ended s w hand = and_then s (freed s w) _ (same_loopers s _) (grows_telling (end_telling hand.duty hand.route) (freed s w))

-- ---- input

ports_with_hold : (ports : List (Port Message)) (o : Option Post) (w m n : ℕ) → m + 1 ≤ n → AtPlace (Holds m) ports w → AtPlace (Holds n) (ports_with ports o) w
ports_with_hold ports (Some post) w m n le h = ports_change ports post.window (posted (input_letter post)) 1 (posted_more (input_letter post)) w m n le h
ports_with_hold ports None w m n le h = ports_stay ports w m n (omega arith) h

pub length_ports_with : (ports : List (Port Message)) (o : Option Post) → length (ports_with ports o) ≡ length ports
length_ports_with ports (Some post) = length_at ports post.window _
length_ports_with ports None = refl

grows_activated : (s : State) (o : Option ℕ) → Grows 0 0 0 s (activated s o)
grows_activated s (Some w) = grows_changed s w change.Activate
grows_activated s None = stays s

grows_delivery : (s : State) (delivery : Delivery) → Grows 2 0 1 s (with_delivery s delivery)
grows_delivery s delivery =
    let t : State = record (used s) { ports = ports_with (ports_with s.ports delivery.first) delivery.second; desk = with_under delivery s.desk } in
    let g : Grows 2 0 1 s t = record {
      arrived = λ w m n le h. ports_with_hold (ports_with s.ports delivery.first) delivery.second w (m + 1) n (omega arith) (ports_with_hold s.ports delivery.first w m (m + 1) (omega arith) h);
      made = buffers_stay s.buffers;
      used = omega arith;
      panes = refl;
      ports = length_ports_with (ports_with s.ports delivery.first) delivery.second ∙ length_ports_with s.ports delivery.first;
      rooted = λ h. h;
    } in
    and_then s t _ g (grows_activated t delivery.activate)

grows_event : (s : State) (l : InputLine) → Grows 2 1 1 s (with_event s l)
grows_event s (line.Press p) = up s _ (omega arith) (omega arith) (omega arith) (grows_delivery s _)
grows_event s (line.Release p) = up s _ (omega arith) (omega arith) (omega arith) (grows_delivery s _)
grows_event s (line.Move p) = up s _ (omega arith) (omega arith) (omega arith) (grows_delivery s _)
grows_event s (line.Key key) = up s _ (omega arith) (omega arith) (omega arith) (grows_delivery s _)
grows_event s (line.After m) = record {
  arrived = λ w i n le h. ports_stay s.ports w i n (omega arith) h;
  made = λ w i n le h. buffers_stay s.buffers w i n (omega arith) h;
  used = omega arith;
  panes = refl;
  ports = refl;
  rooted = λ h. h;
}

-- ---- all

grows_stopped : (s : State) → Grows 0 0 0 s (record s { stopped = true })
grows_stopped s =
    let h : Grows 0 0 0 s s = stays s in
    record { arrived = h.arrived; made = h.made; used = h.used; panes = h.panes; ports = h.ports; rooted = h.rooted }

pub grows_met : (d : Declared) (s : State) (want : Want) → Grows 2 1 1 s (met d s want)
unfolding met
grows_met d s (asks who w) = at_most s _ (omega arith) (omega arith) (omega arith) (and_then s (granted s who w) _ (grows_granted s who w) (grows_moved d who (is_accepted_wish s who w) w (granted s who w)))
grows_met d s (takes w) = up s _ (omega arith) (omega arith) (omega arith) (grows_taken d s w)
grows_met d s (begins w) = up s _ (omega arith) (omega arith) (omega arith) (grows_begun s w)
grows_met d s (flushes w) = up s _ (omega arith) (omega arith) (omega arith) (grows_flushed s w)
grows_met d s (draws_end w) = up s _ (omega arith) (omega arith) (omega arith) (and_then s (drawn s w EndUpdate) _ (grows_drawn s w EndUpdate) (same_loopers (drawn s w EndUpdate) _))
grows_met d s (ends w) = up s _ (omega arith) (omega arith) (omega arith) (grows_maybe (ended_hand s w) (hand_at s w) s (grows_ended s w))
grows_met d s (notifies w) = up s _ (omega arith) (omega arith) (omega arith) (grows_notified s w)
grows_met d s (executes w) = up s _ (omega arith) (omega arith) (omega arith) (grows_executed d s w)
grows_met d s (uses l) = grows_event s l
grows_met d s stops = up s _ (omega arith) (omega arith) (omega arith) (grows_stopped s)

pub grows_step : (d : Declared) (s : State) (e : Entry) → Grows 2 1 1 s (step d s e)
unfolding step
grows_step d s e = grows_maybe (met d s) (option_and_then (want_of d s) (activity_of d e.actor)) s (grows_met d s)
