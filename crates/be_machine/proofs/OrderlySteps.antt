-- What a legal entry says of a window may happen there next, and the tally behind it is that of the state behind it.
use Rattle.std.proofs.Common.{◌≡◌, ℕ, ◌+◌, Bool, true, false, List, [], length, Option, Some, None, refl, sym, subst}
use Rattle.std.specs.Prelude.{slice_get, ◌==◌, option_and_then, if◌then◌else◌, Result, Ok, Err}
use Rattle.std.specs.Option.{option_map_or}
use Rattle.std.proofs.lemmas.Option.{same_Some}
use Rattle.be_actor.specs.declared.Wish.{Wish}
use Rattle.be_bitmap.specs.Pictures.{Picture}
use Rattle.be_command.specs.declared.Command.{Command}
use Rattle.be_command.specs.Effects.{Effect, at_view, changes, ends_update, effect_of}
use Rattle.be_desk.specs.Changes.{Desk, desk_after}
use Rattle.be_geom.specs.declared.change.Change.{Change}
use Rattle.be_geom.specs.declared.change.Change.TheVariants.{Show, Hide, MoveTo, MoveBy, ResizeTo, Activate, Behind, Focus, Close}
use Rattle.be_link.specs.Queues.{Numbered, Buffer, is_full, fits}
use Rattle.be_looper.specs.Duties.{Hand, waiter, duty_after_forward, duty_handed_on}
use Rattle.be_message.specs.declared.target.Target.{Target}
use Rattle.be_message.specs.Messages.{Message}
use Rattle.be_pane.specs.Panes.{Pane}
use Rattle.be_port.specs.declared.Duty.{Duty}
use Rattle.be_port.specs.Ports.{Letter, Port, judged}
use Rattle.be_script.specs.Script.{Declared}
use Rattle.be_stack.specs.declared.fault.ChangeFault.{ChangeFault}
use Rattle.be_machine.specs.Activities.{Runner, app, looper, Activity, twin, sender_of}
use Rattle.be_machine.specs.Commands.{draw_act, flush_act, sync_act, exec_act, effect_outcome, drawn, flushed, with_effect, done_at_view, without_front, executed_command, executed}
use Rattle.be_machine.specs.declared.Act.{Act}
use Rattle.be_machine.specs.declared.Act.TheVariants as act
use Rattle.be_machine.specs.Happenings.{Happening, of_posted, of_act}
use Rattle.be_machine.specs.Looper.{sent, sent_duty, with_waiting, told, with_duty, forwarded_hand, claimed}
use Rattle.be_machine.specs.Orderly.{Tally}
use Rattle.be_machine.specs.Port.{post_act, letter, with_post, is_accepted_at}
use Rattle.be_machine.specs.Program.{hop_of, looper_gone_on, moved_on}
use Rattle.be_machine.specs.State.{State, Looper, free, locked, handling, Stage}
use Rattle.be_machine.specs.Update.{at_stage}
use Rattle.be_machine.specs.Windows.{changed, changed_to, ports_after}
use Rattle.be_machine.proofs.Found.{IsMapped, mapped, IsChained, chained, IsJoined, joined, IsTested, tested, untested}
use Rattle.be_machine.proofs.Lists.{AtPlace}
use Rattle.be_machine.proofs.OrderlyCommands.{draw_goes, flush_goes, exec_goes}
use Rattle.be_machine.proofs.OrderlyLoopers.{looper_kept, duty_kept, forward_keeps}
use Rattle.be_machine.proofs.OrderlyPorts.{post_goes, closing_tallied}
use Rattle.be_machine.proofs.Tallied.{OfLooper, OfPort, IsTallied, GoesOn, nothing_happens}

-- what an act of someone says of window w, and that it goes on
abbrev pub Goes : State → ℕ → Tally → Activity → Act → Type 0
Goes s w t who a = GoesOn s w t (of_act w (Some who) a)

pub with_act : (s : State) (w : ℕ) (t : Tally) (who : Activity) (a b : Act) → a ≡ b → Goes s w t who a → Goes s w t who b
with_act s w t who a b same h = subst (Goes s w t who) same h

-- the parts behind it are other ones, and show the same
pub other_state : (s r : State) (w : ℕ) (t : Tally) (happenings : List Happening) → ((u : Tally) → IsTallied s w u → IsTallied r w u) → GoesOn s w t happenings → GoesOn r w t happenings
other_state s r w t happenings keep h = record { in_turn = h.in_turn; tallied = keep _ h.tallied }

pub by_test : (P : State → Type 0) (b : Bool) (x y : State) → P x → P y → P (if b then x else y)
by_test P true x y h k = h
by_test P false x y h k = k

-- what says nothing here and nothing elsewhere
pub nothing_if : (b : Bool) → ◌≡◌ {A = List Happening} (if b then [] else []) []
nothing_if true = refl
nothing_if false = refl

-- ---- going on

goes_on_shown : (d : Declared) (w v : ℕ) (accepted : Bool) (x : Wish) (t : Tally) (l : Looper) → OfLooper t l → OfLooper t (looper_gone_on d v accepted x l)
goes_on_shown d w v accepted x t (handling hand g) old = record { handles = old.handles; locks = old.locks; replied = old.replied }
goes_on_shown d w v accepted x t (locked m) old = old
goes_on_shown d w v accepted x t free old = old

moved_tallied : (d : Declared) (who : Runner) (accepted : Bool) (x : Wish) (s : State) (w : ℕ) (t : Tally) → IsTallied s w t → IsTallied (moved_on d who accepted x s) w t
unfolding moved_on
moved_tallied d (app m) accepted x s w t h = record { port = h.port; looper = h.looper; buffer = h.buffer; link = h.link }
moved_tallied d (looper v) accepted x s w t h = looper_kept s v w t (looper_gone_on d v accepted x) (goes_on_shown d w v accepted x t) h

pub moves : (d : Declared) (who : Runner) (accepted : Bool) (x : Wish) (s : State) (w : ℕ) (t : Tally) (happenings : List Happening) → GoesOn s w t happenings → GoesOn (moved_on d who accepted x s) w t happenings
moves d who accepted x s w t happenings h = other_state s (moved_on d who accepted x s) w t happenings (moved_tallied d who accepted x s w) h

pub stage_shown : (g : Stage) (t : Tally) (l : Looper) → OfLooper t l → OfLooper t (at_stage g l)
stage_shown g t (handling hand old) h = record { handles = h.handles; locks = h.locks; replied = h.replied }
stage_shown g t (locked m) h = h
stage_shown g t free h = h

-- ---- reply cells change, and nothing of the window does

pub told_tallied : (message : Message) (o : Option ℕ) (s : State) (w : ℕ) (t : Tally) → IsTallied s w t → IsTallied (told message o s) w t
told_tallied message (Some m) s w t h = record { port = h.port; looper = h.looper; buffer = h.buffer; link = h.link }
told_tallied message None s w t h = h

waiting_tallied : (who : Runner) (s : State) (w : ℕ) (t : Tally) → IsTallied s w t → IsTallied (with_waiting who s) w t
waiting_tallied (app m) s w t h = record { port = h.port; looper = h.looper; buffer = h.buffer; link = h.link }
waiting_tallied (looper v) s w t h = h

pub claimed_tallied : (who : Runner) (s : State) (w : ℕ) (t : Tally) → IsTallied s w t → IsTallied (claimed s who) w t
claimed_tallied (app m) s w t h = record { port = h.port; looper = h.looper; buffer = h.buffer; link = h.link }
claimed_tallied (looper v) s w t h = h

pub duty_tallied : (f : Duty → Duty) → ((x : Duty) → waiter x ≡ None → waiter (f x) ≡ None) → (who : Runner) (s : State) (w : ℕ) (t : Tally) → IsTallied s w t → IsTallied (with_duty f who s) w t
duty_tallied f keep (looper v) s w t h = duty_kept s v w t f keep h
duty_tallied f keep (app m) s w t h = h

-- ---- posts

pub post_done : (s r : State) (who : Activity) (v w hop : ℕ) (t : Tally) (x : Letter Message) (a : Act) → x.hop ≡ hop → ((u : Tally) → IsTallied (with_post s v x) w u → IsTallied r w u) → post_act s v hop ≡ Some a → IsTallied s w t → Goes r w t who a
post_done s r who v w hop t x a same keep e h =
    let at : IsMapped (λ p. act.Post v (judged p hop)) (slice_get s.ports v) a = mapped (λ (p : Port Message). act.Post v (judged p hop)) (slice_get s.ports v) a e in
    let goes : GoesOn (with_post s v x) w t (if w == v then of_posted (judged at.from x.hop) else []) = post_goes s v w t x at.from at.read h in
    with_act r w t who (act.Post v (judged at.from hop)) a at.is
    (other_state (with_post s v x) r w t _ keep (subst (λ n. GoesOn (with_post s v x) w t (if w == v then of_posted (judged at.from n) else [])) same goes))

pub forwarded_tallied : (s : State) (v u w : ℕ) (target : Target) (t : Tally) (hand : Hand Message) → IsTallied (with_post s u (letter (sender_of (looper v)) target (hop_of s (looper v)) (duty_handed_on hand.duty) hand.letter.body)) w t → IsTallied (forwarded_hand s (looper v) u target hand) w t
forwarded_tallied s v u w target t hand h =
    by_test (λ x. IsTallied x w t) (is_accepted_at s u (hop_of s (looper v))) _ _
    (duty_tallied duty_after_forward forward_keeps (looper v) _ w t h) h

pub sent_tallied : (s : State) (who : Runner) (u w : ℕ) (target : Target) (message : Message) (t : Tally) → IsTallied (with_post s u (letter (sender_of who) target (hop_of s who) (sent_duty who) message)) w t → IsTallied (sent s who u target message) w t
sent_tallied s who u w target message t h =
    by_test (λ x. IsTallied x w t) (is_accepted_at s u (hop_of s who)) _ _ (waiting_tallied who _ w t h) h

-- ---- commands

pub draw_done : (s : State) (who : Activity) (v w : ℕ) (t : Tally) (c : Command) (a : Act) → draw_act s v ≡ Some a → IsTallied s w t → Goes (drawn s v c) w t who a
draw_done s who v w t c a e h =
    let at : IsChained (λ b. if is_full b then None else Some (act.Draw v (b.made + 1))) (slice_get s.buffers v) a = chained (λ (b : Buffer). if is_full b then None else Some (act.Draw v (b.made + 1))) (slice_get s.buffers v) a e in
    let is : (is_full at.from ≡ false) × (act.Draw v (at.from.made + 1) ≡ a) = untested (is_full at.from) (act.Draw v (at.from.made + 1)) a at.is in
    with_act (drawn s v c) w t who (act.Draw v (at.from.made + 1)) a is.1 (draw_goes s v w t c at.from at.read h)

pub flush_done : (s : State) (who : Activity) (v w : ℕ) (t : Tally) (a : Act) → flush_act s v ≡ Some a → IsTallied s w t → Goes (flushed s v) w t who a
flush_done s who v w t a e h =
    let at : IsJoined (λ b link. if fits b link then Some (act.Flush v (length b.commands)) else None) (slice_get s.buffers v) (slice_get s.links v) a =
    joined (λ (b : Buffer) (link : List Numbered). if fits b link then Some (act.Flush v (length b.commands)) else None) (slice_get s.buffers v) (slice_get s.links v) a e in
    let is : IsTested (fits at.first at.second) (act.Flush v (length at.first.commands)) a = tested (fits at.first at.second) (act.Flush v (length at.first.commands)) a at.is in
    with_act (flushed s v) w t who (act.Flush v (length at.first.commands)) a is.is (flush_goes s v w t at.first at.read_first h)

pub sync_done : (s : State) (who : Activity) (v w : ℕ) (t : Tally) (a : Act) → sync_act s v ≡ Some a → IsTallied s w t → Goes s w t who a
sync_done s who v w t a e h =
    let at : IsChained (λ link. if length link == 0 then Some (act.SyncDone v) else None) (slice_get s.links v) a = chained (λ (link : List Numbered). if length link == 0 then Some (act.SyncDone v) else None) (slice_get s.links v) a e in
    let is : IsTested (length at.from == 0) (act.SyncDone v) a = tested (length at.from == 0) (act.SyncDone v) a at.is in
    with_act s w t who (act.SyncDone v) a is.is (nothing_happens s w t h)

ports_tallied : (s : State) (v w : ℕ) (t : Tally) (change : Change) → IsTallied s w t → AtPlace (OfPort t) (ports_after v change s.ports) w
ports_tallied s v w t Close h = closing_tallied s v w t h
ports_tallied s v w t Show h = h.port
ports_tallied s v w t Hide h = h.port
ports_tallied s v w t (MoveTo corner) h = h.port
ports_tallied s v w t (MoveBy dx dy) h = h.port
ports_tallied s v w t (ResizeTo width height) h = h.port
ports_tallied s v w t Activate h = h.port
ports_tallied s v w t (Behind other) h = h.port
ports_tallied s v w t (Focus view) h = h.port

changed_to_tallied : (s : State) (v w : ℕ) (t : Tally) (change : Change) (r : Result Desk ChangeFault) → IsTallied s w t → IsTallied (changed_to s v change r) w t
changed_to_tallied s v w t change (Ok desk) h = record { port = ports_tallied s v w t change h; looper = h.looper; buffer = h.buffer; link = h.link }
changed_to_tallied s v w t change (Err f) h = h

pub changed_tallied : (s : State) (v w : ℕ) (t : Tally) (change : Change) → IsTallied s w t → IsTallied (changed s v change) w t
unfolding changed
changed_tallied s v w t change h = changed_to_tallied s v w t change (desk_after s.desk v change) h

at_view_tallied : (pictures : List Picture) (s : State) (v w : ℕ) (t : Tally) (f : Pane → State) (o : Option Pane) → ((pane : Pane) → IsTallied (f pane) w t) → IsTallied s w t → IsTallied (option_map_or f o s) w t
at_view_tallied pictures s v w t f (Some pane) each h = each pane
at_view_tallied pictures s v w t f None each h = h

effect_tallied : (pictures : List Picture) (s : State) (v w : ℕ) (t : Tally) (effect : Effect) → IsTallied s w t → IsTallied (with_effect pictures s v effect) w t
effect_tallied pictures s v w t (at_view u deed) h = at_view_tallied pictures s v w t (done_at_view pictures s v u deed) (slice_get s.panes v) (λ pane. record { port = h.port; looper = h.looper; buffer = h.buffer; link = h.link }) h
effect_tallied pictures s v w t (changes change) h = changed_tallied s v w t change h
effect_tallied pictures s v w t ends_update h = record { port = h.port; looper = h.looper; buffer = h.buffer; link = h.link }

pub exec_done : (d : Declared) (s : State) (v w : ℕ) (t : Tally) (a : Act) → exec_act d s v ≡ Some a → IsTallied s w t → Goes (executed d s v) w t (twin v) a
unfolding executed
exec_done d s v w t a e h =
    let oldest : Option Numbered = option_and_then (λ link. slice_get link 0) (slice_get s.links v) in
    let at : IsJoined (λ pane c. Some (act.Exec c.number (effect_outcome d.pictures s v (effect_of c.command) pane))) (slice_get s.panes v) oldest a =
    joined (λ (pane : Pane) (c : Numbered). Some (act.Exec c.number (effect_outcome d.pictures s v (effect_of c.command) pane))) (slice_get s.panes v) oldest a e in
    let link : IsChained (λ link. slice_get link 0) (slice_get s.links v) at.second = chained (λ (link : List Numbered). slice_get link 0) (slice_get s.links v) at.second at.read_second in
    let goes : Goes (without_front s v) w t (twin v) (act.Exec at.second.number (effect_outcome d.pictures s v (effect_of at.second.command) at.first)) = exec_goes s v w t at.second link.from link.read link.is h in
    let after : Goes (executed_command d s v at.second) w t (twin v) (act.Exec at.second.number (effect_outcome d.pictures s v (effect_of at.second.command) at.first)) =
    other_state (without_front s v) (executed_command d s v at.second) w t _ (λ u k. effect_tallied d.pictures (without_front s v) v w u (effect_of at.second.command) k) goes in
    subst (λ o. Goes (option_map_or (executed_command d s v) o s) w t (twin v) a) (sym at.read_second)
    (with_act (executed_command d s v at.second) w t (twin v) _ a (same_Some _ a at.is) after)
