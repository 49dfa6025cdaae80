-- After every legal history a port is closed exactly where its window is.
use Rattle.std.proofs.Common.{◌≡◌, ℕ, zero, suc, Bool, true, false, List, [], ◌∷◌, map, Option, Some, None, Result, Ok, Err, refl, sym, ap, subst, ◌∙◌}
use Rattle.std.specs.Prelude.{◌==◌, slice_get, slice_set, option_and_then, if◌then◌else◌, ◌-ℤ◌}
use Rattle.std.specs.Option.{option_map_or}
use Rattle.std.proofs.lemmas.Option.{same_Some}
use Rattle.be_facts.proofs.Lists.{get_map}
use Rattle.be_actor.specs.declared.Wish.{Wish}
use Rattle.be_actor.specs.declared.Wish.TheVariants as wish
use Rattle.be_bitmap.specs.Pictures.{Picture}
use Rattle.be_command.specs.Effects.{Effect, at_view, changes, ends_update, effect_of}
use Rattle.be_desk.specs.Changes.{Desk, desk_after, desk_with, desk_unless, with_tree}
use Rattle.be_geom.specs.declared.change.Change.{Change}
use Rattle.be_geom.specs.declared.change.Change.TheVariants.{Show, Hide, MoveTo, MoveBy, ResizeTo, Activate, Behind, Focus, Close}
use Rattle.be_geom.specs.declared.rect.Rect.{Rect}
use Rattle.be_geom.specs.Rects.{moved_rect}
use Rattle.be_input.specs.Deliveries.{Delivery, Post}
use Rattle.be_input.specs.declared.Event.TheVariants as event
use Rattle.be_looper.specs.Duties.{EndTelling, nobody, no_reply, not_understood, end_telling}
use Rattle.be_message.specs.Messages.{Message}
use Rattle.be_port.specs.declared.Duty.{Duty}
use Rattle.be_port.specs.Ports.{Letter, Port, is_accepted, judged, posted, without_front, closed_port, front, with_letter, empty_port}
use Rattle.be_script.specs.declared.InputLine.{InputLine}
use Rattle.be_script.specs.declared.InputLine.TheVariants as line
use Rattle.be_script.specs.declared.WindowLine.{WindowLine}
use Rattle.be_script.specs.Script.{Declared}
use Rattle.be_stack.specs.Changes as stack
use Rattle.be_stack.specs.Changes.{within_range, resized_rect, windows_after, is_gone}
use Rattle.be_stack.specs.declared.fault.ChangeFault.{ChangeFault}
use Rattle.be_stack.specs.declared.window.Window.{Window}
use Rattle.be_stack.specs.Windows.{Windows}
use Rattle.be_update.specs.Sessions.{is_any}
use Rattle.be_views.specs.Resizing.{resized}
use Rattle.be_views.specs.Trees.{Tree}
use Rattle.be_machine.specs.Activities.{Runner, app, looper}
use Rattle.be_machine.specs.Commands.{flushed, flushed_into, drawn, with_effect, done_at_view, without_front as without_command, executed_command, executed}
use Rattle.be_machine.specs.declared.Entry.{Entry}
use Rattle.be_machine.specs.History.{AreLegalFrom, IsLegalHistory, state_from, state_after}
use Rattle.be_machine.specs.Input.{input_letter, ports_with, delivery_of, activated, with_delivery, with_event}
use Rattle.be_machine.specs.Legal.{IsLegal}
use Rattle.be_machine.specs.Lists.{at, set_at}
use Rattle.be_machine.specs.Looper.{with_duty, with_waiting, forwarded_hand, told, claimed, freed, told_at_end, ended_hand}
use Rattle.be_machine.specs.Port.{is_accepted_at, with_letter_in_hand, notice}
use Rattle.be_machine.specs.Program.{window_of, hop_of, hand_of, moved_on, hand_at}
use Rattle.be_machine.specs.State.{State, opening_state, opening_window}
use Rattle.be_machine.specs.Step.{granted, step, met}
use Rattle.be_machine.specs.Update.{begun, opened, passed_by}
use Rattle.be_machine.specs.Wants.{Want, asks, takes, begins, flushes, draws_end, ends, notifies, executes, uses, stops}
use Rattle.be_machine.specs.Windows.{corner_at, dirty_of, ports_after, changed, changed_to}
use Rattle.be_machine.proofs.LegalEntries.{IsMet, met_by}
use Rattle.be_machine.proofs.PixelSteps.{quiet_shown}
use Rattle.be_machine.proofs.ProgressCases.{by_test, by_option}

-- which ports are closed, and which windows
abbrev shut : List (Port Message) → List Bool
shut ports = map (λ p. p.closed) ports

abbrev gone : Windows → List Bool
gone windows = map (λ w. w.closed) windows.windows

abbrev AreTogether : State → Type 0
AreTogether s = shut s.ports ≡ gone s.desk.windows

-- ---- lists

map_set : {X Y : Type 0} (f : X → Y) (xs : List X) (w : ℕ) (x : X) → map f (slice_set xs w x) ≡ slice_set (map f xs) w (f x)
map_set f [] w x = refl
map_set f (y ∷ ys) zero x = refl
map_set f (y ∷ ys) (suc w) x = ap (λ zs. f y ∷ zs) (map_set f ys w x)

set_same : {X Y : Type 0} (f : X → Y) (xs : List X) (w : ℕ) (x : X) (y : Y) → slice_get xs w ≡ Some x → y ≡ f x → slice_set (map f xs) w y ≡ map f xs
set_same f [] w x y read is = refl
set_same f (z ∷ zs) zero x y read is = ap (λ u. u ∷ map f zs) (is ∙ ap f (sym (same_Some z x read)))
set_same f (z ∷ zs) (suc w) x y read is = ap (λ us. f z ∷ us) (set_same f zs w x y read is)

set_nothing : {X Y : Type 0} (f : X → Y) (xs : List X) (w : ℕ) (y : Y) → slice_get xs w ≡ None → slice_set (map f xs) w y ≡ map f xs
set_nothing f [] w y read = refl
set_nothing f (z ∷ zs) zero y read = absurd (cc)
set_nothing f (z ∷ zs) (suc w) y read = ap (λ us. f z ∷ us) (set_nothing f zs w y read)

-- an element keeps what is read of it
kept_by : {X Y : Type 0} (f : X → Y) (xs : List X) (w : ℕ) (g : X → X) (o : Option X) → slice_get xs w ≡ o → ((x : X) → f (g x) ≡ f x) → map f (set_at xs w g o) ≡ map f xs
kept_by f xs w g (Some x) read same = map_set f xs w (g x) ∙ set_same f xs w x (f (g x)) read (same x)
kept_by f xs w g None read same = refl

at_kept : {X Y : Type 0} (f : X → Y) (xs : List X) (w : ℕ) (g : X → X) → ((x : X) → f (g x) ≡ f x) → map f (at xs w g) ≡ map f xs
at_kept f xs w g same = kept_by f xs w g (slice_get xs w) refl same

set_by : {X Y : Type 0} (f : X → Y) (xs : List X) (w : ℕ) (g : X → X) (y : Y) (o : Option X) → slice_get xs w ≡ o → ((x : X) → f (g x) ≡ y) → map f (set_at xs w g o) ≡ slice_set (map f xs) w y
set_by f xs w g y (Some x) read same = map_set f xs w (g x) ∙ ap (slice_set (map f xs) w) (same x)
set_by f xs w g y None read same = sym (set_nothing f xs w y read)

-- ---- changes

-- which windows are closed after a change of window w
abbrev gone_after : ℕ → Change → List Bool → List Bool
gone_after w Close bs = slice_set bs w true
gone_after w Show bs = bs
gone_after w Hide bs = bs
gone_after w (MoveTo corner) bs = bs
gone_after w (MoveBy dx dy) bs = bs
gone_after w (ResizeTo width height) bs = bs
gone_after w Activate bs = bs
gone_after w (Behind other) bs = bs
gone_after w (Focus view) bs = bs

abbrev Follow : ℕ → Change → Windows → Result Windows ChangeFault → Type 0
Follow w change s (Ok t) = gone t ≡ gone_after w change (gone s)
Follow w change s (Err f) = Unit {0}

window_kept : (s : Windows) (w : ℕ) (old new : Window) → slice_get s.windows w ≡ Some old → new.closed ≡ old.closed → map (λ (x : Window). x.closed) (slice_set s.windows w new) ≡ gone s
window_kept s w old new read same = map_set (λ (x : Window). x.closed) s.windows w new ∙ set_same (λ (x : Window). x.closed) s.windows w old new.closed read same

framed_follows : (s : Windows) (w : ℕ) (window : Window) (r : Result Rect ChangeFault) (change : Change) → gone_after w change (gone s) ≡ gone s → slice_get s.windows w ≡ Some window → Follow w change s (stack.framed s w window r)
framed_follows s w window (Ok frame) change quiet read = window_kept s w window (record window { frame = frame }) read refl ∙ sym quiet
framed_follows s w window (Err f) change quiet read = tt

behind_follows : (b : Bool) (s t : Windows) (w other : ℕ) → gone t ≡ gone s → gone (if b then s else t) ≡ gone s
behind_follows true s t w other h = refl
behind_follows false s t w other h = h

change_follows : (s : Windows) (w : ℕ) (window : Window) (change : Change) → slice_get s.windows w ≡ Some window → Follow w change s (stack.changed s w window change)
change_follows s w window Show read = window_kept s w window _ read refl
change_follows s w window Hide read = window_kept s w window _ read refl
change_follows s w window (MoveTo corner) read = framed_follows s w window (within_range (moved_rect window.frame (corner.x -ℤ window.frame.left) (corner.y -ℤ window.frame.top))) (MoveTo corner) refl read
change_follows s w window (MoveBy dx dy) read = framed_follows s w window (within_range (moved_rect window.frame dx dy)) (MoveBy dx dy) refl read
change_follows s w window (ResizeTo width height) read = framed_follows s w window (within_range (resized_rect window.frame width height)) (ResizeTo width height) refl read
change_follows s w window Activate read = refl
change_follows s w window (Behind other) read = behind_follows (w == other) s _ w other refl
change_follows s w window (Focus view) read = refl
change_follows s w window Close read = map_set (λ (x : Window). x.closed) s.windows w _

at_follows : (s : Windows) (w : ℕ) (o : Option Window) (change : Change) → slice_get s.windows w ≡ o → Follow w change s (stack.changed_at s w o change)
at_follows s w (Some window) change read = change_follows s w window change read
at_follows s w None change read = tt

unless_gone : (w : ℕ) (change : Change) (s : Windows) (b : Bool) (f : ChangeFault) (r : Result Windows ChangeFault) → Follow w change s r → Follow w change s (if b then Err f else r)
unless_gone w change s true f r h = tt
unless_gone w change s false f r h = h

windows_follow : (s : Windows) (w : ℕ) (change : Change) → Follow w change s (windows_after s w change)
unfolding windows_after
windows_follow s w change = unless_gone w change s (is_gone s.windows w change) _ _ (at_follows s w (slice_get s.windows w) change refl)

abbrev FollowOnDesk : ℕ → Change → Desk → Result Desk ChangeFault → Type 0
FollowOnDesk w change s (Ok t) = gone t.windows ≡ gone_after w change (gone s.windows)
FollowOnDesk w change s (Err f) = Unit {0}

tree_follows : (desk : Desk) (windows : Windows) (w : ℕ) (change : Change) (o : Option Tree) → gone windows ≡ gone_after w change (gone desk.windows) → FollowOnDesk w change desk (with_tree desk windows w o)
tree_follows desk windows w change (Some tree) h = h
tree_follows desk windows w change None h = tt

with_follows : (desk : Desk) (w : ℕ) (windows : Windows) (change : Change) → gone windows ≡ gone_after w change (gone desk.windows) → FollowOnDesk w change desk (desk_with desk w windows change)
with_follows desk w windows (ResizeTo width height) h = tree_follows desk windows w (ResizeTo width height) (option_and_then (λ tree. resized tree width height) (slice_get desk.pointing.trees w)) h
with_follows desk w windows (Focus view) h = h
with_follows desk w windows Show h = h
with_follows desk w windows Hide h = h
with_follows desk w windows (MoveTo corner) h = h
with_follows desk w windows (MoveBy dx dy) h = h
with_follows desk w windows Activate h = h
with_follows desk w windows (Behind other) h = h
with_follows desk w windows Close h = h

unless_follows : (desk : Desk) (w : ℕ) (change : Change) (r : Result Windows ChangeFault) → Follow w change desk.windows r → FollowOnDesk w change desk (desk_unless desk w change r)
unless_follows desk w change (Ok windows) h = with_follows desk w windows change h
unless_follows desk w change (Err f) h = tt

desk_follows : (desk : Desk) (w : ℕ) (change : Change) → FollowOnDesk w change desk (desk_after desk w change)
unfolding desk_after
desk_follows desk w change = unless_follows desk w change (windows_after desk.windows w change) (windows_follow desk.windows w change)

ports_follow : (w : ℕ) (change : Change) (ports : List (Port Message)) → shut (ports_after w change ports) ≡ gone_after w change (shut ports)
ports_follow w Close ports = set_by (λ (p : Port Message). p.closed) ports w closed_port true (slice_get ports w) refl (λ p. refl)
ports_follow w Show ports = refl
ports_follow w Hide ports = refl
ports_follow w (MoveTo corner) ports = refl
ports_follow w (MoveBy dx dy) ports = refl
ports_follow w (ResizeTo width height) ports = refl
ports_follow w Activate ports = refl
ports_follow w (Behind other) ports = refl
ports_follow w (Focus view) ports = refl

changed_by : (s : State) (w : ℕ) (change : Change) (r : Result Desk ChangeFault) → FollowOnDesk w change s.desk r → AreTogether s → AreTogether (changed_to s w change r)
changed_by s w change (Ok desk) follows h = ports_follow w change s.ports ∙ ap (gone_after w change) h ∙ sym follows
changed_by s w change (Err f) follows h = h

changed_together : (s : State) (w : ℕ) (change : Change) → AreTogether s → AreTogether (changed s w change)
unfolding changed
changed_together s w change h = changed_by s w change (desk_after s.desk w change) (desk_follows s.desk w change) h

-- ---- letters

abbrev SamePorts : State → State → Type 0
SamePorts s r = shut r.ports ≡ shut s.ports

if_posted : (b : Bool) (letter : Letter Message) (p : Port Message) → (if b then with_letter letter p else p).closed ≡ p.closed
if_posted true letter p = refl
if_posted false letter p = refl

posted_closed : (letter : Letter Message) (p : Port Message) → (posted letter p).closed ≡ p.closed
unfolding posted
posted_closed letter p = if_posted (is_accepted (judged p letter.hop)) letter p

post_kept : (ports : List (Port Message)) (v : ℕ) (letter : Letter Message) → shut (at ports v (posted letter)) ≡ shut ports
post_kept ports v letter = at_kept (λ (p : Port Message). p.closed) ports v (posted letter) (posted_closed letter)

duty_kept : (f : Duty → Duty) (who : Runner) (s r : State) → SamePorts s r → SamePorts s (with_duty f who r)
duty_kept f (looper v) s r h = h
duty_kept f (app m) s r h = h

told_kept : (message : Message) (o : Option ℕ) (s : State) → SamePorts s (told message o s)
told_kept message (Some m) s = refl
told_kept message None s = refl

waiting_kept : (who : Runner) (s r : State) → SamePorts s r → SamePorts s (with_waiting who r)
waiting_kept (app m) s r h = h
waiting_kept (looper v) s r h = h

claimed_kept : (who : Runner) (s : State) → SamePorts s (claimed s who)
claimed_kept (app m) s = refl
claimed_kept (looper v) s = refl

granted_kept : (s : State) (who : Runner) (x : Wish) → SamePorts s (granted s who x)
unfolding granted
granted_kept s who (wish.Note word) = refl
granted_kept s who (wish.Post v target message) = post_kept s.ports v _
granted_kept s who (wish.Send v target message) = by_test (SamePorts s) (is_accepted_at s v (hop_of s who)) _ _ (waiting_kept who s _ (post_kept s.ports v _)) (post_kept s.ports v _)
granted_kept s who (wish.Forward v target) = by_option (SamePorts s) (forwarded_hand s who v target) s (hand_of s who) refl (λ hand.
    by_test (SamePorts s) (is_accepted_at s v (hop_of s who)) _ _ (duty_kept _ who s _ (post_kept s.ports v _)) (post_kept s.ports v _))
granted_kept s who (wish.Reply message) = duty_kept _ who s _ (told_kept message _ s)
granted_kept s who wish.Claim = claimed_kept who s
granted_kept s who (wish.Lock v) = refl
granted_kept s who wish.Unlock = by_option (SamePorts s) (freed s) s (window_of s who) refl (λ v. refl)
granted_kept s who wish.Flush = by_option (SamePorts s) (flushed s) s (window_of s who) refl (λ v. by_option (SamePorts s) (flushed_into s v) s (slice_get s.buffers v) refl (λ b. refl))
granted_kept s who wish.SyncDone = refl
granted_kept s who (wish.Draw c) = by_option (SamePorts s) (λ v. drawn s v c) s (window_of s who) refl (λ v. refl)

moved_kept : (d : Declared) (who : Runner) (accepted : Bool) (x : Wish) (s r : State) → SamePorts s r → SamePorts s (moved_on d who accepted x r)
unfolding moved_on
moved_kept d (app m) accepted x s r h = h
moved_kept d (looper v) accepted x s r h = h

telling_kept : (t : EndTelling) (s r : State) → SamePorts s r → SamePorts s (told_at_end t r)
telling_kept nobody s r h = h
telling_kept (no_reply m) s r h = h
telling_kept (not_understood m) s r h = h

begun_together : (s : State) (w : ℕ) → AreTogether s → AreTogether (begun s w)
unfolding begun
begun_together s w h = by_test AreTogether (is_any (dirty_of s w)) (option_map_or (opened s w) (corner_at s w) s) (passed_by s w) (by_option AreTogether (opened s w) s (corner_at s w) h (λ corner. h)) h

-- ---- commands and input

effect_together : (pictures : List Picture) (s : State) (w : ℕ) (effect : Effect) → AreTogether s → AreTogether (with_effect pictures s w effect)
effect_together pictures s w (at_view v deed) h = by_option AreTogether (done_at_view pictures s w v deed) s (slice_get s.panes w) h (λ pane. h)
effect_together pictures s w (changes change) h = changed_together s w change h
effect_together pictures s w ends_update h = h

executed_together : (d : Declared) (s : State) (w : ℕ) → AreTogether s → AreTogether (executed d s w)
unfolding executed
executed_together d s w h = by_option AreTogether (executed_command d s w) s (option_and_then (λ link. slice_get link 0) (slice_get s.links w)) h (λ c. effect_together d.pictures (without_command s w) w (effect_of c.command) h)

with_kept : (ports : List (Port Message)) (o : Option Post) → shut (ports_with ports o) ≡ shut ports
with_kept ports (Some post) = post_kept ports post.window (input_letter post)
with_kept ports None = refl

activated_together : (s : State) (o : Option ℕ) → AreTogether s → AreTogether (activated s o)
activated_together s (Some w) h = changed_together s w Activate h
activated_together s None h = h

delivery_together : (s : State) (x : Delivery) → AreTogether s → AreTogether (with_delivery s x)
delivery_together s x h = activated_together _ x.activate (with_kept (ports_with s.ports x.first) x.second ∙ with_kept s.ports x.first ∙ h)

event_together : (s : State) (x : InputLine) → AreTogether s → AreTogether (with_event s x)
event_together s (line.Press p) h = delivery_together s (delivery_of s (event.Press p)) h
event_together s (line.Release p) h = delivery_together s (delivery_of s (event.Release p)) h
event_together s (line.Move p) h = delivery_together s (delivery_of s (event.Move p)) h
event_together s (line.Key key) h = delivery_together s (delivery_of s (event.Key key)) h
event_together s (line.After m) h = h

-- ---- all wants

-- the windows are the same, and so are the closed ports
quietly : (s r : State) → r.desk.windows ≡ s.desk.windows → SamePorts s r → AreTogether s → AreTogether r
quietly s r windows ports h = ports ∙ h ∙ sym (ap gone windows)

want_together : (d : Declared) (s : State) (want : Want) → AreTogether s → AreTogether (met d s want)
unfolding met
want_together d s (asks who x) h = quietly s (met d s (asks who x)) (quiet_shown d s (asks who x) refl).windows (moved_kept d who _ x s _ (granted_kept s who x)) h
want_together d s (takes w) h = quietly s (met d s (takes w)) (quiet_shown d s (takes w) refl).windows
    (by_option (SamePorts s) (with_letter_in_hand d s w) s (option_and_then front (slice_get s.ports w)) refl (λ letter. at_kept (λ (p : Port Message). p.closed) s.ports w without_front (λ p. refl))) h
want_together d s (begins w) h = begun_together s w h
want_together d s (flushes w) h = by_option AreTogether (flushed_into s w) s (slice_get s.buffers w) h (λ b. h)
want_together d s (draws_end w) h = h
want_together d s (ends w) h = quietly s (met d s (ends w)) (quiet_shown d s (ends w) refl).windows (by_option (SamePorts s) (ended_hand s w) s (hand_at s w) refl (λ hand. telling_kept (end_telling hand.duty hand.route) s (freed s w) refl)) h
want_together d s (notifies w) h = at_kept (λ (p : Port Message). p.closed) s.ports w (with_letter (notice w)) (λ p. refl) ∙ h
want_together d s (executes w) h = executed_together d s w h
want_together d s (uses x) h = event_together s x h
want_together d s stops h = h

step_together : (d : Declared) (s : State) (e : Entry) → IsLegal d s e → AreTogether s → AreTogether (step d s e)
step_together d s e legal h =
    let is : IsMet d s e = met_by d s e legal in
    subst AreTogether (sym is.stepped) (want_together d s is.want h)

-- ---- histories

none_shut : (lines : List WindowLine) → map (λ (p : Port Message). p.closed) (map (λ (line : WindowLine). empty_port line.port) lines) ≡ map (λ (w : Window). w.closed) (map opening_window lines)
none_shut [] = refl
none_shut (x ∷ xs) = ap (λ bs. false ∷ bs) (none_shut xs)

opening_together : (d : Declared) → AreTogether (opening_state d)
unfolding opening_state
opening_together d = none_shut d.windows

together_from : (d : Declared) (s : State) (h : List Entry) → AreLegalFrom d s h → AreTogether s → AreTogether (state_from d s h)
unfolding AreLegalFrom state_from
together_from d s [] legal is = is
together_from d s (e ∷ es) legal is = together_from d (step d s e) es legal.1 (step_together d s e legal.0 is)

together_after : (d : Declared) (h : List Entry) → IsLegalHistory d h → AreTogether (state_after d h)
together_after d h legal = together_from d (opening_state d) h legal (opening_together d)

-- the port of a window is closed where the window is
pub closed_alike : (d : Declared) (h : List Entry) (w : ℕ) (p : Port Message) (window : Window) → IsLegalHistory d h → slice_get (state_after d h).ports w ≡ Some p → slice_get (state_after d h).desk.windows.windows w ≡ Some window → p.closed ≡ window.closed
closed_alike d h w p window legal at_port at_window =
    let s : State = state_after d h in
    same_Some p.closed window.closed (sym (get_map (λ (q : Port Message). q.closed) s.ports w p at_port) ∙ ap (λ bs. slice_get bs w) (together_after d h legal) ∙ get_map (λ (x : Window). x.closed) s.desk.windows.windows w window at_window)
