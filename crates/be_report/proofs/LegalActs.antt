-- What is legal in a state whose counts are small can be written down.
use Rattle.std.proofs.Common.{◌≡◌, ℕ, ◌+◌, ◌^◌, ◌<◌, ◌≤◌, Bool, true, false, not, ◌&&◌, List, [], ◌∷◌, ◌++◌, length, drop, Option, Some, None, refl, sym, ap, subst, ◌∙◌, arith, length-drop}
use Rattle.std.specs.Prelude.{slice_get, option_map, option_and_then, option_to_list, ◌==◌, nat_le, if◌then◌else◌}
use Rattle.std.proofs.lemmas.Bool.{leb-true}
use Rattle.std.proofs.lemmas.List.Sums.{length-filter, count_by-le-length}
use Rattle.std.proofs.lemmas.Option.{same_Some, slice_get_within}
use Rattle.be_actor.specs.declared.Wish.{Wish}
use Rattle.be_actor.specs.declared.Wish.TheVariants as wish
use Rattle.be_command.specs.Effects.{effect_of}
use Rattle.be_geom.specs.declared.point.Point.{Point}
use Rattle.be_geom.specs.Places.{less}
use Rattle.be_input.specs.declared.Event.TheVariants as event
use Rattle.be_input.specs.Deliveries.{Post, Delivery, transit_message, place_in, mouse_post, is_same, delivered}
use Rattle.be_input.specs.Pointing.{corner_of, under_pointer}
use Rattle.be_link.specs.Queues.{Buffer, Numbered, is_full, fits}
use Rattle.be_looper.specs.Duties.{Hand, reply_answer, ReplyAnswer, reaches, is_second, is_unwanted, EndTelling, nobody, no_reply, not_understood, end_telling}
use Rattle.be_message.specs.Messages.{Message}
use Rattle.be_message.specs.declared.target.Target.TheVariants as target
use Rattle.be_pane.specs.Panes.{Pane}
use Rattle.be_port.specs.declared.Posted.{Posted}
use Rattle.be_port.specs.declared.Posted.TheVariants.{Accepted, WouldBlock, BadPort, TooDeep}
use Rattle.be_port.specs.Ports.{Letter, Port, judged, counted, front, posted}
use Rattle.be_script.specs.declared.InputLine.{InputLine}
use Rattle.be_script.specs.declared.InputLine.TheVariants as line
use Rattle.be_script.specs.Script.{Declared}
use Rattle.be_stack.specs.Windows.{Windows}
use Rattle.be_stack.specs.declared.window.Window.{Window}
use Rattle.be_update.specs.Sessions.{is_any}
use Rattle.be_views.specs.Trees.{Tree, left_top}
use Rattle.be_machine.specs.Activities.{Runner, app, looper}
use Rattle.be_machine.specs.Closing.{all_done, all_quiet}
use Rattle.be_machine.specs.Commands.{draw_act, flush_act, sync_act, exec_act, effect_outcome}
use Rattle.be_machine.specs.declared.Act.{Act}
use Rattle.be_machine.specs.declared.Act.TheVariants as act
use Rattle.be_machine.specs.Input.{input_letter, ports_with, outcome_in, delivery_act, delivery_of, event_act}
use Rattle.be_machine.specs.Legal.{in_own, wish_act, want_act}
use Rattle.be_machine.specs.Lists.{with_both}
use Rattle.be_machine.specs.Looper.{lock_act, kind_of_reply, reply_for, claim_act, answer_of, reply_act, end_of, end_act}
use Rattle.be_machine.specs.Orderly.{Tally}
use Rattle.be_machine.specs.Port.{post_act, take_act, notify_act}
use Rattle.be_machine.specs.Program.{window_of, hand_at, hand_of, hop_of, has_ended}
use Rattle.be_machine.specs.State.{State, Looper, free, locked, handling}
use Rattle.be_machine.specs.Update.{begin_act}
use Rattle.be_machine.specs.Windows.{dirty_of}
use Rattle.be_machine.specs.Wants.{Want, asks, takes, begins, flushes, draws_end, ends, notifies, executes, uses, stops}
use Rattle.be_machine.proofs.Found.{mapped, chained, joined, tested, untested, locked_there}
use Rattle.be_machine.proofs.HasParts.{HasParts}
use Rattle.be_machine.proofs.Lists.{AtPlace, there}
use Rattle.be_machine.proofs.NumbersGrow.{Holds, Made, ports_change, ports_stay}
use Rattle.be_machine.proofs.Tallied.{AreNumbered, IsTallied}
use Rattle.be_machine.proofs.WorkDeliveries.{press_one, release_one, key_one, option_alone}
use Rattle.be_machine.proofs.NumbersSteps.{length_ports_with, posted_more}
use Rattle.be_report.specs.Possible.{IsWindow, IsAnswer, IsPost, AreDeliveries, IsActOf}
use Rattle.be_report.proofs.NotedWords.{is_noted}

-- the parts of the script are there, and the counts are at most n
pub record IsSmall (d : Declared) (n : ℕ) (s : State) : Type 0 where
  pub parts : HasParts d s
  pub letters : (w : ℕ) → AtPlace (Holds n) s.ports w
  pub made : (w : ℕ) → AtPlace (Made n) s.buffers w
  pub used : s.events ≤ n
  pub tallies : (w : ℕ) → (t : Tally) × IsTallied s w t

-- ---- windows

of_list : {X : Type 0} (d : Declared) (xs : List X) (w : ℕ) (x : X) → length xs ≡ length d.windows → slice_get xs w ≡ Some x → IsWindow d w
of_list d xs w x same read = let within = slice_get_within xs w x read in omega arith

-- ---- what a post is answered

counted_few : (p : Port Message) → counted p ≤ length p.arrived
counted_few p =
    let waiting = drop p.taken p.arrived in
    let some = length-filter (λ (letter : Letter Message). not letter.notice) waiting in
    let few = count_by-le-length (λ (letter : Letter Message). not letter.notice) waiting in
    let fewer = length-drop p.taken p.arrived in
    omega arith

answer_by : (closed deep full : Bool) (count m : ℕ) → count < 2 ^ 32 → m < 2 ^ 64 → IsAnswer (if closed then BadPort else if deep then TooDeep else if full then WouldBlock count else Accepted m)
answer_by true deep full count m few small = tt
answer_by false true full count m few small = tt
answer_by false false true count m few small = few
answer_by false false false count m few small = small

answer_fits : (n : ℕ) (p : Port Message) (hop : ℕ) → n < 2 ^ 31 → length p.arrived ≤ n → IsAnswer (judged p hop)
unfolding judged
answer_fits n p hop few held =
    let waiting = counted_few p in
    answer_by p.closed (nat_le 8 hop) (nat_le p.capacity (counted p)) (counted p) (length p.arrived + 1) (omega arith) (omega arith)

-- ---- letters

post_fits : (d : Declared) (n : ℕ) (s : State) (w hop : ℕ) (a : Act) → n < 2 ^ 31 → IsSmall d n s → post_act s w hop ≡ Some a → IsActOf d a
unfolding IsActOf
post_fits d n s w hop a few h e =
    let m = mapped (λ (p : Port Message). act.Post w (judged p hop)) (slice_get s.ports w) a e in
    subst (IsActOf d) m.is (of_list d s.ports w m.from h.parts.ports m.read, answer_fits n m.from hop few (h.letters w m.from m.read))

taken_fits : (d : Declared) (n : ℕ) (l : Looper) (p : Port Message) (a : Act) → n < 2 ^ 31 → length p.arrived ≤ n → take_act l p ≡ Some a → IsActOf d a
unfolding IsActOf
taken_fits d n free p a few held e =
    let m = mapped (λ (letter : Letter Message). act.Take (p.taken + 1)) (front p) a e in
    let within = slice_get_within p.arrived p.taken m.from m.read in
    let small : p.taken + 1 < 2 ^ 64 = omega arith in
    subst (IsActOf d) m.is small
taken_fits d n (locked m) p a few held e = cc
taken_fits d n (handling hand stage) p a few held e = cc

takes_fits : (d : Declared) (n : ℕ) (s : State) (w : ℕ) (a : Act) → n < 2 ^ 31 → IsSmall d n s → with_both take_act (slice_get s.loopers w) (slice_get s.ports w) ≡ Some a → IsActOf d a
takes_fits d n s w a few h e =
    let j = joined take_act (slice_get s.loopers w) (slice_get s.ports w) a e in
    taken_fits d n j.first j.second a few (h.letters w j.second j.read_second) j.is

notify_fits : (d : Declared) (n : ℕ) (s : State) (w : ℕ) (a : Act) → n < 2 ^ 31 → IsSmall d n s → notify_act s w ≡ Some a → IsActOf d a
unfolding IsActOf
notify_fits d n s w a few h e =
    let m = mapped (λ (p : Port Message). act.Notify (length p.arrived + 1)) (slice_get s.ports w) a e in
    let held = h.letters w m.from m.read in
    let small : length m.from.arrived + 1 < 2 ^ 64 = omega arith in
    subst (IsActOf d) m.is small

-- ---- commands

draw_fits : (d : Declared) (n : ℕ) (s : State) (w : ℕ) (a : Act) → n < 2 ^ 31 → IsSmall d n s → draw_act s w ≡ Some a → IsActOf d a
unfolding IsActOf
draw_fits d n s w a few h e =
    let c = chained (λ (b : Buffer). if is_full b then None else Some (act.Draw w (b.made + 1))) (slice_get s.buffers w) a e in
    let t = untested (is_full c.from) (act.Draw w (c.from.made + 1)) a c.is in
    let made = h.made w c.from c.read in
    let small : c.from.made + 1 < 2 ^ 64 = omega arith in
    subst (IsActOf d) t.1 (of_list d s.buffers w c.from h.parts.buffers c.read, small)

flush_fits : (d : Declared) (n : ℕ) (s : State) (w : ℕ) (a : Act) → IsSmall d n s → flush_act s w ≡ Some a → IsActOf d a
unfolding IsActOf
flush_fits d n s w a h e =
    let j = joined (λ (b : Buffer) (link : List Numbered). if fits b link then Some (act.Flush w (length b.commands)) else None) (slice_get s.buffers w) (slice_get s.links w) a e in
    let t = tested (fits j.first j.second) (act.Flush w (length j.first.commands)) a j.is in
    let room = leb-true (length j.first.commands + length j.second) 256 t.passes in
    let small : length j.first.commands < 2 ^ 32 = omega arith in
    subst (IsActOf d) t.is (of_list d s.buffers w j.first h.parts.buffers j.read_first, small)

sync_fits : (d : Declared) (n : ℕ) (s : State) (w : ℕ) (a : Act) → IsSmall d n s → sync_act s w ≡ Some a → IsActOf d a
unfolding IsActOf
sync_fits d n s w a h e =
    let c = chained (λ (link : List Numbered). if length link == 0 then Some (act.SyncDone w) else None) (slice_get s.links w) a e in
    let t = tested (length c.from == 0) (act.SyncDone w) a c.is in
    subst (IsActOf d) t.is (of_list d s.links w c.from h.parts.links c.read)

first_number : (n : ℕ) (link : List Numbered) (c : Numbered) → AreNumbered n link → slice_get link 0 ≡ Some c → (c.number ≡ n + 1) × (1 ≤ length link)
first_number n [] c numbers e = cc
first_number n (x ∷ link) c numbers e = (ap (λ (y : Numbered). y.number) (sym (same_Some x c e)) ∙ numbers.0, omega arith)

exec_fits : (d : Declared) (n : ℕ) (s : State) (w : ℕ) (a : Act) → n < 2 ^ 31 → IsSmall d n s → exec_act d s w ≡ Some a → IsActOf d a
unfolding IsActOf
exec_fits d n s w a few h e =
    let j = joined (λ (pane : Pane) (c : Numbered). Some (act.Exec c.number (effect_outcome d.pictures s w (effect_of c.command) pane))) (slice_get s.panes w) (option_and_then (λ (link : List Numbered). slice_get link 0) (slice_get s.links w)) a e in
    let c = chained (λ (link : List Numbered). slice_get link 0) (slice_get s.links w) j.second j.read_second in
    let t = h.tallies w in
    let of_link = t.1.link c.from c.read in
    let number = first_number t.0.executed_count c.from j.second of_link.numbers c.is in
    let within = slice_get_within s.links w c.from c.read in
    let links = h.parts.links in
    let buffers = h.parts.buffers in
    let inside : w < length s.buffers = omega arith in
    let b = there s.buffers w inside in
    let of_buffer = t.1.buffer b.element b.read in
    let made = h.made w b.element b.read in
    let waiting = of_link.waiting in
    let drawn = of_buffer.made in
    let flushed = of_buffer.waiting in
    let first = number.0 in
    let some = number.1 in
    let small : j.second.number < 2 ^ 64 = omega arith in
    subst (IsActOf d) (same_Some (act.Exec j.second.number (effect_outcome d.pictures s w (effect_of j.second.command) j.first)) a j.is) small

-- ---- loopers

begin_fits : (d : Declared) (s : State) (w : ℕ) (a : Act) → begin_act s w ≡ Some a → IsActOf d a
unfolding IsActOf
begin_fits d s w a e =
    let c = chained (λ (link : List Numbered). if length link == 0 then Some (act.Begin (is_any (dirty_of s w))) else None) (slice_get s.links w) a e in
    let t = tested (length c.from == 0) (act.Begin (is_any (dirty_of s w))) a c.is in
    subst (IsActOf d) t.is tt

ending_fits : (d : Declared) (telling : EndTelling) → IsActOf d (end_of telling)
unfolding IsActOf
ending_fits d nobody = tt
ending_fits d (no_reply m) = tt
ending_fits d (not_understood m) = tt

end_fits : (d : Declared) (s : State) (w : ℕ) (a : Act) → option_map end_act (hand_at s w) ≡ Some a → IsActOf d a
end_fits d s w a e =
    let m = mapped end_act (hand_at s w) a e in
    subst (IsActOf d) m.is (ending_fits d (end_telling m.from.duty m.from.route))

answering_fits : (d : Declared) (answer : ReplyAnswer) → IsActOf d (answer_of answer)
unfolding IsActOf
answering_fits d (reaches m) = tt
answering_fits d is_second = tt
answering_fits d is_unwanted = tt

reply_fits : (d : Declared) (s : State) (who : Runner) (a : Act) → reply_act s who ≡ Some a → IsActOf d a
reply_fits d s who a e =
    let m = mapped (λ (hand : Hand Message). answer_of (reply_answer hand.duty)) (hand_of s who) a e in
    subst (IsActOf d) m.is (answering_fits d (reply_answer m.from.duty))

claim_fits : (d : Declared) (s : State) (who : Runner) (a : Act) → claim_act s who ≡ Some a → IsActOf d a
unfolding IsActOf
claim_fits d s who a e =
    let m = mapped (λ (x : Message). act.Claim (kind_of_reply x)) (reply_for s who) a e in
    subst (IsActOf d) m.is tt

locking_fits : (d : Declared) (w : ℕ) (l : Looper) (a : Act) → IsWindow d w → lock_act w l ≡ Some a → IsActOf d a
unfolding IsActOf
locking_fits d w free a lt e = subst (IsActOf d) (same_Some (act.Lock w) a e) lt
locking_fits d w (locked m) a lt e = cc
locking_fits d w (handling hand stage) a lt e = cc

lock_fits : (d : Declared) (n : ℕ) (s : State) (w : ℕ) (a : Act) → IsSmall d n s → option_and_then (lock_act w) (slice_get s.loopers w) ≡ Some a → IsActOf d a
lock_fits d n s w a h e =
    let c = chained (lock_act w) (slice_get s.loopers w) a e in
    locking_fits d w c.from a (of_list d s.loopers w c.from h.parts.loopers c.read) c.is

-- a runner that there is
abbrev pub IsRunner : Declared → Runner → Type 0
IsRunner d (app m) = m < length d.apps
IsRunner d (looper w) = IsWindow d w

own_window : (d : Declared) (n : ℕ) (s : State) (who : Runner) (w : ℕ) → IsSmall d n s → IsRunner d who → window_of s who ≡ Some w → IsWindow d w
own_window d n s (app m) w h there e = of_list d s.loopers w (locked m) h.parts.loopers (locked_there s m w e)
own_window d n s (looper v) w h there e = subst (IsWindow d) (same_Some v w e) there

unlock_fits : (d : Declared) (n : ℕ) (s : State) (who : Runner) (a : Act) → IsSmall d n s → IsRunner d who → in_own s who (λ w. Some (act.Unlock w)) ≡ Some a → IsActOf d a
unfolding IsActOf
unlock_fits d n s who a h there e =
    let c = chained (λ (w : ℕ). Some (act.Unlock w)) (window_of s who) a e in
    subst (IsActOf d) (same_Some (act.Unlock c.from) a c.is) (own_window d n s who c.from h there c.read)

-- ---- input

holds_more : (n : ℕ) (ports : List (Port Message)) (o : Option Post) (w : ℕ) → ((v : ℕ) → AtPlace (Holds n) ports v) → AtPlace (Holds (n + 1)) (ports_with ports o) w
holds_more n ports (Some post) w h = ports_change ports post.window (posted (input_letter post)) 1 (posted_more (input_letter post)) w n (n + 1) (omega arith) (h w)
holds_more n ports None w h = ports_stay ports w n (n + 1) (omega arith) (h w)

outcome_fits : (d : Declared) (n : ℕ) (ports : List (Port Message)) (o : Option Post) (x : ℕ × Posted) → n < 2 ^ 31 → length ports ≡ length d.windows → ((w : ℕ) → AtPlace (Holds n) ports w) → option_and_then (outcome_in ports) o ≡ Some x → IsPost d x
outcome_fits d n ports o x few same held e =
    let c = chained (outcome_in ports) o x e in
    let m = mapped (λ (p : Port Message). (c.from.window, judged p 0)) (slice_get ports c.from.window) x c.is in
    subst (IsPost d) m.is (of_list d ports c.from.window m.from same m.read, answer_fits n m.from 0 few (held c.from.window m.from m.read))

fit_by : (d : Declared) (first second : Option (ℕ × Posted)) → ((x : ℕ × Posted) → first ≡ Some x → IsPost d x) → ((x : ℕ × Posted) → second ≡ Some x → IsPost d x) → (first ≡ None → second ≡ None) → AreDeliveries d first second
fit_by d (Some x) (Some y) f g sole = (f x refl, g y refl)
fit_by d (Some x) None f g sole = f x refl
fit_by d None None f g sole = tt
fit_by d None (Some y) f g sole = let none = sole refl in absurd (cc)

-- where the first of two deliveries is missing, so is the second
abbrev IsSole : State → Delivery → Type 0
IsSole s x = option_and_then (outcome_in s.ports) x.first ≡ None → x.second ≡ None

delivery_fits : (d : Declared) (n : ℕ) (s : State) (x : Delivery) → n + 1 < 2 ^ 31 → IsSmall d n s → IsSole s x → IsActOf d (delivery_act s x)
unfolding IsActOf
delivery_fits d n s x few h sole =
    let used = h.used in
    let second = ports_with s.ports x.first in
    let count : s.events + 1 < 2 ^ 64 = omega arith in (
      count,
      fit_by d (option_and_then (outcome_in s.ports) x.first) (option_and_then (outcome_in second) x.second)
          (λ y e. outcome_fits d n s.ports x.first y (omega arith) h.parts.ports h.letters e)
          (λ y e. outcome_fits d (n + 1) second x.second y few (length_ports_with s.ports x.first ∙ h.parts.ports) (λ w. holds_more n s.ports x.first w h.letters) e)
          (λ none. ap (option_and_then (outcome_in second)) (sole none)),
    )

-- a message to a view about a pixel
abbrev post_at : (Point → Message) → Point → ℕ × ℕ → Point → Point → Post
post_at message p at corner place = record { window = at.0; target = target.View at.1; message = message (less (less p corner) place) }

-- the window of a post of the mouse is there
mouse_window : (windows : Windows) (trees : List Tree) (message : Point → Message) (p : Point) (under : Option (ℕ × ℕ)) (post : Post) → option_and_then (mouse_post windows trees message p) under ≡ Some post → post.window < length windows.windows
mouse_window windows trees message p under post e =
    let at = chained (mouse_post windows trees message p) under post e in
    let cornered = chained (λ (corner : Point). option_map (post_at message p at.from corner) (place_in trees at.from)) (corner_of windows at.from.0) post at.is in
    let placed = mapped (post_at message p at.from cornered.from) (place_in trees at.from) post cornered.is in
    let window = mapped (λ (x : Window). left_top x.frame) (slice_get windows.windows at.from.0) cornered.from cornered.read in
    let within = slice_get_within windows.windows at.from.0 window.from window.read in
    let same : at.from.0 ≡ post.window = ap (λ (x : Post). x.window) placed.is in
    omega arith

no_some : {A X : Type 0} (a : A) → Some a ≡ None → X
no_some a e = (cc)

two_posts : (s : State) (old new : Option Post) → ((post : Post) → old ≡ Some post → post.window < length s.ports)
    → option_and_then (outcome_in s.ports) (slice_get (option_to_list old ++ option_to_list new) 0) ≡ None → slice_get (option_to_list old ++ option_to_list new) 1 ≡ None
two_posts s (Some post) new within none =
    let port = there s.ports post.window (within post refl) in
    let some = ap (option_map (λ (p : Port Message). (post.window, judged p 0))) port.read in
    no_some (post.window, judged port.element 0) (sym some ∙ none)
two_posts s None new within none = option_alone new

move_sole : (s : State) (same : Bool) (inside old new : Option Post) → ((post : Post) → old ≡ Some post → post.window < length s.ports)
    → option_and_then (outcome_in s.ports) (slice_get (if same then option_to_list inside else option_to_list old ++ option_to_list new) 0) ≡ None
    → slice_get (if same then option_to_list inside else option_to_list old ++ option_to_list new) 1 ≡ None
move_sole s true inside old new within none = option_alone inside
move_sole s false inside old new within none = two_posts s old new within none

moved_sole : (d : Declared) (n : ℕ) (s : State) (p : Point) → IsSmall d n s → IsSole s (delivery_of s (event.Move p))
unfolding delivered
moved_sole d n s p h none =
    let windows = s.desk.windows in
    let trees = s.desk.pointing.trees in
    let old = s.desk.pointing.under in
    let under = under_pointer windows trees p in
    let there = λ (post : Post) (e : option_and_then (mouse_post windows trees (transit_message 2) p) old ≡ Some post). mouse_window windows trees (transit_message 2) p old post e in
    move_sole s (is_same old under) (option_and_then (mouse_post windows trees (transit_message 1) p) under) (option_and_then (mouse_post windows trees (transit_message 2) p) old) (option_and_then (mouse_post windows trees (transit_message 0) p) under)
    (λ post e. let within = there post e in let ports = h.parts.ports in let all = h.parts.windows in omega arith) none

event_fits : (d : Declared) (n : ℕ) (s : State) (x : InputLine) (a : Act) → n + 1 < 2 ^ 31 → IsSmall d n s → event_act d s x ≡ Some a → IsActOf d a
unfolding IsActOf
event_fits d n s (line.Press p) a few h e =
    let x = delivery_of s (event.Press p) in
    subst (IsActOf d) (same_Some (delivery_act s x) a e) (delivery_fits d n s x few h (λ none. (press_one s.desk.windows s.desk.pointing p).alone))
event_fits d n s (line.Release p) a few h e =
    let x = delivery_of s (event.Release p) in
    subst (IsActOf d) (same_Some (delivery_act s x) a e) (delivery_fits d n s x few h (λ none. (release_one s.desk.windows s.desk.pointing p).alone))
event_fits d n s (line.Move p) a few h e =
    let x = delivery_of s (event.Move p) in
    subst (IsActOf d) (same_Some (delivery_act s x) a e) (delivery_fits d n s x few h (moved_sole d n s p h))
event_fits d n s (line.Key key) a few h e =
    let x = delivery_of s (event.Key key) in
    subst (IsActOf d) (same_Some (delivery_act s x) a e) (delivery_fits d n s x few h (λ none. (key_one s.desk.windows s.desk.pointing key).alone))
event_fits d n s (line.After m) a few h e =
    let t = tested (has_ended d s m) (act.Event (s.events + 1) None None) a e in
    let used = h.used in
    let count : s.events + 1 < 2 ^ 64 = omega arith in
    subst (IsActOf d) t.is (count, tt)

-- ---- all of them

wish_fits : (d : Declared) (n : ℕ) (s : State) (who : Runner) (x : Wish) (a : Act) → n + 1 < 2 ^ 31 → IsSmall d n s → IsRunner d who → is_noted x ≡ true → wish_act s who x ≡ Some a → IsActOf d a
unfolding wish_act IsActOf
wish_fits d n s who (wish.Note word) a few h there noted e = subst (IsActOf d) (same_Some (act.Note word) a e) noted
wish_fits d n s who (wish.Post w target message) a few h there noted e = post_fits d n s w (hop_of s who) a (omega arith) h e
wish_fits d n s who (wish.Send w target message) a few h there noted e = post_fits d n s w (hop_of s who) a (omega arith) h e
wish_fits d n s who (wish.Forward w target) a few h there noted e = post_fits d n s w (hop_of s who) a (omega arith) h e
wish_fits d n s who (wish.Reply message) a few h there noted e = reply_fits d s who a e
wish_fits d n s who wish.Claim a few h there noted e = claim_fits d s who a e
wish_fits d n s who (wish.Lock w) a few h there noted e = lock_fits d n s w a h e
wish_fits d n s who wish.Unlock a few h there noted e = unlock_fits d n s who a h there e
wish_fits d n s who wish.Flush a few h there noted e =
    let c = chained (flush_act s) (window_of s who) a e in
    flush_fits d n s c.from a h c.is
wish_fits d n s who wish.SyncDone a few h there noted e =
    let c = chained (sync_act s) (window_of s who) a e in
    sync_fits d n s c.from a h c.is
wish_fits d n s who (wish.Draw command) a few h there noted e =
    let c = chained (draw_act s) (window_of s who) a e in
    draw_fits d n s c.from a (omega arith) h c.is

-- what is asked for is asked by a runner that there is, and a note has a word that it may have
abbrev pub IsAsked : Declared → Want → Type 0
IsAsked d (asks who x) = IsRunner d who × (is_noted x ≡ true)
IsAsked d (takes w) = Unit {0}
IsAsked d (begins w) = Unit {0}
IsAsked d (flushes w) = Unit {0}
IsAsked d (draws_end w) = Unit {0}
IsAsked d (ends w) = Unit {0}
IsAsked d (notifies w) = Unit {0}
IsAsked d (executes w) = Unit {0}
IsAsked d (uses x) = Unit {0}
IsAsked d stops = Unit {0}

pub want_fits : (d : Declared) (n : ℕ) (s : State) (want : Want) (a : Act) → n + 1 < 2 ^ 31 → IsSmall d n s → IsAsked d want → want_act d s want ≡ Some a → IsActOf d a
unfolding want_act IsActOf
want_fits d n s (asks who x) a few h asked e = wish_fits d n s who x a few h asked.0 asked.1 e
want_fits d n s (takes w) a few h asked e = takes_fits d n s w a (omega arith) h e
want_fits d n s (begins w) a few h asked e = begin_fits d s w a e
want_fits d n s (flushes w) a few h asked e = flush_fits d n s w a h e
want_fits d n s (draws_end w) a few h asked e = draw_fits d n s w a (omega arith) h e
want_fits d n s (ends w) a few h asked e = end_fits d s w a e
want_fits d n s (notifies w) a few h asked e = notify_fits d n s w a (omega arith) h e
want_fits d n s (executes w) a few h asked e = exec_fits d n s w a (omega arith) h e
want_fits d n s (uses x) a few h asked e = event_fits d n s x a few h e
want_fits d n s stops a few h asked e =
    let t = tested (not s.stopped && all_done d s && all_quiet s) act.Stop a e in
    subst (IsActOf d) t.is tt
