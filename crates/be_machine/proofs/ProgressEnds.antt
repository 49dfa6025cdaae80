-- Where nobody has a legal act, all have come to their ends, and Stop would be legal.
use Rattle.std.proofs.Common.{◌≡◌, ℕ, ◌+◌, ◌<◌, ◌≤◌, true, false, List, [], drop, length, Option, Some, None, refl, sym, ap, ◌∙◌, arith}
use Rattle.std.specs.Prelude.{slice_get, nat_le, not, ◌==◌, ◌&&◌, option_map, option_and_then, if◌then◌else◌}
use Rattle.std.specs.List.{list_all, range_with_len}
use Rattle.std.specs.Option.{option_map_or}
use Rattle.std.proofs.lemmas.Bool.Decides.{nat_tests}
use Rattle.std.proofs.lemmas.Option.{same_Some, slice_get_within}
use Rattle.std.proofs.lemmas.Bool.{and_from}
use Rattle.be_facts.proofs.Numbers.{eq_self, nat_lt_tells}
use Rattle.be_facts.proofs.Lists.{none_past, all_below, all_at}
use Rattle.be_facts.proofs.Truths.{and_first}
use Rattle.be_actor.specs.declared.Instruction.{Instruction}
use Rattle.be_actor.specs.declared.Instruction.TheVariants.{Note, Post, Send, Reply, Forward, Lock, Unlock, Flush, Sync, Draw}
use Rattle.be_actor.specs.Wishes.{wish_at, is_at_end}
use Rattle.be_actor.specs.declared.Wish.TheVariants as wish
use Rattle.be_link.specs.Queues.{Numbered, is_flushed}
use Rattle.be_message.specs.Messages.{Message}
use Rattle.be_port.specs.Ports.{Port, queue_of}
use Rattle.be_reply.specs.Cells as reply
use Rattle.be_script.specs.declared.InputLine.{InputLine}
use Rattle.be_script.specs.declared.InputLine.TheVariants as line
use Rattle.be_script.specs.Limits.{IsWithinLimits, is_event}
use Rattle.be_script.specs.Programs.{is_address, is_free_step, is_rest_of_app}
use Rattle.be_script.specs.Script.{Declared}
use Rattle.be_machine.specs.Activities.{app, runner}
use Rattle.be_machine.specs.Closing.{is_free, all_done, all_quiet, stop_act}
use Rattle.be_machine.specs.declared.Act.TheVariants as act
use Rattle.be_machine.specs.Input.{event_act}
use Rattle.be_machine.specs.Legal.{wish_act, want_act}
use Rattle.be_machine.specs.Looper.{lock_act, claim_act, kind_of_reply}
use Rattle.be_machine.specs.Program.{app_program, buffered, has_ended}
use Rattle.be_machine.specs.State.{State, Looper, free, App}
use Rattle.be_machine.specs.Update.{owes_notice}
use Rattle.be_machine.specs.Wants.{uses, want_of}
use Rattle.be_machine.proofs.ProgressCases.{by_outcome}
use Rattle.be_machine.proofs.Lists.{IsThere, there}
use Rattle.be_machine.proofs.ProgressAfter.{IsSettled}
use Rattle.be_machine.proofs.ProgressCan.{IsQuiet, Can, can_some, can_post, none_is_zero}
use Rattle.be_machine.proofs.ProgressLocks.{HasLock, Follows, StepKeeps, step_keeps}
use Rattle.be_machine.proofs.ProgressPlaces.{all_pass}
use Rattle.be_machine.proofs.ProgressStuck.{NoAct, NobodyActs, IsIdle, app_act}
use Rattle.be_machine.proofs.Waiting.{total, owed_by_port, owed_by_letter, owed_by_looper, owed_in, due_in, due_to, is_busy, claims}
use Rattle.be_machine.proofs.WaitingSums.{total_none}

abbrev pub AllIdle : Declared → State → Type 0
AllIdle d s = (w : ℕ) → w < length d.windows → IsIdle s w

-- ---- nobody waits

port_owes_none : (d : Declared) (s : State) (m : ℕ) → IsSettled d s → AllIdle d s → (w : ℕ) (p : Port Message) → slice_get s.ports w ≡ Some p → owed_by_port m p ≡ 0
port_owes_none d s m h idle w p read =
    let ports : length s.ports ≡ length d.windows = h.parts.ports in
    let inside : w < length s.ports = slice_get_within s.ports w p read in
    let is : IsIdle s w = idle w (omega (arith, inside, ports)) in
    ap (owed_by_port m) (same_Some p is.port (sym read ∙ is.port_read)) ∙ ap (total (owed_by_letter m)) is.port_empty

looper_owes_none : (d : Declared) (s : State) (m : ℕ) → IsSettled d s → AllIdle d s → (w : ℕ) (l : Looper) → slice_get s.loopers w ≡ Some l → owed_by_looper m l ≡ 0
looper_owes_none d s m h idle w l read =
    let loopers : length s.loopers ≡ length d.windows = h.parts.loopers in
    let inside : w < length s.loopers = slice_get_within s.loopers w l read in
    let is : IsIdle s w = idle w (omega (arith, inside, loopers)) in
    ap (owed_by_looper m) (same_Some l free (sym read ∙ is.read))

none_due : (d : Declared) (s : State) (m : ℕ) (a : App) → IsSettled d s → AllIdle d s → slice_get s.apps m ≡ Some a → due_in a.cell ≡ 0
none_due d s m a h idle read =
    let ports : total (owed_by_port m) s.ports ≡ 0 = total_none (owed_by_port m) s.ports (port_owes_none d s m h idle) in
    let hands : total (owed_by_looper m) s.loopers ≡ 0 = total_none (owed_by_looper m) s.loopers (looper_owes_none d s m h idle) in
    let owed : owed_in s.ports s.loopers m ≡ due_to (slice_get s.apps m) = h.waits.owed m in
    let due : due_to (slice_get s.apps m) ≡ due_in a.cell = ap due_to read in
    omega (arith, ports, hands, owed, due)

-- ---- applications

-- where all loopers are free no application has a lock
none_locked : (d : Declared) (s : State) (m : ℕ) (lock : Option ℕ) → IsSettled d s → AllIdle d s → HasLock s.loopers m lock → lock ≡ None
none_locked d s m None h idle has = refl
none_locked d s m (Some w) h idle has =
    let loopers : length s.loopers ≡ length d.windows = h.parts.loopers in
    let inside : w < length s.loopers = has.inside in
    let is : IsIdle s w = idle w (omega (arith, inside, loopers)) in
    let no : false ≡ true = has.alone w free is.read ∙ eq_self w in
    cc

reply_there : (c : reply.Cell) → is_busy c ≡ true → due_in c ≡ 0 → Can (option_map (λ m. act.Claim (kind_of_reply m)) (reply.reply_in c))
reply_there reply.waiting busy due = absurd (omega (arith, due))
reply_there (reply.replied message) busy due = can_some _ _ refl
reply_there reply.idle busy due = cc

can_claim : (s : State) (m : ℕ) (a : App) → slice_get s.apps m ≡ Some a → is_busy a.cell ≡ true → due_in a.cell ≡ 0 → Can (claim_act s (app m))
can_claim s m a read busy due none =
    reply_there a.cell busy due (sym (ap (λ o. option_map (λ m. act.Claim (kind_of_reply m)) (option_and_then reply.reply_in (option_map (λ (x : App). x.cell) o))) read) ∙ none)

can_lock : (s : State) (v : ℕ) → IsIdle s v → Can (option_and_then (lock_act v) (slice_get s.loopers v))
can_lock s v is = can_some _ (act.Lock v) (ap (option_and_then (lock_act v)) is.read)

-- without a lock
free_can : (d : Declared) (s : State) (m : ℕ) (a : App) (i : Instruction) → IsSettled d s → AllIdle d s → slice_get s.apps m ≡ Some a → slice_get (app_program d m) a.place.step ≡ Some i → is_free_step d i ≡ true → Can (wish_act s (app m) (wish_at a.place.part None (buffered s (app m)) i))
unfolding wish_act
free_can d s m a (Note word) h idle read next allowed = can_some _ _ refl
free_can d s m a (Post v target draft) h idle read next allowed = can_post d s v 0 target h.parts (and_first (is_address d v target) _ allowed)
free_can d s m a (Send v target draft) h idle read next allowed =
    by_outcome (λ x. Can (wish_act s (app m) x)) (a.place.part == 0) (wish.Send v target _) wish.Claim
    (λ first. can_post d s v 0 target h.parts (and_first (is_address d v target) _ allowed))
    (λ second. can_claim s m a read (h.waits.busy m a read ∙ ap (λ o. claims o a.place.part) next ∙ ap not second) (none_due d s m a h idle read))
free_can d s m a (Reply draft) h idle read next allowed = cc
free_can d s m a (Forward v target) h idle read next allowed = cc
free_can d s m a (Lock v) h idle read next allowed = can_lock s v (idle v (nat_lt_tells v (length d.windows) allowed))
free_can d s m a Unlock h idle read next allowed = cc
free_can d s m a Flush h idle read next allowed = cc
free_can d s m a Sync h idle read next allowed = cc
free_can d s m a (Draw c) h idle read next allowed = cc

not_below : (n k : ℕ) → n ≤ k → nat_le n k ≡ true
not_below n k h = grind (arith, nat_tests)

ended_by : (d : Declared) (s : State) (m : ℕ) (a : App) (o : Option Instruction) → IsSettled d s → AllIdle d s → NoAct d s (runner (app m)) → slice_get s.apps m ≡ Some a → slice_get (app_program d m) a.place.step ≡ o → is_rest_of_app d None (drop a.place.step (app_program d m)) ≡ true → is_at_end (app_program d m) a.place ≡ true
ended_by d s m a None h idle none read next keeps = not_below (length (app_program d m)) a.place.step (none_past (app_program d m) a.place.step next)
ended_by d s m a (Some i) h idle none read next keeps =
    let step : StepKeeps d None i (drop (a.place.step + 1) (app_program d m)) = step_keeps d None (app_program d m) a.place.step i next keeps in
    absurd (free_can d s m a i h idle read next step.here (sym (app_act d s m a i read next) ∙ none))

app_ended : (d : Declared) (s : State) (m : ℕ) → IsSettled d s → NobodyActs d s → AllIdle d s → m < length d.apps → has_ended d s m ≡ true
app_ended d s m h none idle inside =
    let apps : length s.apps ≡ length d.apps = h.parts.apps in
    let a : IsThere s.apps m = there s.apps m (omega (arith, inside, apps)) in
    let follows : Follows d s.loopers m a.element = h.locks.follows m a.element a.read in
    let lock : follows.lock ≡ None = none_locked d s m follows.lock h idle follows.has in
    let keeps : is_rest_of_app d None (drop a.element.place.step (app_program d m)) ≡ true = ap (λ o. is_rest_of_app d o (drop a.element.place.step (app_program d m))) (sym lock) ∙ follows.keeps in
    ap (λ o. option_map_or (λ (x : App). is_at_end (app_program d m) x.place) o false) a.read
    ∙ ended_by d s m a.element (slice_get (app_program d m) a.element.place.step) h idle (none.apps m inside) a.read refl keeps

-- ---- input

event_can : (d : Declared) (s : State) (x : InputLine) → is_event d x ≡ true → ((m : ℕ) → m < length d.apps → has_ended d s m ≡ true) → Can (event_act d s x)
event_can d s (line.Press p) is ended = can_some _ _ refl
event_can d s (line.Release p) is ended = can_some _ _ refl
event_can d s (line.Move p) is ended = can_some _ _ refl
event_can d s (line.Key key) is ended = can_some _ _ refl
event_can d s (line.After m) is ended = can_some _ (act.Event (s.events + 1) None None) (ap (λ b. if b then Some (act.Event (s.events + 1) None None) else None) (ended m (nat_lt_tells m (length d.apps) is)))

input_by : (d : Declared) (s : State) (o : Option InputLine) → IsWithinLimits d → ((m : ℕ) → m < length d.apps → has_ended d s m ≡ true) → slice_get d.input s.events ≡ o → option_and_then (want_act d s) (option_map uses o) ≡ None → slice_get d.input s.events ≡ None
unfolding want_act
input_by d s (Some x) limits ended read e = absurd (event_can d s x (all_at (is_event d) d.input s.events x limits.input read) ended e)
input_by d s None limits ended read e = read

all_used : (used count : ℕ) → used ≤ count → count ≤ used → (used == count) ≡ true
all_used used count h k = grind (arith, nat_tests)

input_used : (d : Declared) (s : State) → IsWithinLimits d → IsSettled d s → NobodyActs d s → ((m : ℕ) → m < length d.apps → has_ended d s m ≡ true) → (s.events == length d.input) ≡ true
unfolding want_of
input_used d s limits h none ended =
    all_used s.events (length d.input) h.events (none_past d.input s.events (input_by d s (slice_get d.input s.events) limits ended refl none.input))

-- ---- the end

done : (d : Declared) (s : State) → IsWithinLimits d → IsSettled d s → NobodyActs d s → AllIdle d s → all_done d s ≡ true
done d s limits h none idle =
    let apps : length s.apps ≡ length d.apps = h.parts.apps in
    and_from (list_all (has_ended d s) (range_with_len 0 (length s.apps))) (s.events == length d.input)
    (all_below (has_ended d s) (length s.apps) (λ m inside. app_ended d s m h none idle (omega (arith, inside, apps))))
    (input_used d s limits h none (λ m inside. app_ended d s m h none idle inside))

empty_queue : {X : Type 0} (xs : List X) → xs ≡ [] → (length xs == 0) ≡ true
empty_queue xs e = ap (λ ys. length ys == 0) e

quiet : (d : Declared) (s : State) → IsSettled d s → AllIdle d s → ((w : ℕ) → w < length d.windows → IsQuiet s w) → all_quiet s ≡ true
quiet d s h idle still =
    let n_loopers : length s.loopers ≡ length d.windows = h.parts.loopers in
    let n_ports : length s.ports ≡ length d.windows = h.parts.ports in
    let n_buffers : length s.buffers ≡ length d.windows = h.parts.buffers in
    let n_links : length s.links ≡ length d.windows = h.parts.links in
    let n_panes : length s.panes ≡ length d.windows = h.parts.panes in
    let loopers : list_all is_free s.loopers ≡ true = all_pass is_free s.loopers (λ w l read.
    let inside : w < length s.loopers = slice_get_within s.loopers w l read in
    ap is_free (same_Some l free (sym read ∙ (idle w (omega (arith, inside, n_loopers))).read))) in
    let ports : list_all (λ p. length (queue_of p) == 0) s.ports ≡ true = all_pass (λ (p : Port Message). length (queue_of p) == 0) s.ports (λ w p read.
    let inside : w < length s.ports = slice_get_within s.ports w p read in
    let is : IsIdle s w = idle w (omega (arith, inside, n_ports)) in
    empty_queue (queue_of p) (ap (λ (q : Port Message). queue_of q) (same_Some p is.port (sym read ∙ is.port_read)) ∙ is.port_empty)) in
    let buffers : list_all is_flushed s.buffers ≡ true = all_pass is_flushed s.buffers (λ w b read.
    let inside : w < length s.buffers = slice_get_within s.buffers w b read in
    let is : IsIdle s w = idle w (omega (arith, inside, n_buffers)) in
    ap is_flushed (same_Some b is.buffer (sym read ∙ is.buffer_read)) ∙ none_is_zero (length is.buffer.commands) is.buffer_empty) in
    let links : list_all (λ link. length link == 0) s.links ≡ true = all_pass (λ (link : List Numbered). length link == 0) s.links (λ w link read.
    let inside : w < length s.links = slice_get_within s.links w link read in
    let is : IsQuiet s w = still w (omega (arith, inside, n_links)) in
    ap (λ (x : List Numbered). length x == 0) (same_Some link is.link (sym read ∙ is.read)) ∙ none_is_zero (length is.link) is.empty) in
    let owed : list_all (λ w. not (owes_notice s w)) (range_with_len 0 (length s.panes)) ≡ true = all_below (λ w. not (owes_notice s w)) (length s.panes) (λ w inside. ap not (still w (omega (arith, inside, n_panes))).owed) in
    and_from _ _ (and_from _ _ (and_from _ _ (and_from (list_all is_free s.loopers) (list_all (λ p. length (queue_of p) == 0) s.ports) loopers ports) buffers) links) owed

can_stop : (d : Declared) (s : State) → s.stopped ≡ false → all_done d s ≡ true → all_quiet s ≡ true → stop_act d s ≡ Some act.Stop
can_stop d s running done quiet = ap (λ b. if b then Some act.Stop else None) (and_from (not s.stopped && all_done d s) (all_quiet s) (and_from (not s.stopped) (all_done d s) (ap not running) done) quiet)

-- in a settled state that hasn't stopped somebody has a legal act
pub not_stuck : (d : Declared) (s : State) → IsWithinLimits d → IsSettled d s → NobodyActs d s → ((w : ℕ) → w < length d.windows → IsQuiet s w) → AllIdle d s → s.stopped ≡ false → ⊥
unfolding want_of want_act
not_stuck d s limits h none still idle running =
    can_some (stop_act d s) act.Stop (can_stop d s running (done d s limits h none idle) (quiet d s h idle still)) none.closing
