-- Where all has come to rest, and the machine has stopped, nobody has a legal act.
use Rattle.std.proofs.Common.{◌≡◌, ℕ, zero, suc, ◌+◌, ◌<◌, Bool, true, false, List, [], ◌∷◌, drop, length, Option, Some, None, refl, sym, ap, ◌∙◌, arith}
use Rattle.std.specs.Prelude.{slice_get, not, ◌==◌, ◌&&◌, option_map, option_and_then, if◌then◌else◌}
use Rattle.std.specs.List.{list_all, range_with_len}
use Rattle.std.specs.Option.{option_map_or}
use Rattle.std.proofs.lemmas.Option.{slice_get_within, slice_get_past}
use Rattle.be_facts.proofs.Truths.{not_true, and_first, and_second}
use Rattle.be_facts.proofs.Numbers.{nat_le_tells, eq_tells}
use Rattle.be_facts.proofs.Lists.{all_at}
use Rattle.be_actor.specs.Wishes.{wish_at, wish_of, is_at_end}
use Rattle.be_command.specs.Effects.{effect_of}
use Rattle.be_link.specs.Queues.{Numbered, is_flushed}
use Rattle.be_message.specs.Messages.{Message}
use Rattle.be_pane.specs.Panes.{Pane}
use Rattle.be_port.specs.Ports.{Port, queue_of}
use Rattle.be_script.specs.Script.{Declared}
use Rattle.be_stack.specs.declared.window.Window.{Window}
use Rattle.be_machine.specs.Activities.{app, looper, Activity, runner, twin, input, closing, activity_of}
use Rattle.be_machine.specs.Closing.{is_free, all_done, all_quiet}
use Rattle.be_machine.specs.Commands.{effect_outcome, exec_act}
use Rattle.be_machine.specs.declared.Act.TheVariants as act
use Rattle.be_machine.specs.Legal.{want_act, legal_act}
use Rattle.be_machine.specs.Lists.{with_both}
use Rattle.be_machine.specs.Port.{take_act}
use Rattle.be_machine.specs.Program.{app_program, app_wish, buffered, has_ended}
use Rattle.be_machine.specs.State.{State, Looper, free, locked, handling, App}
use Rattle.be_machine.specs.Update.{owes, owes_notice}
use Rattle.be_machine.specs.Wants.{asks, notifies, executes, uses, looper_want, want_of}
use Rattle.be_machine.proofs.ProgressStuck.{NoAct}

-- ---- tests of all numbers below one

passes_from : (p : ℕ → Bool) (k n j : ℕ) → list_all p (range_with_len k n) ≡ true → j < n → p (k + j) ≡ true
passes_from p k zero j all inside = absurd (omega arith)
passes_from p k (suc n) zero all inside = let same : k + 0 ≡ k = omega arith in ap p same ∙ and_first (p k) _ all
passes_from p k (suc n) (suc j) all inside = let same : k + suc j ≡ k + 1 + j = omega arith in ap p same ∙ passes_from p (k + 1) n j (and_second (p k) _ all) (omega arith)

passes_below : (p : ℕ → Bool) (n j : ℕ) → list_all p (range_with_len 0 n) ≡ true → j < n → p j ≡ true
passes_below p n j all inside = let same : j ≡ 0 + j = omega arith in ap p same ∙ passes_from p 0 n j all inside

-- ---- rest

-- nobody has anything left to do, and nothing is on its way
pub record IsAtRest (d : Declared) (s : State) : Type 0 where
  pub ended : list_all (has_ended d s) (range_with_len 0 (length s.apps)) ≡ true
  pub used : (s.events == length d.input) ≡ true
  pub loopers : list_all is_free s.loopers ≡ true
  pub ports : list_all (λ p. length (queue_of p) == 0) s.ports ≡ true
  pub links : list_all (λ link. length link == 0) s.links ≡ true
  pub owed : list_all (λ w. not (owes_notice s w)) (range_with_len 0 (length s.panes)) ≡ true

pub rest_tells : (d : Declared) (s : State) → all_done d s ≡ true → all_quiet s ≡ true → IsAtRest d s
rest_tells d s done quiet =
    let loopers = list_all is_free s.loopers in
    let ports = list_all (λ p. length (queue_of p) == 0) s.ports in
    let buffers = list_all is_flushed s.buffers in
    let links = list_all (λ link. length link == 0) s.links in
    let owed = list_all (λ w. not (owes_notice s w)) (range_with_len 0 (length s.panes)) in
    let four : (loopers && ports && buffers && links) ≡ true = and_first (loopers && ports && buffers && links) owed quiet in
    let three : (loopers && ports && buffers) ≡ true = and_first (loopers && ports && buffers) links four in
    let two : (loopers && ports) ≡ true = and_first (loopers && ports) buffers three in
    record {
      ended = and_first (list_all (has_ended d s) (range_with_len 0 (length s.apps))) _ done;
      used = and_second (list_all (has_ended d s) (range_with_len 0 (length s.apps))) _ done;
      loopers = and_first loopers ports two;
      ports = and_second loopers ports two;
      links = and_second (loopers && ports && buffers) links four;
      owed = and_second (loopers && ports && buffers && links) owed quiet;
    }

-- ---- nobody has an act

app_rests : (d : Declared) (s : State) (m : ℕ) (o : Option App) → slice_get s.apps m ≡ o → IsAtRest d s → option_and_then (λ (a : App). wish_of (app_program d m) a.place None (buffered s (app m))) o ≡ None
unfolding wish_of
app_rests d s m None read rest = refl
app_rests d s m (Some a) read rest =
    let here : has_ended d s m ≡ true = passes_below (has_ended d s) (length s.apps) m rest.ended (slice_get_within s.apps m a read) in
    let at_end : is_at_end (app_program d m) a.place ≡ true = sym (ap (λ o. option_map_or (λ (x : App). is_at_end (app_program d m) x.place) o false) read) ∙ here in
    ap (option_map (wish_at a.place.part None (buffered s (app m)))) (slice_get_past (app_program d m) a.place.step (nat_le_tells _ _ at_end))

free_is : (l : Looper) → is_free l ≡ true → l ≡ free
free_is free e = refl
free_is (locked m) e = cc
free_is (handling hand stage) e = cc

none_left : {X : Type 0} (xs : List X) (k : ℕ) → length (drop k xs) ≡ 0 → slice_get xs k ≡ None
none_left [] k e = refl
none_left (x ∷ xs) zero e = absurd (omega (arith, e))
none_left (x ∷ xs) (suc k) e = none_left xs k e

port_rests : (d : Declared) (s : State) (w : ℕ) (o : Option (Port Message)) → slice_get s.ports w ≡ o → IsAtRest d s → with_both take_act (Some free) o ≡ None
port_rests d s w None read rest = refl
port_rests d s w (Some p) read rest =
    let empty : (length (queue_of p) == 0) ≡ true = all_at (λ (p : Port Message). length (queue_of p) == 0) s.ports w p rest.ports read in
    ap (option_map (λ letter. act.Take (p.taken + 1))) (none_left p.arrived p.taken (eq_tells _ 0 empty))

looper_rests : (d : Declared) (s : State) (w : ℕ) (o : Option Looper) → slice_get s.loopers w ≡ o → IsAtRest d s → option_and_then (want_act d s) (option_map (looper_want d s w) o) ≡ None
unfolding want_act
looper_rests d s w None read rest = refl
looper_rests d s w (Some l) read rest =
    let is : l ≡ free = free_is l (all_at is_free s.loopers w l rest.loopers read) in
    ap (λ x. want_act d s (looper_want d s w x)) is ∙ ap (λ o. with_both take_act o (slice_get s.ports w)) (read ∙ ap Some is) ∙ port_rests d s w (slice_get s.ports w) refl rest

owes_without : (s : State) (w : ℕ) (o : Option Window) → owes s w o None ≡ false
owes_without s w (Some window) = refl
owes_without s w None = refl

notice_rests : (d : Declared) (s : State) (w : ℕ) (o : Option Pane) → slice_get s.panes w ≡ o → IsAtRest d s → owes_notice s w ≡ false
unfolding owes_notice
notice_rests d s w (Some pane) read rest = not_true (owes_notice s w) (passes_below (λ v. not (owes_notice s v)) (length s.panes) w rest.owed (slice_get_within s.panes w pane read))
notice_rests d s w None read rest = ap (owes s w (slice_get s.desk.windows.windows w)) read ∙ owes_without s w (slice_get s.desk.windows.windows w)

without_command : (d : Declared) (s : State) (w : ℕ) (o : Option Pane) → with_both (λ pane (c : Numbered). Some (act.Exec c.number (effect_outcome d.pictures s w (effect_of c.command) pane))) o None ≡ None
without_command d s w (Some pane) = refl
without_command d s w None = refl

front_rests : (d : Declared) (s : State) (w : ℕ) (o : Option (List Numbered)) → slice_get s.links w ≡ o → IsAtRest d s → option_and_then (λ (link : List Numbered). slice_get link 0) o ≡ None
front_rests d s w None read rest = refl
front_rests d s w (Some []) read rest = refl
front_rests d s w (Some (c ∷ cs)) read rest =
    let empty : (length (c ∷ cs) == 0) ≡ true = all_at (λ (link : List Numbered). length link == 0) s.links w (c ∷ cs) rest.links read in
    let none : length (c ∷ cs) ≡ 0 = eq_tells _ 0 empty in
    absurd (omega (arith, none))

command_rests : (d : Declared) (s : State) (w : ℕ) → IsAtRest d s → exec_act d s w ≡ None
command_rests d s w rest =
    ap (with_both (λ pane (c : Numbered). Some (act.Exec c.number (effect_outcome d.pictures s w (effect_of c.command) pane))) (slice_get s.panes w)) (front_rests d s w (slice_get s.links w) refl rest)
    ∙ without_command d s w (slice_get s.panes w)

cannot_stop : (stopped done quiet : Bool) → stopped ≡ true → (if not stopped && done && quiet then Some act.Stop else None) ≡ None
cannot_stop true done quiet e = refl
cannot_stop false done quiet e = cc

who_rests : (d : Declared) (s : State) (who : Activity) → IsAtRest d s → s.stopped ≡ true → NoAct d s who
unfolding want_of want_act app_wish
who_rests d s (runner (app m)) rest stopped = ap (λ o. option_and_then (want_act d s) (option_map (asks (app m)) o)) (app_rests d s m (slice_get s.apps m) refl rest)
who_rests d s (runner (looper w)) rest stopped = looper_rests d s w (slice_get s.loopers w) refl rest
who_rests d s (twin w) rest stopped = ap (λ b. want_act d s (if b then notifies w else executes w)) (notice_rests d s w (slice_get s.panes w) refl rest) ∙ command_rests d s w rest
who_rests d s input rest stopped =
    let used : s.events ≡ length d.input = eq_tells _ _ rest.used in
    ap (λ o. option_and_then (want_act d s) (option_map uses o)) (slice_get_past d.input s.events (omega (arith, used)))
who_rests d s closing rest stopped = cannot_stop s.stopped (all_done d s) (all_quiet s) stopped

by_activity : (d : Declared) (s : State) (o : Option Activity) → IsAtRest d s → s.stopped ≡ true → option_and_then (want_act d s) (option_and_then (want_of d s) o) ≡ None
by_activity d s (Some who) rest stopped = who_rests d s who rest stopped
by_activity d s None rest stopped = refl

pub all_rest : (d : Declared) (s : State) (a : ℕ) → IsAtRest d s → s.stopped ≡ true → legal_act d s a ≡ None
unfolding legal_act
all_rest d s a rest stopped = by_activity d s (activity_of d a) rest stopped
