-- Where nobody has a legal act, no notice is owed and no letter or command is on its way.
use Rattle.std.proofs.Common.{◌≡◌, ℕ, ◌+◌, ◌<◌, Bool, true, false, List, [], ◌∷◌, drop, length, Option, Some, None, refl, sym, ap, ◌∙◌, arith}
use Rattle.std.specs.Prelude.{slice_get, option_map, option_and_then, if◌then◌else◌}
use Rattle.std.proofs.lemmas.Option.{slice_get_within}
use Rattle.be_facts.proofs.Numbers.{eq_self}
use Rattle.be_actor.specs.declared.Instruction.{Instruction}
use Rattle.be_actor.specs.Wishes.{wish_at, wish_of}
use Rattle.be_command.specs.Effects.{effect_of}
use Rattle.be_geom.specs.Numbers.{is_number}
use Rattle.be_geom.proofs.Numbered.{number_is}
use Rattle.be_link.specs.Queues.{Numbered, Buffer}
use Rattle.be_message.specs.Messages.{Message}
use Rattle.be_pane.specs.Panes.{Pane}
use Rattle.be_port.specs.Ports.{Letter, Port, front, queue_of}
use Rattle.be_script.specs.Limits.{IsWithinLimits}
use Rattle.be_script.specs.Programs.{is_rest_of_app}
use Rattle.be_script.specs.Script.{Declared}
use Rattle.be_machine.specs.Activities.{app, looper, Activity, runner, twin, input, closing, activities, activity_of}
use Rattle.be_machine.specs.Commands.{effect_outcome}
use Rattle.be_machine.specs.declared.Act.TheVariants as act
use Rattle.be_machine.specs.Legal.{wish_act, want_act, legal_act}
use Rattle.be_machine.specs.Lists.{with_both}
use Rattle.be_machine.specs.Port.{take_act, notify_act}
use Rattle.be_machine.specs.Program.{app_program, buffered, is_locked_by, locked_by, app_wish, hand_in}
use Rattle.be_machine.specs.State.{State, Looper, free, locked, handling, App}
use Rattle.be_machine.specs.Update.{owes_notice}
use Rattle.be_machine.specs.Wants.{asks, takes, notifies, executes, looper_want, want_of}
use Rattle.be_machine.proofs.Lists.{IsThere, there}
use Rattle.be_machine.proofs.ProgressAfter.{IsSettled}
use Rattle.be_machine.proofs.ProgressCalm.{IsCalm}
use Rattle.be_machine.proofs.ProgressCan.{IsQuiet, Owns, can_some, handling_can, locked_can}
use Rattle.be_machine.proofs.ProgressLocks.{Follows, StepKeeps, step_keeps}
use Rattle.be_machine.proofs.ProgressNumbers.{app_number, looper_number, twin_number, input_number, closing_number}
use Rattle.be_machine.proofs.ProgressPlaces.{position_is, drop_past}

-- ---- who has no act

-- the activity has no legal act
abbrev pub NoAct : Declared → State → Activity → Type 0
NoAct d s who = option_and_then (want_act d s) (want_of d s who) ≡ None

pub record NobodyActs (d : Declared) (s : State) : Type 0 where
  pub apps : (m : ℕ) → m < length d.apps → NoAct d s (runner (app m))
  pub loopers : (w : ℕ) → w < length d.windows → NoAct d s (runner (looper w))
  pub twins : (w : ℕ) → w < length d.windows → NoAct d s (twin w)
  pub input : NoAct d s input
  pub closing : NoAct d s closing

no_act : (d : Declared) (s : State) (a : ℕ) (who : Activity) → activity_of d a ≡ Some who → legal_act d s a ≡ None → NoAct d s who
unfolding legal_act
no_act d s a who is none = sym (ap (λ o. option_and_then (want_act d s) (option_and_then (want_of d s) o)) is) ∙ none

pub nobody_acts : (d : Declared) (s : State) → ((a : ℕ) → a < activities d → legal_act d s a ≡ None) → NobodyActs d s
nobody_acts d s none = record {
  apps = λ m h. no_act d s m (runner (app m)) (app_number d m h) (none m (omega arith));
  loopers = λ w h. no_act d s _ (runner (looper w)) (looper_number d w h) (none _ (omega arith));
  twins = λ w h. no_act d s _ (twin w) (twin_number d w h) (none _ (omega arith));
  input = no_act d s _ input (input_number d) (none _ (omega arith));
  closing = no_act d s _ closing (closing_number d) (none _ (omega arith));
}

-- ---- twins

empty_by : (d : Declared) (s : State) (w : ℕ) (pane : Pane) (link : List Numbered) → with_both (λ pane c. Some (act.Exec c.number (effect_outcome d.pictures s w (effect_of c.command) pane))) (Some pane) (slice_get link 0) ≡ None → length link ≡ 0
empty_by d s w pane [] e = refl
empty_by d s w pane (c ∷ cs) e = cc

quiet_by : (d : Declared) (s : State) (w : ℕ) (port : IsThere s.ports w) (pane : IsThere s.panes w) (link : IsThere s.links w) (b : Bool) → owes_notice s w ≡ b → want_act d s (if b then notifies w else executes w) ≡ None → IsQuiet s w
unfolding want_act
quiet_by d s w port pane link true owed e =
    let some : notify_act s w ≡ Some (act.Notify (length port.element.arrived + 1)) = ap (option_map (λ (p : Port Message). act.Notify (length p.arrived + 1))) port.read in
    absurd (can_some (notify_act s w) _ some e)
quiet_by d s w port pane link false owed e = record {
  owed = owed;
  link = link.element;
  read = link.read;
  empty = empty_by d s w pane.element link.element
      (sym (ap (λ o. with_both (λ pane c. Some (act.Exec c.number (effect_outcome d.pictures s w (effect_of c.command) pane))) o (option_and_then (λ link. slice_get link 0) (slice_get s.links w))) pane.read
      ∙ ap (λ o. with_both (λ pane c. Some (act.Exec c.number (effect_outcome d.pictures s w (effect_of c.command) pane))) (Some pane.element) (option_and_then (λ (x : List Numbered). slice_get x 0) o)) link.read) ∙ e);
}

pub twin_quiet : (d : Declared) (s : State) (w : ℕ) → IsSettled d s → NobodyActs d s → w < length d.windows → IsQuiet s w
unfolding want_of
twin_quiet d s w h none inside =
    let ports : length s.ports ≡ length d.windows = h.parts.ports in
    let panes : length s.panes ≡ length d.windows = h.parts.panes in
    let links : length s.links ≡ length d.windows = h.parts.links in
    quiet_by d s w (there s.ports w (omega (arith, inside, ports))) (there s.panes w (omega (arith, inside, panes))) (there s.links w (omega (arith, inside, links))) (owes_notice s w) refl (none.twins w inside)

-- ---- applications

-- what an application has as its act, at its instruction
pub app_act : (d : Declared) (s : State) (m : ℕ) (a : App) (i : Instruction) → slice_get s.apps m ≡ Some a → slice_get (app_program d m) a.place.step ≡ Some i → option_and_then (want_act d s) (want_of d s (runner (app m))) ≡ wish_act s (app m) (wish_at a.place.part None (buffered s (app m)) i)
unfolding want_of want_act app_wish wish_of
app_act d s m a i read next =
    ap (λ o. option_and_then (want_act d s) (option_map (asks (app m)) (option_and_then (λ (x : App). wish_of (app_program d m) x.place None (buffered s (app m))) o))) read
    ∙ ap (λ o. option_and_then (want_act d s) (option_map (asks (app m)) (option_map (wish_at a.place.part None (buffered s (app m))) o))) next

under_lock : (d : Declared) (s : State) (m w : ℕ) (a : App) (o : Option Instruction) → IsSettled d s → slice_get s.apps m ≡ Some a → slice_get (app_program d m) a.place.step ≡ o → is_rest_of_app d (Some w) (drop a.place.step (app_program d m)) ≡ true → Owns s (app m) w → NoAct d s (runner (app m)) → ⊥
under_lock d s m w a None h read next keeps own none =
    let rest : is_rest_of_app d (Some w) [] ≡ true = ap (is_rest_of_app d (Some w)) (sym (drop_past (app_program d m) a.place.step next)) ∙ keeps in
    cc
under_lock d s m w a (Some i) h read next keeps own none =
    let step : StepKeeps d (Some w) i (drop (a.place.step + 1) (app_program d m)) = step_keeps d (Some w) (app_program d m) a.place.step i next keeps in
    locked_can d s m w a.place.part i h.parts own step.here (sym (app_act d s m a i read next) ∙ none)

-- an application that has a lock can go on
locked_some : (d : Declared) (s : State) (m w : ℕ) (quiet : IsQuiet s w) (buffer : IsThere s.buffers w) → IsSettled d s → NobodyActs d s → slice_get s.loopers w ≡ Some (locked m) → ⊥
locked_some d s m w quiet buffer h none read =
    let inside : m < length d.apps = h.locks.known w (locked m) read m (eq_self m) in
    let apps : length s.apps ≡ length d.apps = h.parts.apps in
    let a : IsThere s.apps m = there s.apps m (omega (arith, inside, apps)) in
    let follows : Follows d s.loopers m a.element = h.locks.follows m a.element a.read in
    let lock : follows.lock ≡ Some w = number_is w follows.lock (sym (follows.has.alone w (locked m) read) ∙ eq_self m) in
    let at_lock : locked_by s m ≡ Some w = position_is (is_locked_by m) s.loopers w (slice_get_within s.loopers w (locked m) read) (λ u l there. follows.has.alone u l there ∙ ap (is_number u) lock) in
    let keeps : is_rest_of_app d (Some w) (drop a.element.place.step (app_program d m)) ≡ true = ap (λ o. is_rest_of_app d o (drop a.element.place.step (app_program d m))) (sym lock) ∙ follows.keeps in
    let calm : IsCalm (locked m) buffer.element = h.calm w (locked m) read buffer.element buffer.read in
    let own : Owns s (app m) w = record { window = at_lock; quiet = quiet; buffer = buffer.element; read = buffer.read; within = calm.within } in
    under_lock d s m w a.element (slice_get (app_program d m) a.element.place.step) h a.read refl keeps own (none.apps m inside)

-- ---- loopers

looper_act : (d : Declared) (s : State) (w : ℕ) (l : Looper) → slice_get s.loopers w ≡ Some l → option_and_then (want_act d s) (want_of d s (runner (looper w))) ≡ want_act d s (looper_want d s w l)
unfolding want_of
looper_act d s w l read = ap (λ o. option_and_then (want_act d s) (option_map (looper_want d s w) o)) read

free_by : (d : Declared) (s : State) (w : ℕ) (l : Looper) (quiet : IsQuiet s w) (buffer : IsThere s.buffers w) → IsWithinLimits d → IsSettled d s → NobodyActs d s → slice_get s.loopers w ≡ Some l → want_act d s (looper_want d s w l) ≡ None → l ≡ free
free_by d s w free quiet buffer limits h none read e = refl
free_by d s w (locked m) quiet buffer limits h none read e = absurd (locked_some d s m w quiet buffer h none read)
free_by d s w (handling hand stage) quiet buffer limits h none read e =
    let calm : IsCalm (handling hand stage) buffer.element = h.calm w (handling hand stage) read buffer.element buffer.read in
    let own : Owns s (looper w) w = record { window = refl; quiet = quiet; buffer = buffer.element; read = buffer.read; within = calm.within } in
    absurd (handling_can d s w hand stage limits h.parts own (ap (option_and_then hand_in) read) e)

-- the looper is free, its buffer empty, and no letter waits in its port
pub record IsIdle (s : State) (w : ℕ) : Type 0 where
  pub read : slice_get s.loopers w ≡ Some free
  pub buffer : Buffer
  pub buffer_read : slice_get s.buffers w ≡ Some buffer
  pub buffer_empty : length buffer.commands ≡ 0
  pub port : Port Message
  pub port_read : slice_get s.ports w ≡ Some port
  pub port_empty : queue_of port ≡ []

front_none : (p : Port Message) (o : Option (Letter Message)) → front p ≡ o → option_map (λ (letter : Letter Message). act.Take (p.taken + 1)) o ≡ None → front p ≡ None
front_none p (Some letter) is e = cc
front_none p None is e = is

no_letter : (d : Declared) (s : State) (w : ℕ) (p : Port Message) → slice_get s.loopers w ≡ Some free → slice_get s.ports w ≡ Some p → want_act d s (takes w) ≡ None → front p ≡ None
unfolding want_act
no_letter d s w p read port e =
    front_none p (front p) refl (sym (ap (λ o. with_both take_act o (slice_get s.ports w)) read ∙ ap (λ o. with_both take_act (Some free) o) port) ∙ e)

pub looper_idle : (d : Declared) (s : State) (w : ℕ) → IsWithinLimits d → IsSettled d s → NobodyActs d s → w < length d.windows → IsIdle s w
looper_idle d s w limits h none inside =
    let quiet : IsQuiet s w = twin_quiet d s w h none inside in
    let loopers : length s.loopers ≡ length d.windows = h.parts.loopers in
    let buffers : length s.buffers ≡ length d.windows = h.parts.buffers in
    let ports : length s.ports ≡ length d.windows = h.parts.ports in
    let l : IsThere s.loopers w = there s.loopers w (omega (arith, inside, loopers)) in
    let b : IsThere s.buffers w = there s.buffers w (omega (arith, inside, buffers)) in
    let p : IsThere s.ports w = there s.ports w (omega (arith, inside, ports)) in
    let by : want_act d s (looper_want d s w l.element) ≡ None = sym (looper_act d s w l.element l.read) ∙ none.loopers w inside in
    let is_free : l.element ≡ free = free_by d s w l.element quiet b limits h none l.read by in
    let read : slice_get s.loopers w ≡ Some free = l.read ∙ ap Some is_free in
    let no_take : want_act d s (takes w) ≡ None = ap (λ x. want_act d s (looper_want d s w x)) (sym is_free) ∙ by in
    record {
      read = read;
      buffer = b.element;
      buffer_read = b.read;
      buffer_empty = (h.calm w free read b.element b.read).idle refl;
      port = p.element;
      port_read = p.read;
      port_empty = drop_past p.element.arrived p.element.taken (no_letter d s w p.element read p.read no_take);
    }
