-- What a twin does lowers the potential: notices and commands.
use Rattle.std.proofs.Common.{◌≡◌, ℕ, ◌+◌, ◌<◌, ◌≤◌, Bool, true, false, List, length, Option, Some, None, refl, sym, ap, ◌∙◌, arith}
use Rattle.std.specs.Prelude.{slice_get, option_and_then, is_none, not, ◌&&◌, Result, Ok, Err, if◌then◌else◌}
use Rattle.std.specs.Option.{option_map_or}
use Rattle.be_facts.proofs.Truths.{not_true, and_first, and_second}
use Rattle.be_bitmap.specs.Pictures.{Picture}
use Rattle.be_command.specs.Effects.{Effect, at_view, changes, ends_update, effect_of, Deed}
use Rattle.be_desk.specs.Changes.{Desk, desk_after}
use Rattle.be_geom.specs.declared.change.Change.{Change}
use Rattle.be_link.specs.Queues.{Numbered}
use Rattle.be_pane.specs.Panes.{Pane}
use Rattle.be_script.specs.Script.{Declared}
use Rattle.be_script.specs.Work.{updates_cost}
use Rattle.be_stack.specs.declared.fault.ChangeFault.{ChangeFault}
use Rattle.be_stack.specs.declared.window.Window.{Window}
use Rattle.be_update.specs.Sessions.{is_any, is_owed}
use Rattle.be_machine.specs.Commands.{effect_outcome, done_at_view, with_effect, without_front, executed_command, executed}
use Rattle.be_machine.specs.declared.Act.{Act}
use Rattle.be_machine.specs.declared.Act.TheVariants as acts
use Rattle.be_machine.specs.Legal.{want_act}
use Rattle.be_machine.specs.Lists.{with_both}
use Rattle.be_machine.specs.Port.{notice, notified}
use Rattle.be_machine.specs.State.{State}
use Rattle.be_machine.specs.Step.{met}
use Rattle.be_machine.specs.Update.{owes, owes_notice}
use Rattle.be_machine.specs.Wants.{notifies, executes, twin_want}
use Rattle.be_machine.specs.Windows.{dirty_of, changed, changed_to}
use Rattle.be_machine.proofs.WorkEffects.{dirt_in, effect_adds}
use Rattle.be_machine.proofs.WorkInstructions.{Falls}
use Rattle.be_machine.proofs.WorkMarks.{panes_noticed}
use Rattle.be_machine.proofs.WorkParts.{ports_noticed, ports_changed, links_shortened}
use Rattle.be_machine.specs.Shares.{exposure, going, is_dirty, apps_share, loopers_share, ports_share, buffers_share, links_share, input_share, potential}

-- ---- notices

dirty_is : (s : State) (w : ℕ) → is_any (dirty_of s w) ≡ true → is_dirty s.desk s.screen w ≡ true
unfolding dirty_of is_dirty
dirty_is s w e = e

noticed_falls : (d : Declared) (s : State) (w : ℕ) (pane : Pane) → slice_get s.panes w ≡ Some pane → is_dirty s.desk s.screen w ≡ true → pane.notified ≡ false → potential d (notified s w) < potential d s
unfolding potential
noticed_falls d s w pane read dirty quiet = omega (arith, ports_noticed d s.ports w (notice w), panes_noticed d s.desk s.screen s.panes w pane read dirty quiet)

owed_falls : (d : Declared) (s : State) (w : ℕ) (closed : Bool) (pane : Pane) → slice_get s.panes w ≡ Some pane → is_owed closed (dirty_of s w) pane ≡ true → potential d (notified s w) < potential d s
owed_falls d s w closed pane read e =
    let first : (not closed && is_any (dirty_of s w) && is_none pane.session) ≡ true = and_first (not closed && is_any (dirty_of s w) && is_none pane.session) (not pane.notified) e in
    let dirty : is_any (dirty_of s w) ≡ true = and_second (not closed) (is_any (dirty_of s w)) (and_first (not closed && is_any (dirty_of s w)) (is_none pane.session) first) in
    noticed_falls d s w pane read (dirty_is s w dirty) (not_true pane.notified (and_second (not closed && is_any (dirty_of s w) && is_none pane.session) (not pane.notified) e))

owes_falls : (d : Declared) (s : State) (w : ℕ) (v : Option Window) (p : Option Pane) → slice_get s.panes w ≡ p → owes s w v p ≡ true → potential d (notified s w) < potential d s
owes_falls d s w (Some window) (Some pane) read e = owed_falls d s w window.closed pane read e
owes_falls d s w (Some window) None read e = cc
owes_falls d s w None p read e = cc

notifies_falls : (d : Declared) (s : State) (w : ℕ) → owes_notice s w ≡ true → Falls d s (notifies w)
unfolding met owes_notice
notifies_falls d s w e = owes_falls d s w (slice_get s.desk.windows.windows w) (slice_get s.panes w) refl e

-- ---- all but dirt stays

pub record OnlyDirt (d : Declared) (s t : State) : Type 0 where
  pub apps : t.apps ≡ s.apps
  pub loopers : t.loopers ≡ s.loopers
  pub ports : ports_share d t.ports ≤ ports_share d s.ports
  pub buffers : t.buffers ≡ s.buffers
  pub links : t.links ≡ s.links
  pub events : t.events ≡ s.events
  pub stopped : t.stopped ≡ s.stopped

pub by_dirt : (d : Declared) (s t : State) (n : ℕ) → OnlyDirt d s t → dirt_in d t ≤ dirt_in d s + n → potential d t ≤ potential d s + n
unfolding potential
by_dirt d s t n only adds =
    let apps : apps_share d t.apps ≡ apps_share d s.apps = ap (apps_share d) only.apps in
    let loopers : loopers_share d t.loopers ≡ loopers_share d s.loopers = ap (loopers_share d) only.loopers in
    let buffers : buffers_share d t.buffers ≡ buffers_share d s.buffers = ap (buffers_share d) only.buffers in
    let links : links_share d t.links ≡ links_share d s.links = ap (links_share d) only.links in
    let events : input_share d t.events ≡ input_share d s.events = ap (input_share d) only.events in
    let stopped : going t.stopped ≡ going s.stopped = ap going only.stopped in
    omega (arith, apps, loopers, buffers, links, events, stopped, only.ports, adds)

change_only : (d : Declared) (s : State) (w : ℕ) (c : Change) (r : Result Desk ChangeFault) → OnlyDirt d s (changed_to s w c r)
change_only d s w c (Ok desk) = record { apps = refl; loopers = refl; ports = ports_changed d w c s.ports; buffers = refl; links = refl; events = refl; stopped = refl }
change_only d s w c (Err fault) = record { apps = refl; loopers = refl; ports = omega arith; buffers = refl; links = refl; events = refl; stopped = refl }

pub changed_only : (d : Declared) (s : State) (w : ℕ) (c : Change) → OnlyDirt d s (changed s w c)
unfolding changed
changed_only d s w c = change_only d s w c (desk_after s.desk w c)

view_only : (d : Declared) (pictures : List Picture) (s : State) (w v : ℕ) (deed : Deed) (o : Option Pane) → OnlyDirt d s (option_map_or (done_at_view pictures s w v deed) o s)
view_only d pictures s w v deed (Some pane) = record { apps = refl; loopers = refl; ports = omega arith; buffers = refl; links = refl; events = refl; stopped = refl }
view_only d pictures s w v deed None = record { apps = refl; loopers = refl; ports = omega arith; buffers = refl; links = refl; events = refl; stopped = refl }

effect_only : (d : Declared) (pictures : List Picture) (s : State) (w : ℕ) (e : Effect) → OnlyDirt d s (with_effect pictures s w e)
effect_only d pictures s w (at_view v deed) = view_only d pictures s w v deed (slice_get s.panes w)
effect_only d pictures s w (changes c) = changed_only d s w c
effect_only d pictures s w ends_update = record { apps = refl; loopers = refl; ports = omega arith; buffers = refl; links = refl; events = refl; stopped = refl }

-- ---- commands

front_leaves : (d : Declared) (s : State) (w : ℕ) (link : List Numbered) (c : Numbered) → slice_get s.links w ≡ Some link → slice_get link 0 ≡ Some c → potential d (without_front s w) + (1 + exposure (updates_cost d) (effect_of c.command)) ≡ potential d s
unfolding potential
front_leaves d s w link c read first = omega (arith, links_shortened d s.links w link c read first)

command_falls : (d : Declared) (s : State) (w : ℕ) (link : List Numbered) (c : Numbered) → length s.panes ≡ length d.windows → slice_get s.links w ≡ Some link → slice_get link 0 ≡ Some c → potential d (executed_command d s w c) < potential d s
command_falls d s w link c panes read first =
    let t : State = without_front s w in
    let e : Effect = effect_of c.command in
    omega (arith, front_leaves d s w link c read first, by_dirt d t (with_effect d.pictures t w e) (exposure (updates_cost d) e) (effect_only d d.pictures t w e) (effect_adds d d.pictures t w e panes))

front_falls : (d : Declared) (s : State) (w : ℕ) (link : List Numbered) (o : Option Numbered) → length s.panes ≡ length d.windows → slice_get s.links w ≡ Some link → slice_get link 0 ≡ o → (o ≡ None → ⊥) → potential d (option_map_or (executed_command d s w) o s) < potential d s
front_falls d s w link (Some c) panes read first some = command_falls d s w link c panes read first
front_falls d s w link None panes read first some = absurd (some refl)

link_falls : (d : Declared) (s : State) (w : ℕ) (l : Option (List Numbered)) → length s.panes ≡ length d.windows → slice_get s.links w ≡ l → (option_and_then (λ link. slice_get link 0) l ≡ None → ⊥) → potential d (option_map_or (executed_command d s w) (option_and_then (λ link. slice_get link 0) l) s) < potential d s
link_falls d s w (Some link) panes read some = front_falls d s w link (slice_get link 0) panes read refl some
link_falls d s w None panes read some = absurd (some refl)

no_front : {X Y Z : Type 0} (f : X → Y → Option Z) (p : Option X) (z : Z) → with_both f p None ≡ Some z → ⊥
no_front f (Some x) z e = cc
no_front f None z e = cc

executes_falls : (d : Declared) (s : State) (w : ℕ) (act : Act) → length s.panes ≡ length d.windows → want_act d s (executes w) ≡ Some act → Falls d s (executes w)
unfolding met executed want_act
executes_falls d s w act panes e =
    let f : Pane → Numbered → Option Act = λ pane c. Some (acts.Exec c.number (effect_outcome d.pictures s w (effect_of c.command) pane)) in
    link_falls d s w (slice_get s.links w) panes refl (λ none. no_front f (slice_get s.panes w) act (sym (ap (with_both f (slice_get s.panes w)) none) ∙ e))

twin_by : (d : Declared) (s : State) (w : ℕ) (act : Act) (b : Bool) → owes_notice s w ≡ b → length s.panes ≡ length d.windows → want_act d s (if b then notifies w else executes w) ≡ Some act → Falls d s (if b then notifies w else executes w)
twin_by d s w act true owed panes legal = notifies_falls d s w owed
twin_by d s w act false owed panes legal = executes_falls d s w act panes legal

pub twin_falls : (d : Declared) (s : State) (w : ℕ) (act : Act) → length s.panes ≡ length d.windows → want_act d s (twin_want s w) ≡ Some act → Falls d s (twin_want s w)
twin_falls d s w act panes legal = twin_by d s w act (owes_notice s w) refl panes legal
