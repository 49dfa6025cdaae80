-- What the machine makes of a change at the front of a link.
use Rattle.std.proofs.Common.{◌≡◌, ℕ, List, Some, Result, Ok, Err, refl, sym, ap, ◌∙◌}
use Rattle.std.specs.Prelude.{slice_get, option_and_then}
use Rattle.std.specs.Option.{option_map_or}
use Rattle.be_command.specs.Effects.{changes, effect_of}
use Rattle.be_desk.specs.Changes.{Desk, desk_after}
use Rattle.be_geom.specs.declared.change.Change.{Change}
use Rattle.be_link.specs.Queues.{Numbered}
use Rattle.be_machine.specs.Commands.{executed, executed_command, with_effect, without_front}
use Rattle.be_machine.specs.State.{State}
use Rattle.be_machine.specs.Windows.{changed, changed_to, ports_after}
use Rattle.be_rules.specs.Slices.{shown_of}
use Rattle.be_script.specs.Script.{Declared}
use Rattle.be_stack.specs.declared.fault.ChangeFault.{ChangeFault}

-- ---- results

abbrev desk_or : Desk → Result Desk ChangeFault → Desk
desk_or x (Ok y) = y
desk_or x (Err fault) = x

pub same_ok : (a b : Desk) (r : Result Desk ChangeFault) → r ≡ Ok a → r ≡ Ok b → a ≡ b
same_ok a b r first second = ap (desk_or a) (sym first ∙ second)

-- ---- a change

-- what becomes of what a change doesn't touch
links_by : (t : State) (w : ℕ) (change : Change) (r : Result Desk ChangeFault) → (changed_to t w change r).links ≡ t.links
links_by t w change (Ok desk) = refl
links_by t w change (Err f) = refl

links_kept : (t : State) (w : ℕ) (change : Change) → (changed t w change).links ≡ t.links
unfolding changed
links_kept t w change = links_by t w change (desk_after t.desk w change)

pub desk_changed : (t : State) (w : ℕ) (change : Change) (after : Desk) → desk_after t.desk w change ≡ Ok after → (changed t w change).desk ≡ after
unfolding changed
desk_changed t w change after taken = ap (λ r. (changed_to t w change r).desk) taken

pub ports_changed : (t : State) (w : ℕ) (change : Change) (after : Desk) → desk_after t.desk w change ≡ Ok after → (changed t w change).ports ≡ ports_after w change t.ports
unfolding changed
ports_changed t w change after taken = ap (λ r. (changed_to t w change r).ports) taken

-- ---- at the front of a link

module _ (d : Declared) (s : State) (w : ℕ) (c : Numbered) (change : Change) (oldest : option_and_then (λ (l : List Numbered). slice_get l 0) (slice_get s.links w) ≡ Some c) (effect : effect_of c.command ≡ changes change) where
  pub executed_is : executed d s w ≡ changed (without_front s w) w change
  unfolding executed
  executed_is = ap (λ o. option_map_or (executed_command d s w) o s) oldest ∙ ap (with_effect d.pictures (without_front s w) w) effect

  shown_by : (u : ℕ) (r : Result Desk ChangeFault) → shown_of (changed_to (without_front s w) w change r) u ≡ shown_of (changed_to s w change r) u
  shown_by u (Ok desk) = refl
  shown_by u (Err f) = refl

  shown_as : (u : ℕ) → shown_of (changed (without_front s w) w change) u ≡ shown_of (changed s w change) u
  unfolding changed
  shown_as u = shown_by u (desk_after s.desk w change)

  -- each window's pane is that after the change
  pub shown_executed : (u : ℕ) → shown_of (executed d s w) u ≡ shown_of (changed s w change) u
  shown_executed u = ap (λ r. shown_of r u) executed_is ∙ shown_as u

  pub links_executed : (executed d s w).links ≡ (without_front s w).links
  links_executed = ap (λ r. r.links) executed_is ∙ links_kept (without_front s w) w change

  -- where the desk refuses it, the link alone changes
  refused_as : (fault : ChangeFault) → desk_after s.desk w change ≡ Err fault → changed (without_front s w) w change ≡ without_front s w
  unfolding changed
  refused_as fault refused = ap (λ r. changed_to (without_front s w) w change r) refused

  pub executed_refused : (fault : ChangeFault) → desk_after s.desk w change ≡ Err fault → executed d s w ≡ without_front s w
  executed_refused fault refused = executed_is ∙ refused_as fault refused
