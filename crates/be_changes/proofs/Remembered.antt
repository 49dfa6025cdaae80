-- What the pointer was over has nothing to do with a change of a window.
use Rattle.std.proofs.Common.{◌≡◌, ℕ, Option, Some, None, Result, Ok, Err, refl, sym, ap, ◌∙◌, subst}
use Rattle.be_desk.specs.Changes.{Desk, changed_cell, desk_after, desk_unless}
use Rattle.be_geom.specs.declared.change.Change.TheVariants.{Activate}
use Rattle.be_input.specs.Deliveries.{Delivery}
use Rattle.be_machine.specs.Input.{activated, ports_with, used, with_under}
use Rattle.be_machine.specs.State.{State}
use Rattle.be_machine.specs.Windows.{changed, changed_to}
use Rattle.be_parts.specs.Desks.{under_in}
use Rattle.be_machine.specs.Touched as part
use Rattle.be_rules.specs.Slices.{shown_of, slice_of}
use Rattle.be_stack.specs.Changes.{windows_after}
use Rattle.be_stack.specs.Windows.{Windows}
use Rattle.be_stack.specs.declared.fault.ChangeFault.{ChangeFault}

abbrev desk_or : Desk → Result Desk ChangeFault → Desk
desk_or d (Ok x) = x
desk_or d (Err f) = d

abbrev is_taken : Result Desk ChangeFault → Type 0
is_taken (Ok x) = Unit {0}
is_taken (Err f) = ⊥

activated_by : (under : Option (ℕ × ℕ)) (d a : Desk) (w : ℕ) (r : Result Windows ChangeFault) → desk_unless d w Activate r ≡ Ok a → desk_unless (under_in under d) w Activate r ≡ Ok (under_in under a)
activated_by under d a w (Ok windows) e = ap (λ (x : Desk). Ok (under_in under x)) (ap (desk_or a) e)
activated_by under d a w (Err f) e = absurd (subst is_taken (sym e) tt)

refused_by : (under : Option (ℕ × ℕ)) (d : Desk) (w : ℕ) (fault : ChangeFault) (r : Result Windows ChangeFault) → desk_unless d w Activate r ≡ Err fault → desk_unless (under_in under d) w Activate r ≡ Err fault
refused_by under d w fault (Ok windows) e = absurd (subst is_taken e tt)
refused_by under d w fault (Err f) e = e

-- a window is activated on the desk that remembers, as on the one that doesn't yet
activated_under : (under : Option (ℕ × ℕ)) (d a : Desk) (w : ℕ) → desk_after d w Activate ≡ Ok a → desk_after (under_in under d) w Activate ≡ Ok (under_in under a)
unfolding desk_after
activated_under under d a w e = activated_by under d a w (windows_after d.windows w Activate) e

refused_under : (under : Option (ℕ × ℕ)) (d : Desk) (w : ℕ) (fault : ChangeFault) → desk_after d w Activate ≡ Err fault → desk_after (under_in under d) w Activate ≡ Err fault
unfolding desk_after
refused_under under d w fault e = refused_by under d w fault (windows_after d.windows w Activate) e

-- ---- the state after an event

ports_by : (t : State) (w : ℕ) (r : Result Desk ChangeFault) → (changed_to t w Activate r).ports ≡ t.ports
ports_by t w (Ok a) = refl
ports_by t w (Err f) = refl

input_by : (t : State) (w : ℕ) (r : Result Desk ChangeFault) → slice_of (changed_to t w Activate r) part.input ≡ slice_of t part.input
input_by t w (Ok a) = refl
input_by t w (Err f) = refl

ports_kept : (t : State) (w : ℕ) → (changed t w Activate).ports ≡ t.ports
unfolding changed
ports_kept t w = ports_by t w (desk_after t.desk w Activate)

input_kept : (t : State) (w : ℕ) → slice_of (changed t w Activate) part.input ≡ slice_of t part.input
unfolding changed
input_kept t w = input_by t w (desk_after t.desk w Activate)

-- an activation leaves ports and input
pub ports_activated : (t : State) (o : Option ℕ) → (activated t o).ports ≡ t.ports
ports_activated t (Some w) = ports_kept t w
ports_activated t None = refl

pub input_activated : (t : State) (o : Option ℕ) → slice_of (activated t o) part.input ≡ slice_of t part.input
input_activated t (Some w) = input_kept t w
input_activated t None = refl

module _ (s : State) (dv : Delivery) where
  -- the messages are posted, and what is under the pointer is remembered
  abbrev pub posted_state : State
  posted_state = record (used s) {
    ports = ports_with (ports_with s.ports dv.first) dv.second;
    desk = with_under dv s.desk;
  }

  module _ (w : ℕ) (a : Desk) (taken : desk_after s.desk w Activate ≡ Ok a) where
    moved : changed posted_state w Activate ≡ changed_to posted_state w Activate (Ok (under_in dv.under a))
    unfolding changed
    moved = ap (changed_to posted_state w Activate) (activated_under dv.under s.desk a w taken)

    plainly : changed s w Activate ≡ changed_to s w Activate (Ok a)
    unfolding changed
    plainly = ap (changed_to s w Activate) taken

    shown_as : (u : ℕ) → shown_of (changed_to posted_state w Activate (Ok (under_in dv.under a))) u ≡ shown_of (changed_to s w Activate (Ok a)) u
    unfolding changed_cell
    shown_as u = refl

    -- each window's pane is that after the activation
    pub shown_activated : (u : ℕ) → shown_of (activated posted_state (Some w)) u ≡ shown_of (changed s w Activate) u
    shown_activated u = ap (λ t. shown_of t u) moved ∙ shown_as u ∙ ap (λ t. shown_of t u) (sym plainly)

    pub desk_activated : (activated posted_state (Some w)).desk ≡ under_in dv.under a
    desk_activated = ap (λ t. t.desk) moved

  -- where the desk refuses it, no window is activated
  refused_as : (w : ℕ) (fault : ChangeFault) → desk_after s.desk w Activate ≡ Err fault → changed posted_state w Activate ≡ posted_state
  unfolding changed
  refused_as w fault refused = ap (changed_to posted_state w Activate) (refused_under dv.under s.desk w fault refused)

  pub activation_refused : (w : ℕ) (fault : ChangeFault) → desk_after s.desk w Activate ≡ Err fault → activated posted_state (Some w) ≡ posted_state
  activation_refused w fault refused = refused_as w fault refused
