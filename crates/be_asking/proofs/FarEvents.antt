-- Which panes an event touches far off: those of windows that an activation alters.
use Rattle.std.proofs.Common.{◌≡◌, ℕ, Option, Some, None, Result, Ok, Err, ◌⊎◌, inl, inr, refl, sym, ap, subst, ◌∙◌}
use Rattle.std.specs.Option.{option_map_or}
use Rattle.std.proofs.lemmas.Option.{same_Some}
use Rattle.be_facts.proofs.Numbers.{eq_self}
use Rattle.be_desk.specs.Affected.{OwnsTheSame}
use Rattle.be_desk.specs.Changes.{Desk, desk_after}
use Rattle.be_geom.specs.Numbers.{is_number}
use Rattle.be_geom.specs.declared.change.Change.TheVariants.{Activate}
use Rattle.be_geom.proofs.Numbered.{number_is}
use Rattle.be_input.specs.declared.Event.{Event}
use Rattle.be_input.specs.declared.Event.TheVariants as event
use Rattle.be_script.specs.declared.InputLine.{InputLine}
use Rattle.be_script.specs.declared.InputLine.TheVariants as line
use Rattle.be_script.specs.Script.{Declared}
use Rattle.be_stack.specs.Windows.{Windows}
use Rattle.be_stack.specs.declared.fault.ChangeFault.{ChangeFault}
use Rattle.be_machine.specs.declared.Entry.{Entry}
use Rattle.be_machine.specs.Input.{delivery_of, with_delivery, with_event}
use Rattle.be_machine.specs.Laws.{IsWantOf}
use Rattle.be_machine.specs.State.{State}
use Rattle.be_machine.specs.Step.{met, step}
use Rattle.be_machine.specs.Touched.{Part, pane}
use Rattle.be_machine.specs.Wants.{uses}
use Rattle.be_machine.specs.Windows.{changed, changed_to}
use Rattle.be_rules.specs.Far.{FarActive, FarEvent, IsAltered, IsFar, event_in, windows_behind, windows_or}
use Rattle.be_rules.proofs.Far.{activates}

-- ---- the windows behind an activation

windows_changed : (s : State) (w : ℕ) → (changed s w Activate).desk.windows ≡ windows_behind s.desk w Activate
unfolding changed
windows_changed s w = by_result (desk_after s.desk w Activate)
  where
    by_result : (r : Result Desk ChangeFault) → (changed_to s w Activate r).desk.windows ≡ windows_or s.desk.windows r
    by_result (Ok new) = refl
    by_result (Err f) = refl

-- ---- by the event

pub delivered_with : (s : State) (it : InputLine) (ev : Event) → event_in it ≡ Some ev → with_event s it ≡ with_delivery s (delivery_of s ev)
delivered_with s (line.Press at) ev e = ap (λ v. with_delivery s (delivery_of s v)) (same_Some (event.Press at) ev e)
delivered_with s (line.Release at) ev e = ap (λ v. with_delivery s (delivery_of s v)) (same_Some (event.Release at) ev e)
delivered_with s (line.Move at) ev e = ap (λ v. with_delivery s (delivery_of s v)) (same_Some (event.Move at) ev e)
delivered_with s (line.Key key) ev e = ap (λ v. with_delivery s (delivery_of s v)) (same_Some (event.Key key) ev e)
delivered_with s (line.After m) ev e = absurd (cc)

far_active : (s r : State) (it : InputLine) (ev : Event) (p : Part) → event_in it ≡ Some ev → FarEvent s r it p → FarActive s r (delivery_of s ev).activate p
far_active s r (line.Press at) ev p e h = subst (λ v. FarActive s r (delivery_of s v).activate p) (same_Some (event.Press at) ev e) h
far_active s r (line.Release at) ev p e h = subst (λ v. FarActive s r (delivery_of s v).activate p) (same_Some (event.Release at) ev e) h
far_active s r (line.Move at) ev p e h = subst (λ v. FarActive s r (delivery_of s v).activate p) (same_Some (event.Move at) ev e) h
far_active s r (line.Key key) ev p e h = subst (λ v. FarActive s r (delivery_of s v).activate p) (same_Some (event.Key key) ev e) h
far_active s r (line.After m) ev p e h = absurd (cc)

-- one of the two owners is the window, and the other isn't
other_owner : (u : ℕ) (before after : Option ℕ) → is_number u before ≡ is_number u after → (before ≡ Some u) ⊎ (after ≡ Some u) → (after ≡ before → ⊥) → ⊥
other_owner u before after same (inl is) other = other (number_is u after (sym same ∙ ap (is_number u) is ∙ eq_self u) ∙ sym is)
other_owner u before after same (inr is) other = other (is ∙ sym (number_is u before (same ∙ ap (is_number u) is ∙ eq_self u)))

-- the pane of a window that is altered by the activation
pub record IsStirredPane (s : State) (ev : Event) (p : Part) : Type 0 where
  pub active : ℕ
  pub activates : (delivery_of s ev).activate ≡ Some active
  pub window : ℕ
  pub pane_is : p ≡ pane window
  pub altered : IsAltered s.desk active Activate window

module _ (d : Declared) (s : State) (e : Entry) (it : InputLine) (ev : Event) (is : event_in it ≡ Some ev) (wanted : IsWantOf d s e (uses it)) where
  abbrev r : State
  r = step d s e

  stepped : r ≡ with_delivery s (delivery_of s ev)
  unfolding step met
  stepped = ap (λ o. option_map_or (met d s) o s) wanted ∙ delivered_with s it ev is

  by_active : (o : Option ℕ) (p : Part) → (delivery_of s ev).activate ≡ o → FarActive s r o p → IsStirredPane s ev p
  by_active (Some w) p active (u, pane_is, x, y, owned, other) =
      let windows : r.desk.windows ≡ windows_behind s.desk w Activate = ap (λ (t : State). t.desk.windows) stepped ∙ activates s (delivery_of s ev) w active in
      record {
        active = w;
        activates = active;
        window = u;
        pane_is = pane_is;
        altered = subst (λ (ws : Windows). OwnsTheSame s.desk.windows ws u → ⊥) windows (λ same. other_owner u _ _ (same x y) owned other);
      }
  by_active None p active h = absurd h

  pub far_stirred : (p : Part) → IsFar s r (uses it) p → IsStirredPane s ev p
  far_stirred p far = by_active (delivery_of s ev).activate p refl (far_active s r it ev p is far)
