-- What leaves loopers, buffers and applications as they were: commands that are executed, notices and input.
use Rattle.std.proofs.Common.{◌≡◌, ℕ, List, length, Option, Some, None, refl, ◌∙◌}
use Rattle.std.specs.Prelude.{slice_get, option_and_then, Result, Ok, Err}
use Rattle.be_bitmap.specs.Pictures.{Picture}
use Rattle.be_command.specs.Effects.{Effect, at_view, changes, ends_update, effect_of}
use Rattle.be_desk.specs.Changes.{Desk, desk_after}
use Rattle.be_geom.specs.declared.change.Change.{Change}
use Rattle.be_geom.specs.declared.change.Change.TheVariants.{Show, Hide, MoveTo, MoveBy, ResizeTo, Activate, Behind, Focus, Close}
use Rattle.be_input.specs.declared.Event.TheVariants as event
use Rattle.be_input.specs.Deliveries.{Delivery}
use Rattle.be_link.specs.Queues.{Numbered, shortened}
use Rattle.be_message.specs.Messages.{Message}
use Rattle.be_port.specs.Ports.{Port, with_letter, closed_port}
use Rattle.be_script.specs.declared.InputLine.{InputLine}
use Rattle.be_script.specs.declared.InputLine.TheVariants as line
use Rattle.be_script.specs.Script.{Declared}
use Rattle.be_stack.specs.declared.fault.ChangeFault.{ChangeFault}
use Rattle.be_twin.specs.Executed.{pane_after, without_session}
use Rattle.be_update.specs.Sessions.{with_notice}
use Rattle.be_machine.specs.Commands.{sight_at, done_at_view, with_effect, without_front, executed_command, executed}
use Rattle.be_machine.specs.Input.{ports_with, delivery_of, used, with_under, activated, with_delivery, with_event}
use Rattle.be_machine.specs.Port.{notice, notified}
use Rattle.be_machine.specs.State.{State}
use Rattle.be_machine.specs.Windows.{ports_after, changed_to, changed}
use Rattle.be_machine.proofs.ProgressCases.{by_option}
use Rattle.be_machine.proofs.Lists.{length_at}
use Rattle.be_machine.proofs.NumbersSteps.{length_ports_with}

-- of ports, links and panes there are as many as before
pub record Beside (s t : State) : Type 0 where
  pub loopers : t.loopers ≡ s.loopers
  pub buffers : t.buffers ≡ s.buffers
  pub apps : t.apps ≡ s.apps
  pub events : t.events ≡ s.events
  pub stopped : t.stopped ≡ s.stopped
  pub ports : length t.ports ≡ length s.ports
  pub links : length t.links ≡ length s.links
  pub panes : length t.panes ≡ length s.panes

pub beside_itself : (s : State) → Beside s s
beside_itself s = record { loopers = refl; buffers = refl; apps = refl; events = refl; stopped = refl; ports = refl; links = refl; panes = refl }

-- one after the other
pub beside_then : (s t u : State) → Beside s t → Beside t u → Beside s u
beside_then s t u h k = record {
  loopers = k.loopers ∙ h.loopers;
  buffers = k.buffers ∙ h.buffers;
  apps = k.apps ∙ h.apps;
  events = k.events ∙ h.events;
  stopped = k.stopped ∙ h.stopped;
  ports = k.ports ∙ h.ports;
  links = k.links ∙ h.links;
  panes = k.panes ∙ h.panes;
}

-- ---- changes

ports_closed : (w : ℕ) (change : Change) (ports : List (Port Message)) → length (ports_after w change ports) ≡ length ports
ports_closed w Close ports = length_at ports w closed_port
ports_closed w Show ports = refl
ports_closed w Hide ports = refl
ports_closed w (MoveTo corner) ports = refl
ports_closed w (MoveBy dx dy) ports = refl
ports_closed w (ResizeTo width height) ports = refl
ports_closed w Activate ports = refl
ports_closed w (Behind front) ports = refl
ports_closed w (Focus view) ports = refl

changed_by : (s : State) (w : ℕ) (change : Change) (r : Result Desk ChangeFault) → Beside s (changed_to s w change r)
changed_by s w change (Ok desk) = record { loopers = refl; buffers = refl; apps = refl; events = refl; stopped = refl; ports = ports_closed w change s.ports; links = refl; panes = refl }
changed_by s w change (Err fault) = beside_itself s

beside_changed : (s : State) (w : ℕ) (change : Change) → Beside s (changed s w change)
unfolding changed
beside_changed s w change = changed_by s w change (desk_after s.desk w change)

-- ---- commands

beside_effect : (pictures : List Picture) (s : State) (w : ℕ) (effect : Effect) → Beside s (with_effect pictures s w effect)
beside_effect pictures s w (at_view v deed) = by_option (Beside s) (done_at_view pictures s w v deed) s (slice_get s.panes w) (beside_itself s) (λ pane. record { loopers = refl; buffers = refl; apps = refl; events = refl; stopped = refl; ports = refl; links = refl; panes = length_at s.panes w (pane_after pictures deed v (sight_at s w v pane)) })
beside_effect pictures s w (changes change) = beside_changed s w change
beside_effect pictures s w ends_update = record { loopers = refl; buffers = refl; apps = refl; events = refl; stopped = refl; ports = refl; links = refl; panes = length_at s.panes w without_session }

beside_front : (s : State) (w : ℕ) → Beside s (without_front s w)
beside_front s w = record { loopers = refl; buffers = refl; apps = refl; events = refl; stopped = refl; ports = refl; links = length_at s.links w shortened; panes = refl }

pub beside_executed : (d : Declared) (s : State) (w : ℕ) → Beside s (executed d s w)
unfolding executed
beside_executed d s w = by_option (Beside s) (executed_command d s w) s (option_and_then (λ (link : List Numbered). slice_get link 0) (slice_get s.links w)) (beside_itself s)
    (λ c. beside_then s (without_front s w) _ (beside_front s w) (beside_effect d.pictures (without_front s w) w (effect_of c.command)))

pub beside_notified : (s : State) (w : ℕ) → Beside s (notified s w)
beside_notified s w = record { loopers = refl; buffers = refl; apps = refl; events = refl; stopped = refl; ports = length_at s.ports w (with_letter (notice w)); links = refl; panes = length_at s.panes w with_notice }

-- ---- input

activated_by : (s : State) (o : Option ℕ) → Beside s (activated s o)
activated_by s (Some w) = beside_changed s w Activate
activated_by s None = beside_itself s

delivered_by : (s : State) (delivery : Delivery) → Beside (used s) (with_delivery s delivery)
delivered_by s delivery =
    let t : State = record (used s) { ports = ports_with (ports_with s.ports delivery.first) delivery.second; desk = with_under delivery s.desk } in
    let h : Beside (used s) t = record { loopers = refl; buffers = refl; apps = refl; events = refl; stopped = refl; ports = length_ports_with (ports_with s.ports delivery.first) delivery.second ∙ length_ports_with s.ports delivery.first; links = refl; panes = refl } in
    beside_then (used s) t (activated t delivery.activate) h (activated_by t delivery.activate)

-- beside that one more event is used
pub beside_event : (s : State) (x : InputLine) → Beside (used s) (with_event s x)
beside_event s (line.Press p) = delivered_by s (delivery_of s (event.Press p))
beside_event s (line.Release p) = delivered_by s (delivery_of s (event.Release p))
beside_event s (line.Move p) = delivered_by s (delivery_of s (event.Move p))
beside_event s (line.Key key) = delivered_by s (delivery_of s (event.Key key))
beside_event s (line.After m) = beside_itself (used s)
