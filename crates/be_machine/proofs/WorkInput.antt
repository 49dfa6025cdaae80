-- An event lowers the potential.
use Rattle.std.proofs.Common.{◌≡◌, ℕ, ◌+◌, ◌*◌, ◌<◌, ◌≤◌, List, length, Option, Some, None, refl, sym, ap, subst, ◌∙◌, arith}
use Rattle.std.specs.Prelude.{slice_get}
use Rattle.std.proofs.lemmas.Option.{slice_get_within}
use Rattle.be_desk.specs.Changes.{Desk}
use Rattle.be_geom.specs.declared.change.Change.TheVariants.{Activate}
use Rattle.be_input.specs.declared.Event.TheVariants as event
use Rattle.be_input.specs.Deliveries.{Post, Delivery}
use Rattle.be_message.specs.Messages.{Message}
use Rattle.be_message.specs.Words.{mouse_down, mouse_up, mouse_moved, key_down}
use Rattle.be_pane.specs.Panes.{Pane}
use Rattle.be_port.specs.Ports.{Port, posted}
use Rattle.be_script.specs.declared.InputLine.{InputLine}
use Rattle.be_script.specs.declared.InputLine.TheVariants as line
use Rattle.be_script.specs.Limits.{IsWithinLimits}
use Rattle.be_script.specs.Script.{Declared}
use Rattle.be_script.specs.Work.{message_cost, most_cost, updates_cost, input_cost}
use Rattle.be_span.specs.declared.Cell.{Cell}
use Rattle.be_machine.specs.Input.{input_letter, ports_with, delivery_of, used, with_under, activated, with_delivery}
use Rattle.be_machine.specs.Lists.{at}
use Rattle.be_machine.specs.State.{State}
use Rattle.be_machine.specs.Step.{met}
use Rattle.be_machine.specs.Wants.{uses}
use Rattle.be_machine.specs.Windows.{changed}
use Rattle.be_machine.proofs.Lists.{at_past}
use Rattle.be_machine.proofs.WorkDeliveries.{Fits, MayFit, One, press_one, release_one, key_one, move_first, move_second, release_quiet, move_quiet, key_quiet}
use Rattle.be_machine.proofs.WorkEffects.{change_adds_updates}
use Rattle.be_machine.proofs.WorkInstructions.{Falls}
use Rattle.be_machine.proofs.WorkMessages.{message_within}
use Rattle.be_machine.proofs.WorkParts.{ports_posted, input_used}
use Rattle.be_machine.specs.Shares.{letter_share, ports_share, dirt_share, is_dirty, potential}
use Rattle.be_machine.proofs.WorkTwins.{by_dirt, changed_only}
use Rattle.be_machine.proofs.NumbersSteps.{length_ports_with}

-- ---- messages

sent_cost : (d : Declared) (post : Post) → letter_share d post.window (input_letter post) ≡ message_cost d (updates_cost d) post.window post.target post.message.what
unfolding message_cost
sent_cost d post = refl

post_by : (d : Declared) (what : ℕ) (ports : List (Port Message)) (post : Post) (o : Option (Port Message)) → IsWithinLimits d → length ports ≡ length d.windows → Fits what post → slice_get ports post.window ≡ o → ports_share d (at ports post.window (posted (input_letter post))) ≤ ports_share d ports + most_cost d (updates_cost d) what
post_by d what ports post (Some p) limits shape fits read =
    let word : most_cost d (updates_cost d) post.message.what ≡ most_cost d (updates_cost d) what = ap (most_cost d (updates_cost d)) fits.same in
    let there : post.window < length d.windows = omega (arith, slice_get_within ports post.window p read) in
    omega (
      arith,
      ports_posted d ports post.window (input_letter post),
      sent_cost d post,
      message_within d (updates_cost d) post.window post.message.what post.target fits.shown limits there,
      word,
    )
post_by d what ports post None limits shape fits read = rw (at_past ports post.window (posted (input_letter post)) read) (omega arith)

post_within : (d : Declared) (what : ℕ) (ports : List (Port Message)) (o : Option Post) → IsWithinLimits d → length ports ≡ length d.windows → MayFit what o → ports_share d (ports_with ports o) ≤ ports_share d ports + most_cost d (updates_cost d) what
post_within d what ports (Some post) limits shape fits = post_by d what ports post (slice_get ports post.window) limits shape (fits post refl) refl
post_within d what ports None limits shape fits = omega arith

one_within : (d : Declared) (what : ℕ) (ports : List (Port Message)) (first second : Option Post) → IsWithinLimits d → length ports ≡ length d.windows → One what first second → ports_share d (ports_with (ports_with ports first) second) ≤ ports_share d ports + most_cost d (updates_cost d) what
one_within d what ports first second limits shape one =
    let alone : ports_share d (ports_with (ports_with ports first) second) ≡ ports_share d (ports_with ports first) = ap (λ o. ports_share d (ports_with (ports_with ports first) o)) one.alone in
    omega (arith, alone, post_within d what ports first limits shape one.fits)

two_within : (d : Declared) (what : ℕ) (ports : List (Port Message)) (first second : Option Post) → IsWithinLimits d → length ports ≡ length d.windows → MayFit what first → MayFit what second → ports_share d (ports_with (ports_with ports first) second) ≤ ports_share d ports + 2 * most_cost d (updates_cost d) what
two_within d what ports first second limits shape a b =
    omega (arith, post_within d what ports first limits shape a, post_within d what (ports_with ports first) second limits (length_ports_with ports first ∙ shape) b)

-- ---- events

-- what is remembered of the pointer dirties nothing
under_dirt : (d : Declared) (delivery : Delivery) (desk : Desk) (screen : List Cell) (panes : List Pane) → dirt_share d (with_under delivery desk) screen panes ≡ dirt_share d desk screen panes
unfolding dirt_share is_dirty
under_dirt d delivery desk screen panes = refl

delivered_state : State → Delivery → State
delivered_state s delivery = record (used s) { ports = ports_with (ports_with s.ports delivery.first) delivery.second; desk = with_under delivery s.desk }

delivered_pays : (d : Declared) (s : State) (l : InputLine) (delivery : Delivery) (n : ℕ) → slice_get d.input s.events ≡ Some l → ports_share d (ports_with (ports_with s.ports delivery.first) delivery.second) ≤ ports_share d s.ports + n → potential d (delivered_state s delivery) + input_cost d (updates_cost d) l ≤ potential d s + n
unfolding potential delivered_state
delivered_pays d s l delivery n read posts = omega (arith, posts, under_dirt d delivery s.desk s.screen s.panes, input_used d s.events l read)

-- an event that activates nothing
quiet_falls : (d : Declared) (s : State) (l : InputLine) (delivery : Delivery) (n : ℕ) → slice_get d.input s.events ≡ Some l → delivery.activate ≡ None → ports_share d (ports_with (ports_with s.ports delivery.first) delivery.second) ≤ ports_share d s.ports + n → 1 + n ≤ input_cost d (updates_cost d) l → potential d (with_delivery s delivery) < potential d s
unfolding delivered_state
quiet_falls d s l delivery n read quiet posts cost =
    let same : with_delivery s delivery ≡ delivered_state s delivery = ap (activated (delivered_state s delivery)) quiet in
    subst (λ t. potential d t < potential d s) (sym same) (omega (arith, delivered_pays d s l delivery n read posts))

activated_adds : (d : Declared) (t : State) (o : Option ℕ) → length t.panes ≡ length d.windows → potential d (activated t o) ≤ potential d t + updates_cost d
activated_adds d t (Some w) panes = by_dirt d t (changed t w Activate) (updates_cost d) (changed_only d t w Activate) (change_adds_updates d t w Activate panes)
activated_adds d t None panes = omega arith

-- one that may
press_falls : (d : Declared) (s : State) (l : InputLine) (delivery : Delivery) (n : ℕ) → slice_get d.input s.events ≡ Some l → length s.panes ≡ length d.windows → ports_share d (ports_with (ports_with s.ports delivery.first) delivery.second) ≤ ports_share d s.ports + n → 1 + updates_cost d + n ≤ input_cost d (updates_cost d) l → potential d (with_delivery s delivery) < potential d s
unfolding delivered_state
press_falls d s l delivery n read panes posts cost = omega (arith, activated_adds d (delivered_state s delivery) delivery.activate panes, delivered_pays d s l delivery n read posts)

after_falls : (d : Declared) (s : State) (m : ℕ) → slice_get d.input s.events ≡ Some (line.After m) → potential d (used s) < potential d s
unfolding potential
after_falls d s m read = omega (arith, input_used d s.events (line.After m) read)

pub uses_falls : (d : Declared) (s : State) (l : InputLine) → IsWithinLimits d → length s.panes ≡ length d.windows → length s.ports ≡ length d.windows → slice_get d.input s.events ≡ Some l → Falls d s (uses l)
unfolding met
uses_falls d s (line.Press p) limits panes ports read =
    press_falls d s (line.Press p) (delivery_of s (event.Press p)) (most_cost d (updates_cost d) mouse_down) read panes
    (one_within d mouse_down s.ports _ _ limits ports (press_one s.desk.windows s.desk.pointing p)) (omega arith)
uses_falls d s (line.Release p) limits panes ports read =
    quiet_falls d s (line.Release p) (delivery_of s (event.Release p)) (most_cost d (updates_cost d) mouse_up) read (release_quiet s.desk.windows s.desk.pointing p)
    (one_within d mouse_up s.ports _ _ limits ports (release_one s.desk.windows s.desk.pointing p)) (omega arith)
uses_falls d s (line.Move p) limits panes ports read =
    quiet_falls d s (line.Move p) (delivery_of s (event.Move p)) (2 * most_cost d (updates_cost d) mouse_moved) read (move_quiet s.desk.windows s.desk.pointing p)
    (two_within d mouse_moved s.ports _ _ limits ports (move_first s.desk.windows s.desk.pointing p) (move_second s.desk.windows s.desk.pointing p)) (omega arith)
uses_falls d s (line.Key key) limits panes ports read =
    quiet_falls d s (line.Key key) (delivery_of s (event.Key key)) (most_cost d (updates_cost d) key_down) read (key_quiet s.desk.windows s.desk.pointing key)
    (one_within d key_down s.ports _ _ limits ports (key_one s.desk.windows s.desk.pointing key)) (omega arith)
uses_falls d s (line.After m) limits panes ports read = after_falls d s m read
