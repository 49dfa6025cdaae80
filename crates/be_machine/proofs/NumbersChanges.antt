-- A change of a window keeps its numbers, and roots without parents.
use Rattle.std.proofs.Common.{◌≡◌, ℕ, ◌+◌, ◌≤◌, Bool, true, false, ℤ, List, length, Option, Some, None, refl, subst, arith}
use Rattle.std.specs.Prelude.{slice_get, option_and_then, Result, Ok, Err, if◌then◌else◌}
use Rattle.std.specs.List.{list_all}
use Rattle.std.proofs.lemmas.Option.{same_Some}
use Rattle.be_desk.specs.Changes.{Desk, with_tree, desk_with, desk_unless, desk_after}
use Rattle.be_geom.specs.declared.change.Change.{Change}
use Rattle.be_geom.specs.declared.change.Change.TheVariants as change
use Rattle.be_geom.specs.Rects.{rect_fits}
use Rattle.be_message.specs.Messages.{Message}
use Rattle.be_port.specs.Ports.{Port, front, closed_port}
use Rattle.be_stack.specs.Changes.{windows_after}
use Rattle.be_stack.specs.declared.fault.ChangeFault.{ChangeFault}
use Rattle.be_stack.specs.Windows.{Windows}
use Rattle.be_views.specs.Resizing.{resized, with_frames, frames_after}
use Rattle.be_views.specs.Trees.{Tree}
use Rattle.be_machine.specs.State.{State}
use Rattle.be_machine.specs.Windows.{changed, changed_to, ports_after}
use Rattle.be_machine.proofs.Lists.{AtPlace, length_at}
use Rattle.be_machine.proofs.NumbersGrow.{Grows, stays, AreRooted, IsRooted, framed_root, place_set, Holds, ports_stay, ports_change, buffers_stay}

RootedIn : Result Desk ChangeFault → Type 0
RootedIn (Ok desk) = AreRooted desk.pointing.trees
RootedIn (Err fault) = Unit {0}

rooted_tree : (desk : Desk) (windows : Windows) (w : ℕ) (o : Option Tree) → AreRooted desk.pointing.trees → ((tree : Tree) → o ≡ Some tree → IsRooted tree) → RootedIn (with_tree desk windows w o)
unfolding RootedIn
rooted_tree desk windows w (Some tree) h k = place_set IsRooted desk.pointing.trees w tree (k tree refl) h
rooted_tree desk windows w None h k = tt

resized_if : (b : Bool) (now after : Tree) → IsRooted now → (if b then Some now else None) ≡ Some after → IsRooted after
resized_if true now after h e = subst IsRooted (same_Some now after e) h
resized_if false now after h e = cc

resized_root : (tree after : Tree) (width height : ℤ) → IsRooted tree → resized tree width height ≡ Some after → IsRooted after
unfolding resized
resized_root tree after width height h e = resized_if (list_all rect_fits (frames_after tree width height)) (with_frames tree (frames_after tree width height)) after (framed_root tree (frames_after tree width height) h) e

resized_at : (trees : List Tree) (w : ℕ) (width height : ℤ) (o : Option Tree) (after : Tree) → slice_get trees w ≡ o → AreRooted trees → option_and_then (λ tree. resized tree width height) o ≡ Some after → IsRooted after
resized_at trees w width height (Some tree) after read h e = resized_root tree after width height (h w tree read) e
resized_at trees w width height None after read h e = cc

rooted_with : (desk : Desk) (w : ℕ) (windows : Windows) (c : Change) → AreRooted desk.pointing.trees → RootedIn (desk_with desk w windows c)
unfolding RootedIn
rooted_with desk w windows (change.ResizeTo width height) h = rooted_tree desk windows w (option_and_then (λ tree. resized tree width height) (slice_get desk.pointing.trees w)) h (λ tree e. resized_at desk.pointing.trees w width height (slice_get desk.pointing.trees w) tree refl h e)
rooted_with desk w windows (change.Focus view) h = h
rooted_with desk w windows change.Show h = h
rooted_with desk w windows change.Hide h = h
rooted_with desk w windows (change.MoveTo corner) h = h
rooted_with desk w windows (change.MoveBy dx dy) h = h
rooted_with desk w windows change.Activate h = h
rooted_with desk w windows (change.Behind front) h = h
rooted_with desk w windows change.Close h = h

rooted_unless : (desk : Desk) (w : ℕ) (c : Change) (r : Result Windows ChangeFault) → AreRooted desk.pointing.trees → RootedIn (desk_unless desk w c r)
unfolding RootedIn
rooted_unless desk w c (Ok windows) h = rooted_with desk w windows c h
rooted_unless desk w c (Err fault) h = tt

rooted_after : (desk : Desk) (w : ℕ) (c : Change) → AreRooted desk.pointing.trees → RootedIn (desk_after desk w c)
unfolding desk_after
rooted_after desk w c h = rooted_unless desk w c (windows_after desk.windows w c) h

length_ports_after : (w : ℕ) (c : Change) (ports : List (Port Message)) → length (ports_after w c ports) ≡ length ports
length_ports_after w change.Close ports = length_at ports w closed_port
length_ports_after w change.Show ports = refl
length_ports_after w change.Hide ports = refl
length_ports_after w (change.MoveTo corner) ports = refl
length_ports_after w (change.MoveBy dx dy) ports = refl
length_ports_after w (change.ResizeTo width height) ports = refl
length_ports_after w change.Activate ports = refl
length_ports_after w (change.Behind front) ports = refl
length_ports_after w (change.Focus view) ports = refl

ports_after_hold : (v : ℕ) (c : Change) (ports : List (Port Message)) (w m n : ℕ) → m + 0 ≤ n → AtPlace (Holds m) ports w → AtPlace (Holds n) (ports_after v c ports) w
ports_after_hold v change.Close ports w m n le h = ports_change ports v closed_port 0 (λ p. omega arith) w m n le h
ports_after_hold v change.Show ports w m n le h = ports_stay ports w m n le h
ports_after_hold v change.Hide ports w m n le h = ports_stay ports w m n le h
ports_after_hold v (change.MoveTo corner) ports w m n le h = ports_stay ports w m n le h
ports_after_hold v (change.MoveBy dx dy) ports w m n le h = ports_stay ports w m n le h
ports_after_hold v (change.ResizeTo width height) ports w m n le h = ports_stay ports w m n le h
ports_after_hold v change.Activate ports w m n le h = ports_stay ports w m n le h
ports_after_hold v (change.Behind front) ports w m n le h = ports_stay ports w m n le h
ports_after_hold v (change.Focus view) ports w m n le h = ports_stay ports w m n le h

grows_changed_to : (s : State) (w : ℕ) (c : Change) (r : Result Desk ChangeFault) → (AreRooted s.desk.pointing.trees → RootedIn r) → Grows 0 0 0 s (changed_to s w c r)
unfolding RootedIn
grows_changed_to s w c (Ok desk) h = record {
  arrived = ports_after_hold w c s.ports;
  made = buffers_stay s.buffers;
  used = omega arith;
  panes = refl;
  ports = length_ports_after w c s.ports;
  rooted = h;
}
grows_changed_to s w c (Err fault) h = stays s

pub grows_changed : (s : State) (w : ℕ) (c : Change) → Grows 0 0 0 s (changed s w c)
unfolding changed
grows_changed s w c = grows_changed_to s w c (desk_after s.desk w c) (rooted_after s.desk w c)
