-- Lists of the machine's parts.
use Rattle.std.proofs.Common.{◌≡◌, ℕ, zero, suc, List, [], ◌∷◌, ◌++◌, map, Some, ◌⊎◌, inl, inr, refl, sym, ap, ⊎_elim}
use Rattle.std.specs.Prelude.{slice_get}
use Rattle.std.proofs.lemmas.Option.{same_Some}
use Rattle.be_geom.specs.declared.change.Change.{Change}
use Rattle.be_geom.specs.declared.change.Change.TheVariants.{Show, Hide, MoveTo, MoveBy, ResizeTo, Activate, Behind, Focus, Close}
use Rattle.be_machine.specs.Touched as part
use Rattle.be_machine.specs.Touched.{TouchesPort}
use Rattle.be_rules.specs.Sure.{IsAmong, port_for}

pub among_panes : (windows : List ℕ) (k u : ℕ) → slice_get windows k ≡ Some u → IsAmong (part.pane u) (map part.pane windows)
among_panes [] k u at = absurd (cc)
among_panes (v ∷ vs) zero u at = inl (ap part.pane (sym (same_Some v u at)))
among_panes (v ∷ vs) (suc k) u at = inr (among_panes vs k u at)

pub among_either : (x : part.Part) (xs ys : List part.Part) → IsAmong x (xs ++ ys) → IsAmong x xs ⊎ IsAmong x ys
among_either x [] ys among = inr among
among_either x (y ∷ xs) ys (inl is) = inl (inl is)
among_either x (y ∷ xs) ys (inr later) = ⊎_elim (λ first. inl (inr first)) (λ second. inr second) (among_either x xs ys later)

pub no_pane : (x : part.Part) → ((u : ℕ) → x ≡ part.pane u → ⊥) → (windows : List ℕ) → IsAmong x (map part.pane windows) → ⊥
no_pane x other [] among = among
no_pane x other (v ∷ vs) (inl is) = other v is
no_pane x other (v ∷ vs) (inr later) = no_pane x other vs later

-- the port is that of the window, which is closed
pub port_closes : (w : ℕ) (change : Change) (x : part.Part) → IsAmong x (port_for w change) → (x ≡ part.port w) × (change ≡ Close)
port_closes w Close x (inl is) = (is, refl)
port_closes w Close x (inr never) = absurd never
port_closes w Show x among = absurd among
port_closes w Hide x among = absurd among
port_closes w (MoveTo corner) x among = absurd among
port_closes w (MoveBy dx dy) x among = absurd among
port_closes w (ResizeTo width height) x among = absurd among
port_closes w Activate x among = absurd among
port_closes w (Behind front) x among = absurd among
port_closes w (Focus view) x among = absurd among

pub touched_port : (w : ℕ) (change : Change) (x : part.Part) → TouchesPort w change x → IsAmong x (port_for w change)
touched_port w Close x is = inl is
touched_port w Show x is = is
touched_port w Hide x is = is
touched_port w (MoveTo corner) x is = is
touched_port w (MoveBy dx dy) x is = is
touched_port w (ResizeTo width height) x is = is
touched_port w Activate x is = is
touched_port w (Behind front) x is = is
touched_port w (Focus view) x is = is
