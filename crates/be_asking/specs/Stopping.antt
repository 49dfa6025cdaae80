-- What the parts in hand tell of the end of a run.
use Rattle.std.specs.Prelude.{◌≡◌, ◌<◌, ℕ, ◌==◌, ◌&&◌, not, Bool, true, List, length, Option}
use Rattle.std.specs.Prelude.{slice_get}
use Rattle.std.specs.Option.{option_map_or}
use Rattle.be_hall.specs.Hands.{meant}
use Rattle.be_hall.specs.Machine.{Fits}
use Rattle.be_link.specs.Queues.{is_flushed}
use Rattle.be_machine.specs.Closing.{all_done, all_quiet, is_free}
use Rattle.be_machine.specs.State.{State}
use Rattle.be_machine.specs.Touched as part
use Rattle.be_machine.specs.Update.{owes_notice}
use Rattle.be_parts.specs.Parts.{meaning_of}
use Rattle.be_parts.specs.declared.part.Part.{Part}
use Rattle.be_port.specs.Ports.{queue_of}
use Rattle.be_rules.specs.Places.{IsPart}
use Rattle.be_rules.specs.Rules.{IsSound}
use Rattle.be_rules.specs.Slices.{Slice, buffer_in, link_in, looper_in, port_in, state_of}
use Rattle.be_script.specs.Script.{Declared}
use Rattle.be_asking.specs.Finding.{IsInHand, IsMissing}

-- in each sound list with these parts the test of the state has this value
abbrev pub Tells : Declared → List (ℕ × Part) → (State → Bool) → Bool → Type 0
Tells d parts test b =
    (all : List Slice) → IsSound d all → Fits all (meant meaning_of parts)
    → test (state_of d all) ≡ b

-- a part of the script belongs at this place, and isn't in hand
pub record IsLost (d : Declared) (parts : List (ℕ × Part)) (place : ℕ) : Type 0 where
  pub of : part.Part
  pub there : IsPart d of
  pub missing : IsMissing d parts of place

abbrev pub HasApps : Declared → List (ℕ × Part) → Type 0
HasApps d parts = (m : ℕ) → m < length d.apps → IsInHand d parts (part.cell m)

-- the parts of window w are in hand
pub record HasWindow (d : Declared) (parts : List (ℕ × Part)) (w : ℕ) : Type 0 where
  pub looper : IsInHand d parts (part.looper w)
  pub port : IsInHand d parts (part.port w)
  pub link : IsInHand d parts (part.link w)
  pub pane : IsInHand d parts (part.pane w)

abbrev pub HasWindows : Declared → List (ℕ × Part) → Type 0
HasWindows d parts = (w : ℕ) → w < length d.windows → HasWindow d parts w

-- all parts are in hand
abbrev pub HasAll : Declared → List (ℕ × Part) → Type 0
HasAll d parts = (x : part.Part) → IsPart d x → IsInHand d parts x

-- it passes the test, or isn't there
abbrev pub passes : {X : Type 0} → (X → Bool) → Option X → Bool
passes test o = option_map_or test o true

-- nobody has the looper, and nothing is in its buffer
abbrev pub is_idle : Slice → Bool
is_idle slice = passes is_free (looper_in slice) && passes is_flushed (buffer_in slice)

-- no letter waits
abbrev pub is_empty_port : Slice → Bool
is_empty_port slice = passes (λ p. length (queue_of p) == 0) (port_in slice)

-- no command waits
abbrev pub is_empty_link : Slice → Bool
is_empty_link slice = passes (λ link. length link == 0) (link_in slice)

-- nobody has window w's looper, and nothing of the window is on its way
abbrev pub is_quiet : ℕ → State → Bool
is_quiet w s =
    (passes is_free (slice_get s.loopers w) && passes is_flushed (slice_get s.buffers w))
    && passes (λ p. length (queue_of p) == 0) (slice_get s.ports w)
    && passes (λ link. length link == 0) (slice_get s.links w)
    && not (owes_notice s w)

-- nothing is left to do, and the run goes on
abbrev pub can_stop : Declared → State → Bool
can_stop d s = not s.stopped && all_done d s && all_quiet s
