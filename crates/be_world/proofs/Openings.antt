-- The parts of the opening fit the start of a run.
use Rattle.std.proofs.Common.{◌≡◌, ℕ, zero, suc, ◌<◌, ◌≤◌, false, List, [], ◌∷◌, length, map}
use Rattle.std.proofs.Common.{replicate, sym, ap, ◌∙◌, subst, arith}
use Rattle.std.proofs.lemmas.List.{length-map}
use Rattle.std.specs.Prelude.{slice_get}
use Rattle.be_hall.specs.Machine.{AllFit}
use Rattle.be_link.specs.Queues.{empty_buffer}
use Rattle.be_machine.specs.History.{AreLegalFrom, state_from}
use Rattle.be_machine.specs.State.{State, opening_state}
use Rattle.be_machine.specs.Touched.{Part}
use Rattle.be_machine.specs.Touched as part
use Rattle.be_hall.specs.Numbers.{total}
use Rattle.be_parts.specs.Parts.{meaning_of}
use Rattle.be_parts.specs.declared.part.Part as held
use Rattle.be_port.specs.Ports.{empty_port}
use Rattle.be_rules.proofs.Cut.{IsWhole, put_together}
use Rattle.be_rules.proofs.Lawfully.{whole_after}
use Rattle.be_rules.specs.Rules.{BufferFits, PortFits, SliceFits}
use Rattle.be_rules.specs.Shares.{share}
use Rattle.be_rules.specs.Slices.{Slice, all_parts, slice_of, slices}
use Rattle.be_script.specs.Limits.{IsWithinLimits}
use Rattle.be_script.specs.Script.{Declared}
use Rattle.be_script.specs.Work.{work_of}
use Rattle.be_script.specs.declared.WindowLine.{WindowLine}
use Rattle.be_world.specs.Turns.{has_stopped}
use Rattle.be_world.proofs.Places.{many_parts}

buffer_fits : (n w : ℕ) → BufferFits 0 (slice_get (replicate n empty_buffer) w)
buffer_fits zero w = tt
buffer_fits (suc n) zero = omega arith
buffer_fits (suc n) (suc w) = buffer_fits n w

port_fits : (lines : List WindowLine) (w : ℕ)
    → PortFits 0 (slice_get (map (λ line. empty_port line.port) lines) w)
port_fits [] w = tt
port_fits (line ∷ lines) zero = omega arith
port_fits (line ∷ lines) (suc w) = port_fits lines w

fits : (d : Declared) (x : Part) → SliceFits 0 (slice_of (opening_state d) x)
unfolding opening_state
fits d part.desk = tt
fits d part.input = omega arith
fits d (part.cell m) = tt
fits d (part.looper w) = buffer_fits (length d.windows) w
fits d (part.port w) = port_fits d.windows w
fits d (part.link w) = tt
fits d (part.pane w) = tt

all_fit : (d : Declared) (xs : List Part) → AllFit SliceFits 0 (map (slice_of (opening_state d)) xs)
all_fit d [] = tt
all_fit d (x ∷ xs) = (fits d x, all_fit d xs)

pub opening_fits : (d : Declared) → AllFit SliceFits 0 (slices d (opening_state d))
opening_fits d = all_fit d (all_parts d)

whole_first : (d : Declared) → IsWithinLimits d → IsWhole d (opening_state d)
unfolding state_from AreLegalFrom
whole_first d limits = whole_after d [] limits tt

-- ---- by what they mean

module _ (d : Declared) (limits : IsWithinLimits d) (parts : List held.Part)
    (mean : map meaning_of parts ≡ slices d (opening_state d)) where
  pub few : length parts < 4294967296
  few =
      let counts = limits.counts in
      let many : length parts ≡ length (all_parts d) = sym (length-map parts meaning_of)
      ∙ ap length mean ∙ length-map (all_parts d) (slice_of (opening_state d)) in
      omega (arith, many_parts d)

  pub within_work : total (share d) (slices d (opening_state d)) ≤ work_of d
      → total (share d) (map meaning_of parts) ≤ work_of d
  within_work le = subst (λ (l : List Slice). total (share d) l ≤ work_of d) (sym mean) le

  pub fit : AllFit SliceFits 0 (map meaning_of parts)
  fit = subst (AllFit SliceFits 0) (sym mean) (opening_fits d)

  -- the run goes on
  pub unclosed : has_stopped d (map meaning_of parts) ≡ false
  unfolding opening_state
  unclosed = ap (has_stopped d) mean
      ∙ ap (λ (s : State). s.stopped) (put_together d (opening_state d) (whole_first d limits))
