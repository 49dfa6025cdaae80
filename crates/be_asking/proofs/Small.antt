-- The counts of a part in hand are small.
use Rattle.std.proofs.Common.{◌≡◌, ℕ, ◌*◌, ◌≤◌, Bool, true, false, List, [], ◌∷◌, Option, Some, None, length, subst, arith}
use Rattle.std.specs.Prelude.{◌==◌, option_map, if◌then◌else◌}
use Rattle.std.proofs.lemmas.Option.{same_Some}
use Rattle.be_hall.specs.Hands.{meant, part_at}
use Rattle.be_hall.specs.Machine.{HeldFit}
use Rattle.be_link.specs.Queues.{Buffer}
use Rattle.be_parts.specs.Parts.{meaning_of}
use Rattle.be_parts.specs.declared.part.Part.{Part}
use Rattle.be_port.specs.Queues.{Queue}
use Rattle.be_rules.specs.Rules.{SliceFits}
use Rattle.be_rules.specs.Slices.{Slice, desk, input, cell, looper, port, link, pane, buffer_in, input_in}
use Rattle.be_parts.specs.Stands.{PortIs}

small_by : (n : ℕ) (b : Bool) (x y : Part) (rest : Option Part) → (if b then Some x else rest) ≡ Some y → SliceFits n (meaning_of x) → (rest ≡ Some y → SliceFits n (meaning_of y)) → SliceFits n (meaning_of y)
small_by n true x y rest e first later = subst (λ (o : Option Part). Fits o) e first
  where
    Fits : Option Part → Type 0
    Fits (Some z) = SliceFits n (meaning_of z)
    Fits None = Unit {0}
small_by n false x y rest e first later = later e

pub small : (n : ℕ) (parts : List (ℕ × Part)) (p : ℕ) (y : Part) → HeldFit SliceFits n (meant meaning_of parts) → part_at parts p ≡ Some y → SliceFits n (meaning_of y)
small n [] p y fits e = absurd (cc)
small n (x ∷ xs) p y fits e = small_by n (x.0 == p) x.1 y (part_at xs p) e fits.0 (λ later. small n xs p y fits.1 later)

-- of a buffer
pub small_buffer : (n : ℕ) (slice : Slice) (b : Buffer) → SliceFits n slice → buffer_in slice ≡ Some b → b.made ≤ n
small_buffer n (looper w l (Some c)) b fits e = subst (λ (o : Option Buffer). Made o) e fits
  where
    Made : Option Buffer → Type 0
    Made (Some z) = z.made ≤ n
    Made None = Unit {0}
small_buffer n (looper w l None) b fits e = absurd (cc)
small_buffer n (desk x) b fits e = absurd (cc)
small_buffer n (input k f) b fits e = absurd (cc)
small_buffer n (cell m a) b fits e = absurd (cc)
small_buffer n (port w p) b fits e = absurd (cc)
small_buffer n (link w l) b fits e = absurd (cc)
small_buffer n (pane w p) b fits e = absurd (cc)

-- of a port
pub small_port : (n : ℕ) (slice : Slice) (q : Queue) → SliceFits n slice → PortIs slice q → q.last ≤ 2 * n
small_port n (port w (Some p)) q fits stands = let last : q.last ≡ length p.arrived = stands.last in let few : length p.arrived ≤ 2 * n = fits in omega arith
small_port n (port w None) q fits stands = absurd stands
small_port n (desk x) q fits stands = absurd stands
small_port n (input k f) q fits stands = absurd stands
small_port n (cell m a) q fits stands = absurd stands
small_port n (looper w l b) q fits stands = absurd stands
small_port n (link w l) q fits stands = absurd stands
small_port n (pane w p) q fits stands = absurd stands

-- of the input
pub small_events : (n : ℕ) (slice : Slice) (k : ℕ) → SliceFits n slice → option_map (λ (known : ℕ × Bool). known.0) (input_in slice) ≡ Some k → k ≤ n
small_events n (input used b) k fits e = subst (λ j. j ≤ n) (same_Some used k e) fits
small_events n (desk x) k fits e = absurd (cc)
small_events n (cell m a) k fits e = absurd (cc)
small_events n (looper w l b) k fits e = absurd (cc)
small_events n (port w p) k fits e = absurd (cc)
small_events n (link w l) k fits e = absurd (cc)
small_events n (pane w p) k fits e = absurd (cc)
