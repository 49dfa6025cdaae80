-- The points that are so far along a distance are those from the first to the last that are.
use Rattle.std.proofs.Common.{ℕ, ℤ, pos, zero, suc, ◌≤◌, ◌≤ℤ◌, ◌<ℤ◌, ◌↔◌, arith}
use Rattle.std.proofs.lemmas.Int.{ints, by_lt_z}
use Rattle.be_geom.proofs.Between.{is_between, is_below, is_above}
use Rattle.be_shape.specs.Rasters.{share}
use Rattle.be_shape.specs.Lines.{ArePointsWithin, HasNoPointWithin}
use Rattle.be_shape.proofs.ShareLemmas.{share_within, share_next}
use Rattle.be_shape.proofs.BetweenLemmas.{not_below, not_above}

abbrev pub IsFirstFrom : ℕ → ℕ → ℤ → ℕ → Type 0
IsFirstFrom n d nearest first = (i : ℕ) → i ≤ n → (nearest ≤ℤ pos (share i n d)) ↔ (first ≤ i)

abbrev pub IsLastTo : ℕ → ℕ → ℤ → ℕ → Type 0
IsLastTo n d farthest last = (i : ℕ) → i ≤ n → (pos (share i n d) ≤ℤ farthest) ↔ (i ≤ last)

-- a rounded distance passes no number, so the first point isn't behind the last
first_to_last : (n d : ℕ) (nearest farthest : ℤ) (first last : ℕ) → d ≤ n → nearest ≤ℤ farthest → pos 0 ≤ℤ farthest → nearest ≤ℤ pos d → IsFirstFrom n d nearest first → IsLastTo n d farthest last → first ≤ n → first ≤ last
first_to_last n d nearest farthest zero last near order ahead inside from to of_steps = omega arith
first_to_last n d nearest farthest (suc k) last near order ahead inside from to of_steps =
    by_lt_z (pos (share k n d)) nearest
    (λ before.
    let step = share_next k n d near in
    (to (suc k) of_steps).0 (omega (arith, ints)))
    (λ reached. let p = (from k (omega arith)).0 reached in omega arith)

pub points_from_to : (n d : ℕ) (nearest farthest : ℤ) (first last : ℕ) → d ≤ n → nearest ≤ℤ farthest → pos 0 ≤ℤ farthest → nearest ≤ℤ pos d → IsFirstFrom n d nearest first → IsLastTo n d farthest last → first ≤ n → last ≤ n → ArePointsWithin n d nearest farthest first last
points_from_to n d nearest farthest first last near order ahead inside from to of_steps of_steps' =
    record {
      ordered = first_to_last n d nearest farthest first last near order ahead inside from to of_steps;
      of_steps = of_steps';
      within =
          λ i h k. is_between nearest (pos (share i n d)) farthest ((from i (omega arith)).1 h) ((to i (omega arith)).1 k);
      others =
          λ i h b. ((from i h).0 (not_below nearest (pos (share i n d)) farthest b), (to i h).0 (not_above nearest (pos (share i n d)) farthest b));
    }

-- ---- no point

pub none_before : (n d : ℕ) (nearest farthest : ℤ) → farthest <ℤ pos 0 → HasNoPointWithin n d nearest farthest
none_before n d nearest farthest h i k = is_above nearest (pos (share i n d)) farthest (omega (arith, ints))

pub none_behind : (n d : ℕ) (nearest farthest : ℤ) → d ≤ n → pos d <ℤ nearest → HasNoPointWithin n d nearest farthest
none_behind n d nearest farthest near h i k =
    let w = share_within i n d k near in
    is_below nearest (pos (share i n d)) farthest (omega (arith, ints))
