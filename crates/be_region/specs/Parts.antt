-- Bands cut between rows (this project's own).
use Rattle.std.specs.Prelude.{◌≡◌, ℤ, ◌≤ℤ◌, ◌<ℤ◌, List, ◌++◌, All}
use Rattle.be_geom.specs.declared.rect.Rect.{Rect}

-- the bands that end above the first row, those that begin below the last one, and those between
pub record IsCut (rs : List Rect) (first last : ℤ) (above middle below : List Rect) : Type 0 where
  pub whole : rs ≡ above ++ (middle ++ below)
  pub above_first : All (λ r. r.bottom <ℤ first) above
  pub from_first : All (λ r. first ≤ℤ r.bottom) middle
  pub to_last : All (λ r. r.top ≤ℤ last) middle
  pub below_last : All (λ r. last <ℤ r.top) below
