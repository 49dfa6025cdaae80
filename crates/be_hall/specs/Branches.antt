-- How passes come of one another. Each but the first is split off one that lies a split less deep,
-- and a pass stands for itself and for those that were joined into it.
use Rattle.std.specs.Prelude.{ℕ, ◌+◌, ◌==◌, if◌then◌else◌, List, [], ◌∷◌}
use Rattle.be_hall.specs.declared.view.Branch.{Branch}
use Rattle.be_hall.specs.Numbers.{one_if, total}

abbrev pub branch : ℕ → ℕ → Branch
branch depth parted = record { depth = depth; parted = parted }

-- how many of the passes lie so deep
abbrev pub deep : ℕ → List Branch → ℕ
deep d bs = total (λ b. one_if b.depth d) bs

-- how many were split off those
abbrev pub split_off : ℕ → List Branch → ℕ
split_off d bs = total (λ b. if b.depth == d then b.parted else 0) bs

-- one more is split off the first of these
abbrev pub parting_branches : List Branch → List Branch
parting_branches [] = []
parting_branches (b ∷ bs) = branch b.depth (b.parted + 1) ∷ bs

-- and this is the new one
abbrev pub parted_branches : List Branch → List Branch
parted_branches [] = []
parted_branches (b ∷ bs) = branch (b.depth + 1) 0 ∷ []
