-- Drawing states that draw alike: the machine keeps a clip's rectangles as they were said, and the
-- server the set of their pixels (this project's own).
use Rattle.std.specs.Prelude.{◌≡◌, List, [], ◌∷◌, Option, Some, None}
use Rattle.be_geom.specs.declared.rect.Rect.{Rect}
use Rattle.be_region.specs.Regions.{SamePixels}
use Rattle.be_state.specs.Stacks.{Layer, Stack}

-- clips of the same pixels; where there is no clip there is none
abbrev pub SameClip : Option (List Rect) → Option (List Rect) → Type 0
SameClip (Some a) (Some b) = SamePixels a b
SameClip (Some a) None = ⊥
SameClip None (Some b) = ⊥
SameClip None None = Unit {0}

-- the same state, with such clips
pub record SameLayer (a b : Layer) : Type 0 where
  pub state : a.state ≡ b.state
  pub clip : SameClip a.clip b.clip

-- as many layers, one by one the same
abbrev pub SameLayers : List Layer → List Layer → Type 0
SameLayers [] [] = Unit {0}
SameLayers [] (b ∷ ys) = ⊥
SameLayers (a ∷ xs) [] = ⊥
SameLayers (a ∷ xs) (b ∷ ys) = SameLayer a b × SameLayers xs ys

-- what is in force is the same, and what is saved
pub record SameStack (a b : Stack) : Type 0 where
  pub top : SameLayer a.top b.top
  pub saved : SameLayers a.saved b.saved

-- as many views, each with the same drawing states
abbrev pub SameStacks : List Stack → List Stack → Type 0
SameStacks [] [] = Unit {0}
SameStacks [] (b ∷ ys) = ⊥
SameStacks (a ∷ xs) [] = ⊥
SameStacks (a ∷ xs) (b ∷ ys) = SameStack a b × SameStacks xs ys
