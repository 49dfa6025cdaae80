-- What a twin may execute: the oldest command in its window's link.
use Rattle.std.specs.Prelude.{◌≡◌, ℕ, List, Some, slice_get}
use Rattle.be_bitmap.specs.Pictures.{Picture}
use Rattle.be_command.specs.declared.Command.{Command}
use Rattle.be_command.specs.declared.Command.TheVariants.{Change}
use Rattle.be_command.specs.Effects.{Effect, at_view, draws, pictured}
use Rattle.be_geom.specs.declared.point.Point.{Point}
use Rattle.be_hall.specs.Hands.{meant, part_at}
use Rattle.be_link.specs.Queues.{numbered}
use Rattle.be_machine.specs.Touched as part
use Rattle.be_parts.specs.Links.{front_of}
use Rattle.be_parts.specs.Parts.{meaning_of}
use Rattle.be_parts.specs.declared.part.Part.{Part}
use Rattle.be_parts.specs.declared.part.Part.TheVariants.{Link}
use Rattle.be_rules.specs.Places.{place_of}
use Rattle.be_rules.specs.Slices.{Slice}
use Rattle.be_script.specs.Script.{Declared}
use Rattle.be_asking.specs.Deeds.{IsAnswer}
use Rattle.be_asking.specs.declared.executing.Execution.{Execution}
use Rattle.be_asking.specs.declared.executing.Execution.TheVariants.{Answered, Changes}

-- the window's link is in hand, and this is its oldest command, with its number
pub record IsOldest
    (d : Declared) (parts : List (ℕ × Part)) (w n : ℕ) (command : Command)
    : Type 0 where
  pub link : Slice
  pub there : part_at parts (place_of d (part.link w)) ≡ Some (Link link)
  pub oldest : front_of link ≡ Some (numbered (n, command))

-- the bitmap that is drawn, where one is, is there
abbrev pub HasPicture : List Picture → Effect → Type 0
HasPicture pictures effect =
    (v b : ℕ) (at : Point) → effect ≡ at_view v (draws (pictured b at))
    → (picture : Picture) × (slice_get pictures b ≡ Some picture)

-- what is answered, or the change of the window that is to be executed
abbrev pub IsExecution : Declared → List (ℕ × Part) → ℕ → ℕ → Execution → Type 0
IsExecution d parts a w (Answered answer) = IsAnswer d (meant meaning_of parts) a answer
IsExecution d parts a w (Changes n change) = IsOldest d parts w n (Change change.now)
