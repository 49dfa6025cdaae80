-- A letter that is posted by an event of the input.
use Rattle.std.specs.Prelude.{◌≡◌, ◌+◌, ◌<◌, ℕ, false, List, length, Option, Some, None}
use Rattle.be_changes.specs.declared.events.Addressed.{Addressed}
use Rattle.be_hall.specs.Hands.{Hand, part_at}
use Rattle.be_machine.specs.Touched as part
use Rattle.be_message.specs.Messages.{Message}
use Rattle.be_parts.specs.Parts.{hand_with, meaning_of}
use Rattle.be_parts.specs.Ports.{HasPosted}
use Rattle.be_parts.specs.declared.part.Part.{Part}
use Rattle.be_parts.specs.declared.part.Part.TheVariants as kinds
use Rattle.be_port.specs.Ports.{Letter, Port}
use Rattle.be_port.specs.StandsFor.{Carries}
use Rattle.be_port.specs.declared.letter.Letter as held
use Rattle.be_rules.specs.Places.{place_of}
use Rattle.be_rules.specs.Slices.{Slice, port}
use Rattle.be_script.specs.Script.{Declared}

-- the port of window w is in hand, with room to count so many letters more
pub record IsOpenTo (d : Declared) (parts : List (ℕ × Part)) (w more : ℕ) : Type 0 where
  pub kept : Part
  pub there : part_at parts (place_of d (part.port w)) ≡ Some kept
  pub of : Port Message
  pub means : meaning_of kept ≡ port w (Some of)
  pub few : length of.arrived + more < 18446744073709551616

-- the letter carries an ordinary one of the machine's
abbrev pub IsOrdinary : held.Letter → Type 0
IsOrdinary letter = (means : Letter Message) × Carries letter means × (means.notice ≡ false)

-- the letter, where there is one, can be posted
abbrev pub MayPost : Declared → List (ℕ × Part) → ℕ → Option Addressed → Type 0
MayPost d parts more (Some post) = IsOpenTo d parts post.window more × IsOrdinary post.letter
MayPost d parts more None = Unit {0}

-- it was posted, and all else is as it was
abbrev pub HasPostedTo : Declared → Option Addressed → Hand Part → Hand Part → Type 0
HasPostedTo d (Some post) old new =
    (was is : Slice)
    × (part_at old.parts (place_of d (part.port post.window)) ≡ Some (kinds.Port was))
    × (new ≡ hand_with old (place_of d (part.port post.window)) (kinds.Port is))
    × HasPosted post.letter was is
HasPostedTo d None old new = new ≡ old
