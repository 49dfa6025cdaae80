-- Commands that go over from a buffer to a link.
use Rattle.std.specs.Prelude.{◌≡◌, ◌≤◌, ℕ, ◌+◌, List, ◌++◌, drop, length, take, Some}
use Rattle.be_hall.specs.Hands.{Hand, part_at}
use Rattle.be_link.specs.Queues.{Buffer, Numbered, emptied, lengthened}
use Rattle.be_parts.specs.Effects.{buffer_with, link_with}
use Rattle.be_parts.specs.Kept.{Kept}
use Rattle.be_parts.specs.Links.{commands_of}
use Rattle.be_parts.specs.Loopers.{buffer_of}
use Rattle.be_parts.specs.Parts.{hand_with}
use Rattle.be_parts.specs.declared.part.Part.{Part}
use Rattle.be_parts.specs.declared.part.Part.TheVariants.{Looper, Link}
use Rattle.be_rules.specs.Slices.{Slice}

-- the link at that place has room for the whole buffer of the looper at this place
abbrev pub HasRoom : ℕ → ℕ → List (ℕ × Part) → Type 0
HasRoom looper link parts =
    (k : Kept) (l : Slice) → part_at parts looper ≡ Some (Looper k)
    → part_at parts link ≡ Some (Link l)
    → length (buffer_of k.slice).commands + length (commands_of l) ≤ 256

-- without so many of its oldest commands
abbrev pub without_first : ℕ → Buffer → Buffer
without_first n b = record b { commands = drop n b.commands }

-- with so many of the buffer's oldest behind its own
abbrev pub with_first : ℕ → Buffer → List Numbered → List Numbered
with_first n b link = link ++ take n b.commands

-- so many commands of the looper at this place went over to the link at that place, oldest first
pub record HasMovedFirst (n looper link : ℕ) (old new : Hand Part) : Type 0 where
  pub was : Kept
  pub is : Kept
  pub before : Slice
  pub at_looper : part_at old.parts looper ≡ Some (Looper was)
  pub at_link : part_at old.parts link ≡ Some (Link before)
  pub buffer : is.slice ≡ buffer_with (without_first n) was.slice
  pub log : is.log ≡ was.log
  pub moved :
      new ≡ hand_with (hand_with old looper (Looper is)) link
      (Link (link_with (with_first n (buffer_of was.slice)) before))

-- all of them did
pub record HasMoved (looper link : ℕ) (old new : Hand Part) : Type 0 where
  pub was : Kept
  pub is : Kept
  pub before : Slice
  pub at_looper : part_at old.parts looper ≡ Some (Looper was)
  pub at_link : part_at old.parts link ≡ Some (Link before)
  pub buffer : is.slice ≡ buffer_with emptied was.slice
  pub log : is.log ≡ was.log
  pub moved :
      new ≡ hand_with (hand_with old looper (Looper is)) link
      (Link (link_with (lengthened (buffer_of was.slice)) before))
