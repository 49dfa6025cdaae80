-- The wishes of an instruction one after another: each with what it asks for, from its first part
-- until the actor is at another instruction.
use Rattle.std.specs.Prelude.{◌≡◌, ◌↔◌, ◌<◌, ◌+◌, ℕ, ◌==◌, Bool, nat_le, List, [], ◌∷◌, Option}
use Rattle.std.specs.Prelude.{Some, slice_get, if◌then◌else◌}
use Rattle.be_message.specs.Messages.{Message}
use Rattle.be_actor.specs.declared.Instruction.{Instruction}
use Rattle.be_actor.specs.declared.Instruction.TheVariants as instruction
use Rattle.be_actor.specs.declared.Place.{Place}
use Rattle.be_actor.specs.declared.Wish.{Wish}
use Rattle.be_actor.specs.declared.Wish.TheVariants as wish
use Rattle.be_actor.specs.Drafts.{filled}
use Rattle.be_actor.specs.Wishes.{wish_of, place_after}

-- ---- the table

-- What an instruction asks for in turn, with the current message. A message that is sent is waited
-- for where it is accepted, an unlock hands over the commands of the buffer first, and so does a
-- command for which the buffer's 32 places have no room.
abbrev pub wishes_in_turn : Option Message → ℕ → Bool → Instruction → List Wish
wishes_in_turn now buffered accepted (instruction.Note text) = wish.Note text ∷ []
wishes_in_turn now buffered accepted (instruction.Post w target draft) =
    wish.Post w target (filled draft now) ∷ []
wishes_in_turn now buffered accepted (instruction.Send w target draft) =
    if accepted then wish.Send w target (filled draft now) ∷ wish.Claim ∷ []
    else wish.Send w target (filled draft now) ∷ []
wishes_in_turn now buffered accepted (instruction.Reply draft) = wish.Reply (filled draft now) ∷ []
wishes_in_turn now buffered accepted (instruction.Forward w target) = wish.Forward w target ∷ []
wishes_in_turn now buffered accepted (instruction.Lock w) = wish.Lock w ∷ []
wishes_in_turn now buffered accepted instruction.Unlock =
    if buffered == 0 then wish.Unlock ∷ [] else wish.Flush ∷ wish.Unlock ∷ []
wishes_in_turn now buffered accepted instruction.Flush = wish.Flush ∷ []
wishes_in_turn now buffered accepted instruction.Sync = wish.Flush ∷ wish.SyncDone ∷ []
wishes_in_turn now buffered accepted (instruction.Draw command) =
    if nat_le 32 buffered then wish.Flush ∷ wish.Draw command ∷ [] else wish.Draw command ∷ []

-- ---- the way through an instruction

-- how many commands are in the buffer once the actor got its wish: none after a flush
abbrev pub buffered_after : ℕ → Wish → ℕ
buffered_after buffered (wish.Note text) = buffered
buffered_after buffered (wish.Post w target message) = buffered
buffered_after buffered (wish.Send w target message) = buffered
buffered_after buffered (wish.Forward w target) = buffered
buffered_after buffered (wish.Reply message) = buffered
buffered_after buffered wish.Claim = buffered
buffered_after buffered (wish.Lock w) = buffered
buffered_after buffered wish.Unlock = buffered
buffered_after buffered wish.Flush = 0
buffered_after buffered wish.SyncDone = buffered
buffered_after buffered (wish.Draw command) = buffered + 1

-- Through an instruction, which is this step of the program: from this place an actor asks for
-- these wishes and gets each, all of them at the step, and it is past the step then, at that place.
abbrev pub AsksInTurn : List Instruction → ℕ → Instruction → Option Message → Bool → Place → ℕ
    → List Wish → Place → Type 0
AsksInTurn program step at now accepted place buffered [] last =
    (step < place.step) × (place ≡ last)
AsksInTurn program step at now accepted place buffered (w ∷ ws) last =
    (place.step ≡ step) × (wish_of program place now buffered ≡ Some w)
    × AsksInTurn program step at now accepted (place_after at place accepted w)
    (buffered_after buffered w) ws last

-- From the first part of an instruction an actor asks for the wishes of the table and for no
-- others, and they lead to the first part of the next one.
abbrev pub EachAsksInTurn : Type 0
EachAsksInTurn =
    (program : List Instruction) (step : ℕ) (at : Instruction) → slice_get program step ≡ Some at →
    (now : Option Message) (accepted : Bool) (buffered : ℕ) (wishes : List Wish) (last : Place) →
    AsksInTurn program step at now accepted (record { step = step; part = 0 }) buffered wishes last
    ↔ (wishes ≡ wishes_in_turn now buffered accepted at)
    × (last ≡ record { step = step + 1; part = 0 })
