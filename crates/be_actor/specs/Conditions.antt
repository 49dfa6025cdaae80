-- What a call for the next wish asks of its program, its place and the current message (this
-- project's own).
use Rattle.std.specs.Prelude.{◌≡◌, ℕ, ◌≤◌, ◌==◌, Bool, true, false, ◌&&◌, ◌||◌, nat_le, List}
use Rattle.std.specs.Prelude.{length, Option, Some, None, slice_get}
use Rattle.std.specs.List.{list_all, list_any}
use Rattle.std.specs.Option.{IfSome, IsSomeAnd, option_and_then}
use Rattle.be_message.specs.Depths.{depth_of}
use Rattle.be_message.specs.Messages.{Message}
use Rattle.be_actor.specs.declared.Instruction.{Instruction}
use Rattle.be_actor.specs.declared.Instruction.TheVariants as instruction
use Rattle.be_actor.specs.declared.Place.{Place}
use Rattle.be_actor.specs.Drafts.{DraftWords, Word, value, current, copied}
use Rattle.be_actor.specs.Limits.{is_word, all_go_together}

-- ---- drafts

-- the words can stand in one line of a handler's body, where there is a current message
abbrev pub keeps_fields : DraftWords → Bool
keeps_fields draft =
    nat_le (length draft.words) 255 && list_all (is_word true) draft.words
    && all_go_together draft.words

-- the draft of the message that an instruction makes
abbrev pub draft_of : Instruction → Option DraftWords
draft_of (instruction.Note text) = None
draft_of (instruction.Post w target draft) = Some draft
draft_of (instruction.Send w target draft) = Some draft
draft_of (instruction.Reply draft) = Some draft
draft_of (instruction.Forward w target) = None
draft_of (instruction.Lock w) = None
draft_of instruction.Unlock = None
draft_of instruction.Flush = None
draft_of instruction.Sync = None
draft_of (instruction.Draw command) = None

abbrev pub is_kept : Option DraftWords → Bool
is_kept (Some draft) = keeps_fields draft
is_kept None = true

-- each draft of the program keeps its rules
abbrev pub are_kept : List Instruction → Bool
are_kept program = list_all (λ at. is_kept (draft_of at)) program

-- ---- the current message

-- the word takes from the current message
abbrev pub takes_current : Word → Bool
takes_current (value name datum) = false
takes_current (current name) = true
takes_current (copied name) = true

-- Where a word takes from the current message, there is one. It lies at most 15 deep, so that it
-- can lie in another.
abbrev pub HasCurrent : List Word → Option Message → Type 0
HasCurrent words now = list_any takes_current words ≡ true → IsSomeAnd now (λ m. depth_of m ≤ 15)

abbrev pub HasCurrentAt : Option Instruction → Option Message → Type 0
HasCurrentAt at now = IfSome (option_and_then draft_of at) (λ draft. HasCurrent draft.words now)

-- ---- places

-- a flush and what waits for it, or a message and its reply
abbrev pub has_two_parts : Instruction → Bool
has_two_parts (instruction.Note text) = false
has_two_parts (instruction.Post w target draft) = false
has_two_parts (instruction.Send w target draft) = true
has_two_parts (instruction.Reply draft) = false
has_two_parts (instruction.Forward w target) = false
has_two_parts (instruction.Lock w) = false
has_two_parts instruction.Unlock = false
has_two_parts instruction.Flush = false
has_two_parts instruction.Sync = true
has_two_parts (instruction.Draw command) = false

abbrev pub is_second_part : ℕ → Option Instruction → Bool
is_second_part part (Some at) = part == 1 && has_two_parts at
is_second_part part None = false

-- at an instruction or at the end, in the first part or in the second of an instruction that has
-- two
abbrev pub is_place : List Instruction → Place → Bool
is_place program place =
    nat_le place.step (length program)
    && (place.part == 0 || is_second_part place.part (slice_get program place.step))
