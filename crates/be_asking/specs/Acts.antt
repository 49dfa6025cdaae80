-- An act by the parts that it reads.
use Rattle.std.specs.Prelude.{◌≡◌, ◌⊎◌, ◌≤◌, ℕ, ◌+◌, ◌==◌, Bool, true, false, List, length, Option}
use Rattle.std.specs.Prelude.{Some, None, if◌then◌else◌}
use Rattle.std.specs.Option.{option_map_or}
use Rattle.be_hall.specs.Hands.{meant}
use Rattle.be_hall.specs.Machine.{Fits}
use Rattle.be_link.specs.Queues.{Buffer, Numbered, fits, is_full}
use Rattle.be_machine.specs.declared.Act.{Act}
use Rattle.be_machine.specs.declared.Act.TheVariants as act
use Rattle.be_machine.specs.Program.{hop_of, window_of}
use Rattle.be_parts.specs.Loopers.{hand_of}
use Rattle.be_parts.specs.Parts.{meaning_of}
use Rattle.be_parts.specs.declared.part.Part.{Part}
use Rattle.be_rules.specs.Rules.{IsSound}
use Rattle.be_rules.specs.Slices.{Slice, state_of}
use Rattle.be_rules.specs.Sure.{in_hand, owned_window}
use Rattle.be_script.specs.Script.{Declared}
use Rattle.be_asking.specs.Wants.{runner_in}
use Rattle.be_asking.specs.declared.activity.Runner.{Runner}
use Rattle.be_asking.specs.declared.want.Request.{Request}
use Rattle.be_asking.specs.declared.want.Request.TheVariants.{Note, Post, Send, Forward, Reply}
use Rattle.be_asking.specs.declared.want.Request.TheVariants.{Claim, Lock, Unlock, Flush, SyncDone}
use Rattle.be_asking.specs.declared.want.Request.TheVariants.{Draw}

-- the whole buffer goes over, where the link has room for it
abbrev pub flush_by : ℕ → Buffer → List Numbered → Option Act
flush_by w b link = if fits b link then Some (act.Flush w (length b.commands)) else None

-- a command gets the window's next number, where the buffer has room
abbrev pub draw_by : ℕ → Buffer → Option Act
draw_by w b = if is_full b then None else Some (act.Draw w (b.made + 1))

-- the window's link is empty
abbrev pub sync_by : ℕ → List Numbered → Option Act
sync_by w link = if length link == 0 then Some (act.SyncDone w) else None

-- where an instruction posts
abbrev pub post_window : Request → Option ℕ
post_window (Post w target draft) = Some w
post_window (Send w target draft) = Some w
post_window (Forward w target) = Some w
post_window (Note text) = None
post_window (Reply draft) = None
post_window Claim = None
post_window (Lock w) = None
post_window Unlock = None
post_window Flush = None
post_window SyncDone = None
post_window (Draw command) = None

-- what an instruction asks of the window whose looper its runner owns
abbrev pub is_own : Request → Bool
is_own Unlock = true
is_own Flush = true
is_own SyncDone = true
is_own (Draw command) = true
is_own (Note text) = false
is_own (Post w target draft) = false
is_own (Send w target draft) = false
is_own (Forward w target) = false
is_own (Reply draft) = false
is_own Claim = false
is_own (Lock w) = false

-- the window whose looper the runner owns, seen in the parts in hand and in each sound list
abbrev pub OwnsWindow : Declared → List (ℕ × Part) → Runner → Option ℕ → Type 0
OwnsWindow d parts runner w =
    (owned_window (in_hand d (meant meaning_of parts)) (runner_in runner) ≡ w)
    × ((all : List Slice) → IsSound d all → Fits all (meant meaning_of parts)
    → window_of (state_of d all) (runner_in runner) ≡ w)

-- one hop behind the letter in the looper's hand, and none without one
abbrev pub hop_behind : Slice → ℕ
hop_behind slice = option_map_or (λ hand. hand.letter.hop + 1) (hand_of slice) 0

-- the same hop; from 8 on all are too deep, and told apart no more
abbrev pub IsSameHop : ℕ → ℕ → Type 0
IsSameHop hop other = (hop ≡ other) ⊎ ((8 ≤ hop) × (8 ≤ other))

-- that of the messages that a runner makes, in each sound list with these parts
abbrev pub HasHop : Declared → List (ℕ × Part) → Runner → ℕ → Type 0
HasHop d parts runner hop =
    (all : List Slice) → IsSound d all → Fits all (meant meaning_of parts)
    → IsSameHop hop (hop_of (state_of d all) (runner_in runner))
