-- What a picture may hold (The Be Book: BPicture; what is refused is this project's own).
use Rattle.std.specs.Prelude.{◌≡◌, ℕ, ◌+◌, ◌-◌, ◌==◌, ◌&&◌, Bool, nat_le, if◌then◌else◌, List}
use Rattle.std.specs.Prelude.{◌∷◌, ◌++◌, length, fold, Option, Some, None}
use Rattle.be_command.specs.declared.Command.{Command}
use Rattle.be_command.specs.Effects.{Deed, draws, sets, colors, saves, restores, copies}
use Rattle.be_command.specs.Effects.{invalidates, Effect, at_view, changes, ends_update, effect_of}
use Rattle.be_command.specs.Limits.{is_drawing}

-- ---- pushes

-- how many pushes are open after a deed, of so many before it
abbrev pub open_after : Deed → ℕ → ℕ
open_after saves pushes = pushes + 1
open_after restores pushes = pushes - 1
open_after (draws figure) pushes = pushes
open_after (sets setting) pushes = pushes
open_after (colors color) pushes = pushes
open_after (copies source target) pushes = pushes
open_after (invalidates r) pushes = pushes

abbrev pub open_by : Effect → ℕ → ℕ
open_by (at_view v deed) pushes = open_after deed pushes
open_by (changes change) pushes = pushes
open_by ends_update pushes = pushes

-- how many of the recorded pushes are open
unfoldable pub open_pushes : List Command → ℕ
open_pushes commands = fold (λ pushes c. open_by (effect_of c) pushes) 0 commands

-- ---- what is refused

-- why a command isn't recorded
pub data Refusal : Type 0 where
  not_drawing : Refusal
  unbalanced : Refusal
  too_deep : Refusal
  too_many : Refusal

-- a pop without an open push, and a push where 15 are open
abbrev pub push_refusal : Deed → ℕ → Option Refusal
push_refusal restores pushes = if pushes == 0 then Some unbalanced else None
push_refusal saves pushes = if nat_le 15 pushes then Some too_deep else None
push_refusal (draws figure) pushes = None
push_refusal (sets setting) pushes = None
push_refusal (colors color) pushes = None
push_refusal (copies source target) pushes = None
push_refusal (invalidates r) pushes = None

abbrev pub unless_too_many : ℕ → Option Refusal → Option Refusal
unless_too_many count (Some why) = Some why
unless_too_many count None = if nat_le 4096 count then Some too_many else None

abbrev pub effect_refusal : Bool → Effect → ℕ → ℕ → Option Refusal
effect_refusal draws_only (at_view v deed) pushes count =
    if draws_only && (v == 0) then unless_too_many count (push_refusal deed pushes)
    else Some not_drawing
effect_refusal draws_only (changes change) pushes count = Some not_drawing
effect_refusal draws_only ends_update pushes count = Some not_drawing

-- the first reason against recording a command behind these
unfoldable pub refusal : List Command → Command → Option Refusal
refusal commands c =
    effect_refusal (is_drawing c) (effect_of c) (open_pushes commands) (length commands)

-- each command was recorded behind those before it
abbrev pub IsRecorded : List Command → Type 0
IsRecorded commands =
    (before after : List Command) (c : Command) → commands ≡ before ++ c ∷ after
    → refusal before c ≡ None
