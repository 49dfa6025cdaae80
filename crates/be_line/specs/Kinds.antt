-- What a word says by itself, as of each kind (the language is this project's own).
use Rattle.std.specs.Prelude.{ℕ, zero, suc, Bool, ◌||◌, nat_le, nat_lt, if◌then◌else◌, List, []}
use Rattle.std.specs.Prelude.{◌∷◌, drop, take, length, Option, Some, None, Result, Ok, Err, codes}
use Rattle.std.specs.Prelude.{option_map}
use Rattle.std.specs.Option.{option_and_then}
use Rattle.std.specs.Str.{bytes_eq}
use Rattle.be_color.specs.declared.colors.Color.{Color}
use Rattle.be_color.specs.declared.colors.Color.TheVariants.{Solid}
use Rattle.be_command.specs.declared.fault.Reason.{Reason}
use Rattle.be_command.specs.declared.fault.Reason.TheVariants.{Shape, NameTaken}
use Rattle.be_command.specs.Faults.{rank_of}
use Rattle.be_command.specs.Kinds.{formed}
use Rattle.be_follow.specs.declared.mode.Across.{Across}
use Rattle.be_follow.specs.declared.mode.Across.TheVariants as across
use Rattle.be_follow.specs.declared.mode.Down.{Down}
use Rattle.be_follow.specs.declared.mode.Down.TheVariants as down
use Rattle.be_lex.specs.Codes.{code_of, is_reserved_code}
use Rattle.be_lex.specs.Colors.{color_of, pixel_of}
use Rattle.be_lex.specs.Names.{is_name, is_reserved_name}
use Rattle.be_lex.specs.Words.{is_empty}

-- ---- reasons

-- of two reasons the one that is looked for first
abbrev pub first_of : Reason → Reason → Reason
first_of one other = if nat_lt (rank_of other) (rank_of one) then other else one

-- what a part says, as something else
abbrev pub said_as : {A B : Type 0} → (A → B) → Result A Reason → Result B Reason
said_as f (Ok a) = Ok (f a)
said_as f (Err reason) = Err reason

-- ---- words

-- a name that may be there already: none of the four that mean something everywhere
abbrev pub new_named : Bool → List ℕ → Result (List ℕ) Reason
new_named is_there word =
    if is_name word then (if is_reserved_name word || is_there then Err NameTaken else Ok word)
    else Err Shape

-- how a view follows its parent's sides (The Be Book: B_FOLLOW_LEFT and the others; B_FOLLOW_NONE
-- is left and top)
abbrev pub across_words : List (List ℕ × Across)
across_words =
    (codes "left", across.Left)
    ∷ (codes "right", across.Right)
    ∷ (codes "leftright", across.LeftRight)
    ∷ (codes "hcenter", across.Center)
    ∷ (codes "none", across.Left)
    ∷ []

abbrev pub down_words : List (List ℕ × Down)
down_words =
    (codes "top", down.Top)
    ∷ (codes "bottom", down.Bottom)
    ∷ (codes "topbottom", down.TopBottom)
    ∷ (codes "vcenter", down.Center)
    ∷ (codes "none", down.Top)
    ∷ []

-- four letters, and none of the words that the server alone sends
abbrev free_code : ℕ → Result ℕ Reason
free_code code = if is_reserved_code code then Err Shape else Ok code

abbrev free_or_missing : Option ℕ → Result ℕ Reason
free_or_missing (Some code) = free_code code
free_or_missing None = Err Shape

abbrev pub what_said : List ℕ → Result ℕ Reason
what_said word = free_or_missing (code_of word)

-- every word, or one, those of the server among them
abbrev pub filter_what_said : List ℕ → Result (Option ℕ) Reason
filter_what_said word =
    if bytes_eq word (codes "*") then Ok None else said_as Some (formed (code_of word))

-- at most 32 bytes
abbrev pub note_said : List ℕ → Result (List ℕ) Reason
note_said word = if nat_le (length word) 32 then Ok word else Err Shape

-- so many colours of six characters each, and nothing behind them
abbrev pub pixels_in : ℕ → List ℕ → Option (List Color)
pixels_in zero word = if is_empty word then Some [] else None
pixels_in (suc count) word =
    option_and_then (λ color. option_map (λ colors. color ∷ colors) (pixels_in count (drop 6 word)))
    (pixel_of (take 6 word))

-- a last word, or white
abbrev pub color_or_white : Option (List ℕ) → Result Color Reason
color_or_white (Some word) = formed (color_of word)
color_or_white None = Ok (Solid (record { red = 255; green = 255; blue = 255 }))
