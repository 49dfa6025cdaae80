-- The script that is made of a number (this project's own).
use Rattle.std.specs.Prelude.{ℕ, zero, suc, ◌+◌, ◌-ℤ◌, pos, ◌/◌, ◌%◌, ◌++◌, List, [], ◌∷◌, codes}
use Rattle.std.specs.Fmt.{decimal, signed_decimal}
use Rattle.be_lex.specs.Hex.{hex_text}
use Rattle.be_made.specs.Drawing.{Drawn, draw, ◌>>-◌, always, texts_from}
use Rattle.be_written.specs.Lines.{line_of}

-- ---- words

abbrev pub name : List ℕ → ℕ → List ℕ
name letter i = letter ++ decimal i

-- three bytes in base 16
abbrev pub color_word : ℕ → List ℕ
color_word c = hex_text (c / 65536 ∷ c / 256 % 256 ∷ c % 256 ∷ [])

-- from -20 to 20
abbrev pub step_word : ℕ → List ℕ
step_word n = signed_decimal (pos n -ℤ pos 20)

-- ---- windows

-- of any place, size and colour
abbrev pub window_text : ℕ → Drawn (List ℕ)
window_text i =
    draw 400 >>- λ l. draw 300 >>- λ t. draw 200 >>- λ w. draw 150 >>- λ h.
    draw 16777216 >>- λ c.
    always
    (line_of (codes "window" ∷ name (codes "w") i ∷ decimal l ∷ decimal t
    ∷ decimal (l + (w + 20)) ∷ decimal (t + (h + 20)) ∷ (codes "color=" ++ color_word c) ∷ []))

-- a Draw body that fills a corner
abbrev pub body_text : ℕ → Drawn (List ℕ)
body_text i =
    draw 20 >>- λ p. draw 20 >>- λ q.
    always
    (line_of (codes "draw" ∷ name (codes "w") i ∷ codes "root" ∷ [])
    ++ line_of (codes "fill" ∷ codes "root" ∷ codes "4" ∷ codes "4" ∷ decimal (p + 4)
    ∷ decimal (q + 4) ∷ codes "mixed" ∷ [])
    ++ line_of (codes "end" ∷ []))

-- ---- applications

abbrev pub move_words : Drawn (List (List ℕ))
move_words =
    draw 41 >>- λ dx. draw 41 >>- λ dy.
    always (codes "moveby" ∷ step_word dx ∷ step_word dy ∷ [])

abbrev pub fill_words : Drawn (List (List ℕ))
fill_words =
    draw 100 >>- λ p. draw 80 >>- λ q.
    always
    (codes "fill" ∷ codes "root" ∷ decimal p ∷ decimal q ∷ decimal (p + 30) ∷ decimal (q + 20)
    ∷ codes "high" ∷ [])

abbrev pub color_words : Drawn (List (List ℕ))
color_words = draw 16777216 >>- λ c. always (codes "high" ∷ codes "root" ∷ color_word c ∷ [])

-- one of five commands
unfoldable pub command_words : ℕ → Drawn (List (List ℕ))
command_words zero = always (codes "show" ∷ [])
command_words (suc zero) = move_words
command_words (suc (suc zero)) = fill_words
command_words (suc (suc (suc zero))) = always (codes "activate" ∷ [])
command_words (suc (suc (suc (suc n)))) = color_words

-- in a line
abbrev pub command_text : ℕ → Drawn (List ℕ)
command_text j = command_words j >>- λ words. always (line_of words)

-- a command for one of the windows, under its lock
abbrev pub locked_text : ℕ → Drawn (List ℕ)
locked_text i =
    draw 8 >>- λ w. draw 5 >>- λ j. command_text j >>- λ command.
    always
    (line_of (codes "lock" ∷ name (codes "w") w ∷ []) ++ command
    ++ line_of (codes "unlock" ∷ []))

abbrev pub app_text : ℕ → Drawn (List ℕ)
app_text j =
    texts_from locked_text 0 40 >>- λ steps.
    always
    (line_of (codes "app" ∷ name (codes "a") j ∷ []) ++ steps ++ line_of (codes "end" ∷ []))

-- ---- input

abbrev pub press_text : ℕ → Drawn (List ℕ)
press_text i =
    draw 640 >>- λ x. draw 480 >>- λ y.
    always (line_of (codes "press" ∷ decimal x ∷ decimal y ∷ []))

-- ---- the script

-- eight windows with a Draw body each, four applications and twenty presses
abbrev pub script_text : Drawn (List ℕ)
script_text =
    texts_from window_text 0 8 >>- λ windows. texts_from body_text 0 8 >>- λ bodies.
    texts_from app_text 0 4 >>- λ apps. texts_from press_text 0 20 >>- λ presses.
    always
    (line_of (codes "screen" ∷ codes "640" ∷ codes "480" ∷ []) ++ windows ++ bodies ++ apps
    ++ presses)

-- the number is the first from which others are drawn
unfoldable pub made : ℕ → List ℕ
made n = (script_text n).0
