-- The text of what a picture draws (this project's own).
use Rattle.std.specs.Prelude.{ℕ, List, [], ◌∷◌, ◌++◌, codes}
use Rattle.be_command.specs.declared.Command.{Command}
use Rattle.be_picture.specs.Playing.{drawn}
use Rattle.be_written.specs.Lines.{line_of}
use Rattle.be_written.specs.ScreenText.{screen_text}

-- so many white pixels and what the picture draws on them, without bitmaps, as the report has a
-- screen; and a last line
abbrev pub picture_screen : List Command → ℕ → ℕ → List ℕ
picture_screen picture width height =
    screen_text width height (drawn picture width height []) ++ line_of (codes "end" ∷ [])
