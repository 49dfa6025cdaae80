-- What a run comes to (this project's own).
use Rattle.std.specs.Prelude.{ℕ, ◌+◌, Bool, true, false, List, [], ◌∷◌, ◌++◌, length, count_by}
use Rattle.std.specs.Prelude.{codes, if◌then◌else◌}
use Rattle.std.specs.List.{list_any}
use Rattle.be_color.specs.declared.colors.Rgb.{Rgb}
use Rattle.be_machine.specs.declared.Act.{Act}
use Rattle.be_machine.specs.declared.Act.TheVariants as act
use Rattle.be_machine.specs.declared.Entry.{Entry}
use Rattle.be_span.specs.declared.Cell.{Cell}
use Rattle.be_summary.specs.Counts.{count_line}
use Rattle.be_written.specs.ScreenText.{same_rgb}

-- ---- entries

-- a twin executed a command
abbrev pub is_exec : Act → Bool
is_exec (act.Exec n outcome) = true
is_exec (act.Take n) = false
is_exec (act.Post w answer) = false
is_exec (act.Note word) = false
is_exec (act.Reply answer) = false
is_exec (act.Claim answer) = false
is_exec (act.Lock w) = false
is_exec (act.Unlock w) = false
is_exec (act.Draw w n) = false
is_exec (act.Flush w count) = false
is_exec (act.SyncDone w) = false
is_exec (act.Notify n) = false
is_exec (act.Begin opens) = false
is_exec (act.Event k first second) = false
is_exec (act.End answer) = false
is_exec act.Stop = false

-- a looper took a letter from its port
abbrev pub is_take : Act → Bool
is_take (act.Take n) = true
is_take (act.Exec n outcome) = false
is_take (act.Post w answer) = false
is_take (act.Note word) = false
is_take (act.Reply answer) = false
is_take (act.Claim answer) = false
is_take (act.Lock w) = false
is_take (act.Unlock w) = false
is_take (act.Draw w n) = false
is_take (act.Flush w count) = false
is_take (act.SyncDone w) = false
is_take (act.Notify n) = false
is_take (act.Begin opens) = false
is_take (act.Event k first second) = false
is_take (act.End answer) = false
is_take act.Stop = false

-- ---- colours

-- the cell shows this colour
abbrev pub has_color : Rgb → Cell → Bool
has_color rgb cell = same_rgb cell.rgb rgb

-- how many different colours there are: each counts where it stands last
unfoldable pub color_count : List Cell → ℕ
color_count [] = 0
color_count (c ∷ cs) =
    if list_any (has_color c.rgb) cs then color_count cs else color_count cs + 1

-- ---- the five lines

-- the entries of a history, those that executed a command, those that took a letter, the pixels
-- that no window owns, and the colours of the screen's cells
abbrev pub summary : List Entry → ℕ → List Cell → List ℕ
summary h desktop cells =
    count_line (codes "entries") (length h)
    ++ count_line (codes "execs") (count_by (λ e. is_exec e.act) h)
    ++ count_line (codes "takes") (count_by (λ e. is_take e.act) h)
    ++ count_line (codes "desktop") desktop
    ++ count_line (codes "colors") (color_count cells)
