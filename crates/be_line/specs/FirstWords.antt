-- What a line of a script begins with, and where such a line may stand (the language is this
-- project's own).
use Rattle.std.specs.Prelude.{ℕ, Bool, true, false, if◌then◌else◌, List, [], ◌∷◌, Option, Some}
use Rattle.std.specs.Prelude.{None, codes}
use Rattle.std.specs.Map.{lookup}
use Rattle.std.specs.Option.{option_map, option_or}
use Rattle.std.specs.Str.{bytes_eq}
use Rattle.be_command.specs.declared.fault.Reason.{Reason}
use Rattle.be_command.specs.declared.fault.Reason.TheVariants.{Place, NotHere}
use Rattle.be_command.specs.declared.first_word.FirstWord.{FirstWord}
use Rattle.be_command.specs.declared.first_word.FirstWord.TheVariants as first
use Rattle.be_command.specs.Forms.{first_word_of}
use Rattle.be_line.specs.declared.site.Seat.{Seat}
use Rattle.be_line.specs.declared.site.Seat.TheVariants as seat
use Rattle.be_line.specs.declared.site.Site.{Site}
use Rattle.be_line.specs.declared.site.Site.TheVariants as site
use Rattle.be_line.specs.declared.statement.Statement.{Statement}
use Rattle.be_line.specs.declared.statement.Statement.TheVariants as statement

-- ---- the words

-- what is declared, and what comes in
abbrev pub declaration_words : List (List ℕ × Statement)
declaration_words =
    (codes "screen", statement.Screen)
    ∷ (codes "bitmap", statement.Bitmap)
    ∷ (codes "row", statement.Row)
    ∷ (codes "window", statement.Window)
    ∷ (codes "view", statement.View)
    ∷ (codes "handler", statement.Handler)
    ∷ (codes "filter", statement.Filter)
    ∷ (codes "on", statement.On)
    ∷ (codes "draw", statement.Draw)
    ∷ (codes "app", statement.App)
    ∷ (codes "press", statement.Press)
    ∷ (codes "release", statement.Release)
    ∷ (codes "point", statement.Point)
    ∷ (codes "key", statement.Key)
    ∷ (codes "after", statement.After)
    ∷ []

-- what stands in bodies and programs, beside commands
abbrev pub instruction_words : List (List ℕ × Statement)
instruction_words =
    (codes "end", statement.End)
    ∷ (codes "note", statement.Note)
    ∷ (codes "post", statement.Post)
    ∷ (codes "send", statement.Send)
    ∷ (codes "reply", statement.Reply)
    ∷ (codes "forward", statement.Forward)
    ∷ (codes "lock", statement.Lock)
    ∷ (codes "unlock", statement.Unlock)
    ∷ (codes "flush", statement.Flush)
    ∷ (codes "sync", statement.Sync)
    ∷ []

abbrev pub in_body : List ℕ → Option Statement
in_body word =
    option_or (lookup (bytes_eq word) instruction_words)
    (option_map statement.Command (first_word_of word))

-- one of these, or the first word of a command
unfoldable pub statement_of : List ℕ → Option Statement
statement_of word = option_or (lookup (bytes_eq word) declaration_words) (in_body word)

-- ---- where they stand

-- in which bodies and programs an instruction may stand: bodies of handlers, Draw bodies, programs
-- without a lock and under one
abbrev pub inside : Bool → Bool → Bool → Bool → Seat
inside h d p l =
    seat.Inside (record { in_handler = h; in_draw = d; in_program = p; under_lock = l })

-- a command of the first group, which a Draw body may have: it draws, or sets what drawing goes by
abbrev pub is_of_drawing : FirstWord → Bool
is_of_drawing first.Fill = true
is_of_drawing first.Frame = true
is_of_drawing first.Line = true
is_of_drawing first.Text = true
is_of_drawing first.Bitmap = true
is_of_drawing first.High = true
is_of_drawing first.Low = true
is_of_drawing first.ViewColor = true
is_of_drawing first.Mode = true
is_of_drawing first.PenSize = true
is_of_drawing first.Pen = true
is_of_drawing first.Origin = true
is_of_drawing first.Clip = true
is_of_drawing first.Push = true
is_of_drawing first.Pop = true
is_of_drawing first.CopyBits = false
is_of_drawing first.Invalidate = false
is_of_drawing first.Show = false
is_of_drawing first.Hide = false
is_of_drawing first.MoveTo = false
is_of_drawing first.MoveBy = false
is_of_drawing first.ResizeTo = false
is_of_drawing first.Activate = false
is_of_drawing first.Behind = false
is_of_drawing first.Focus = false
is_of_drawing first.Close = false

-- the table of places
abbrev pub seat_of : Statement → Seat
seat_of statement.Screen = seat.FirstLine
seat_of statement.Bitmap = seat.Apart
seat_of statement.Row = seat.ARow
seat_of statement.Window = seat.Apart
seat_of statement.View = seat.Apart
seat_of statement.Handler = seat.Apart
seat_of statement.Filter = seat.Apart
seat_of statement.On = seat.Apart
seat_of statement.Draw = seat.Apart
seat_of statement.App = seat.Apart
seat_of statement.Press = seat.Apart
seat_of statement.Release = seat.Apart
seat_of statement.Point = seat.Apart
seat_of statement.Key = seat.Apart
seat_of statement.After = seat.Apart
seat_of statement.End = inside true true true false
seat_of statement.Note = inside true true true true
seat_of statement.Post = inside true false true true
seat_of statement.Send = inside false false true false
seat_of statement.Reply = inside true false false false
seat_of statement.Forward = inside true false false false
seat_of statement.Lock = inside false false true false
seat_of statement.Unlock = inside false false false true
seat_of statement.Flush = inside true true false true
seat_of statement.Sync = inside true true false true
seat_of (statement.Command word) = inside true (is_of_drawing word) false true

-- In a body `bitmap` is the command.
abbrev pub as_command : Statement → Statement
as_command statement.Bitmap = statement.Command first.Bitmap
as_command statement.Screen = statement.Screen
as_command statement.Row = statement.Row
as_command statement.Window = statement.Window
as_command statement.View = statement.View
as_command statement.Handler = statement.Handler
as_command statement.Filter = statement.Filter
as_command statement.On = statement.On
as_command statement.Draw = statement.Draw
as_command statement.App = statement.App
as_command statement.Press = statement.Press
as_command statement.Release = statement.Release
as_command statement.Point = statement.Point
as_command statement.Key = statement.Key
as_command statement.After = statement.After
as_command statement.End = statement.End
as_command statement.Note = statement.Note
as_command statement.Post = statement.Post
as_command statement.Send = statement.Send
as_command statement.Reply = statement.Reply
as_command statement.Forward = statement.Forward
as_command statement.Lock = statement.Lock
as_command statement.Unlock = statement.Unlock
as_command statement.Flush = statement.Flush
as_command statement.Sync = statement.Sync
as_command (statement.Command word) = statement.Command word

abbrev pub meant : Site → Statement → Statement
meant site.AtStart s = s
meant site.Outside s = s
meant site.AmongRows s = s
meant site.InHandler s = as_command s
meant site.InDraw s = as_command s
meant site.InProgram s = as_command s
meant site.UnderLock s = as_command s

-- a statement of bodies that this one doesn't allow
abbrev pub unless_allowed : Bool → Option Reason
unless_allowed allowed = if allowed then None else Some NotHere

-- why a statement may not stand somewhere, where it may not
abbrev pub misplaced : Site → Seat → Option Reason
misplaced site.AtStart seat.FirstLine = None
misplaced site.AtStart seat.Apart = Some Place
misplaced site.AtStart seat.ARow = Some Place
misplaced site.AtStart (seat.Inside allowed) = Some Place
misplaced site.Outside seat.FirstLine = Some Place
misplaced site.Outside seat.Apart = None
misplaced site.Outside seat.ARow = Some Place
misplaced site.Outside (seat.Inside allowed) = Some Place
misplaced site.AmongRows seat.FirstLine = Some Place
misplaced site.AmongRows seat.Apart = Some Place
misplaced site.AmongRows seat.ARow = None
misplaced site.AmongRows (seat.Inside allowed) = Some Place
misplaced site.InHandler seat.FirstLine = Some Place
misplaced site.InHandler seat.Apart = Some Place
misplaced site.InHandler seat.ARow = Some Place
misplaced site.InHandler (seat.Inside allowed) = unless_allowed allowed.in_handler
misplaced site.InDraw seat.FirstLine = Some Place
misplaced site.InDraw seat.Apart = Some Place
misplaced site.InDraw seat.ARow = Some Place
misplaced site.InDraw (seat.Inside allowed) = unless_allowed allowed.in_draw
misplaced site.InProgram seat.FirstLine = Some Place
misplaced site.InProgram seat.Apart = Some Place
misplaced site.InProgram seat.ARow = Some Place
misplaced site.InProgram (seat.Inside allowed) = unless_allowed allowed.in_program
misplaced site.UnderLock seat.FirstLine = Some Place
misplaced site.UnderLock seat.Apart = Some Place
misplaced site.UnderLock seat.ARow = Some Place
misplaced site.UnderLock (seat.Inside allowed) = unless_allowed allowed.under_lock
