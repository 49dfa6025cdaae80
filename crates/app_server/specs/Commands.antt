-- The commands that the words on the command line spell.
use Rattle.std.specs.Prelude.{ℕ, ◌≤◌, pos, ◌&&◌, nat_le, List, [], ◌∷◌, Option, Some, None, codes}
use Rattle.std.specs.Prelude.{option_and_then, if◌then◌else◌, unsigned_abs}
use Rattle.std.specs.Map.{lookup}
use Rattle.std.specs.Str.{bytes_eq}
use Rattle.app_server.specs.declared.command.CommandWords.{CommandWords}
use Rattle.app_server.specs.declared.command.CommandWords.TheVariants.{Run, Serial, Check, Make}
use Rattle.app_server.specs.declared.command.CommandWords.TheVariants.{Drill, Replay, Explain}
use Rattle.app_server.specs.declared.command.CommandWords.TheVariants.{Picture, Archive}
use Rattle.app_server.specs.declared.command.CommandWords.TheVariants.{Unarchive, Buttons}
use Rattle.app_server.specs.declared.first_word.FirstWord.{FirstWord}
use Rattle.app_server.specs.declared.first_word.FirstWord.TheVariants as first
use Rattle.be_geom.specs.Points.{between}
use Rattle.be_lex.specs.Numbers.{is_number, number_of}
use Rattle.be_report.specs.Readers.{Reader, ◌>>=◌, gives, all_of, next_word}

-- ---- the first word

abbrev pub first_words : List (List ℕ × FirstWord)
first_words =
    (codes "run", first.Run)
    ∷ (codes "serial", first.Serial)
    ∷ (codes "check", first.Check)
    ∷ (codes "make", first.Make)
    ∷ (codes "drill", first.Drill)
    ∷ (codes "replay", first.Replay)
    ∷ (codes "explain", first.Explain)
    ∷ (codes "picture", first.Picture)
    ∷ (codes "archive", first.Archive)
    ∷ (codes "unarchive", first.Unarchive)
    ∷ (codes "buttons", first.Buttons)
    ∷ []

unfoldable pub first_word_of : List ℕ → Option FirstWord
first_word_of word = lookup (bytes_eq word) first_words

-- ---- the words behind it

-- decimal digits without a sign or a leading 0, up to the most
abbrev pub number_up_to : ℕ → List ℕ → Option ℕ
number_up_to most word =
    if is_number word && between (pos 0) (number_of word) (pos most)
    then Some (unsigned_abs (number_of word)) else None

abbrev pub up_to : ℕ → Reader ℕ
up_to most = next_word (number_up_to most)

abbrev pub unless_none : ℕ → Option ℕ
unless_none n = if nat_le 1 n then Some n else None

-- such digits, from 1 to 256
abbrev pub side_of : List ℕ → Option ℕ
side_of word = option_and_then unless_none (number_up_to 256 word)

abbrev pub side : Reader ℕ
side = next_word side_of

abbrev pub seed_read : Reader CommandWords
seed_read = up_to 4294967295 >>= λ seed. gives (Serial seed)

abbrev pub make_read : Reader CommandWords
make_read = up_to 65535 >>= λ n. gives (Make n)

abbrev pub drill_read : Reader CommandWords
drill_read = up_to 65535 >>= λ n. gives (Drill n)

abbrev pub pixel_read : Reader CommandWords
pixel_read = up_to 1023 >>= λ x. up_to 767 >>= λ y. gives (Explain x y)

abbrev pub picture_read : Reader CommandWords
picture_read = side >>= λ width. side >>= λ height. gives (Picture width height)

abbrev pub archive_read : Reader CommandWords
archive_read = up_to 31 >>= λ w. gives (Archive w)

abbrev pub read_behind : FirstWord → Reader CommandWords
read_behind first.Run = gives Run
read_behind first.Serial = seed_read
read_behind first.Check = gives Check
read_behind first.Make = make_read
read_behind first.Drill = drill_read
read_behind first.Replay = gives Replay
read_behind first.Explain = pixel_read
read_behind first.Picture = picture_read
read_behind first.Archive = archive_read
read_behind first.Unarchive = gives Unarchive
read_behind first.Buttons = gives Buttons

-- the command that the words spell, each just so and none more, if they spell one
abbrev pub command_behind : List (List ℕ) → Option FirstWord → Option CommandWords
command_behind words (Some word) = all_of (read_behind word) words
command_behind words None = None

abbrev pub command_of : List (List ℕ) → Option CommandWords
command_of [] = None
command_of (word ∷ words) = command_behind words (first_word_of word)

-- ---- numbers

-- how many pixels a picture may have across, and how many down
abbrev pub IsSide : ℕ → Type 0
IsSide n = (1 ≤ n) × (n ≤ 256)

-- the numbers of the command are some that words may spell
abbrev pub IsInRange : CommandWords → Type 0
IsInRange Run = Unit {0}
IsInRange (Serial seed) = seed ≤ 4294967295
IsInRange Check = Unit {0}
IsInRange (Make n) = n ≤ 65535
IsInRange (Drill n) = n ≤ 65535
IsInRange Replay = Unit {0}
IsInRange (Explain x y) = (x ≤ 1023) × (y ≤ 767)
IsInRange (Picture width height) = IsSide width × IsSide height
IsInRange (Archive w) = w ≤ 31
IsInRange Unarchive = Unit {0}
IsInRange Buttons = Unit {0}

-- ---- one thread

-- all but `run` are served on one thread
abbrev pub unless_run : CommandWords → Option CommandWords
unless_run Run = None
unless_run (Serial seed) = Some (Serial seed)
unless_run Check = Some Check
unless_run (Make n) = Some (Make n)
unless_run (Drill n) = Some (Drill n)
unless_run Replay = Some Replay
unless_run (Explain x y) = Some (Explain x y)
unless_run (Picture width height) = Some (Picture width height)
unless_run (Archive w) = Some (Archive w)
unless_run Unarchive = Some Unarchive
unless_run Buttons = Some Buttons

-- the command that the words spell there
abbrev pub alone_command_of : List (List ℕ) → Option CommandWords
alone_command_of words = option_and_then unless_run (command_of words)
