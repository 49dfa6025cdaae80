-- The kinds of what a line says behind its first word, and how each is read (the language is this
-- project's own).
use Rattle.std.specs.Prelude.{ℕ, ℤ, pos, ◌-ℤ◌, if◌then◌else◌, List, [], ◌∷◌, drop, Option, Some}
use Rattle.std.specs.Prelude.{None, Result, Ok, Err, codes, unsigned_abs, slice_get, option_map}
use Rattle.std.specs.Option.{ok_or}
use Rattle.std.specs.Result.{result_ok}
use Rattle.std.specs.Map.{lookup}
use Rattle.std.specs.Str.{bytes_eq}
use Rattle.be_actor.specs.Drafts.{Word}
use Rattle.be_color.specs.declared.colors.Color.{Color}
use Rattle.be_command.specs.declared.Command.{Command}
use Rattle.be_command.specs.declared.fault.Reason.{Reason}
use Rattle.be_command.specs.declared.fault.Reason.TheVariants.{Shape, Range, UnknownName}
use Rattle.be_command.specs.Kinds.{named, numbered, coordinate, formed}
use Rattle.be_command.specs.Names.{number_in}
use Rattle.be_command.specs.Places.{judged}
use Rattle.be_command.specs.Reading.{command_or_reason}
use Rattle.be_follow.specs.declared.mode.Across.{Across}
use Rattle.be_follow.specs.declared.mode.Down.{Down}
use Rattle.be_geom.specs.declared.point.Point.{Point}
use Rattle.be_geom.specs.declared.rect.Rect.{Rect}
use Rattle.be_handler.specs.declared.Rule.{Rule}
use Rattle.be_handler.specs.declared.Rule.TheVariants.{Skip, Pass, Redirect}
use Rattle.be_lex.specs.Names.{is_name}
use Rattle.be_message.specs.declared.target.Target.{Target}
use Rattle.be_message.specs.declared.target.Target.TheVariants as target
use Rattle.be_line.specs.Fields.{fields_said}
use Rattle.be_script.specs.Limits.{is_frame}
use Rattle.be_line.specs.declared.options.Options.{Options}
use Rattle.be_line.specs.Options.{options_said}
use Rattle.be_said.specs.SoFar.{SoFar, bitmap_names, window_names, app_names, view_names}
use Rattle.be_said.specs.SoFar.{plain_names, known_in, window_of, row_width, has_message}
use Rattle.be_said.specs.Names.{handler_names, new_name}
use Rattle.be_line.specs.Kinds.{first_of, said_as, across_words, down_words, what_said}
use Rattle.be_line.specs.Kinds.{filter_what_said, note_said, pixels_in, color_or_white}

pub data Kind : Type 0 where
  -- names that are declared; a handler's is one of the window that the line names, and none of its
  -- others
  a_new_bitmap : Kind
  a_new_window : Kind
  a_new_handler : Kind
  a_new_app : Kind
  -- names of what is there: views and handlers of the window that the line names; a list may also
  -- be the common one
  a_window : Kind
  a_view : Kind
  a_handler : Kind
  a_list : Kind
  an_app : Kind
  -- a number from the first to the second
  a_number : ℕ → ℕ → Kind
  -- left, top, right and bottom; a window's has pixels, and edges that are at most 32767 apart
  a_frame : Kind
  a_window_frame : Kind
  -- a pixel of the screen
  a_place : Kind
  an_across : Kind
  a_down : Kind
  -- none is white
  a_last_color : Kind
  some_options : Kind
  -- four letters that a script may send, and those or any for which a filter is
  a_what : Kind
  a_filter_what : Kind
  a_rule : Kind
  a_note : Kind
  some_fields : Kind
  -- the pixels of a bitmap's row
  some_pixels : Kind
  -- a command with its first word
  a_command : Kind

-- what each kind says
abbrev pub Said : Kind → Type 0
Said a_new_bitmap = List ℕ
Said a_new_window = List ℕ
Said a_new_handler = List ℕ
Said a_new_app = List ℕ
Said a_window = ℕ
Said a_view = ℕ
Said a_handler = Target
Said a_list = Option Target
Said an_app = ℕ
Said (a_number low high) = ℕ
Said a_frame = Rect
Said a_window_frame = Rect
Said a_place = Point
Said an_across = Across
Said a_down = Down
Said a_last_color = Color
Said some_options = Options
Said a_what = ℕ
Said a_filter_what = Option ℕ
Said a_rule = Rule
Said a_note = List ℕ
Said some_fields = List Word
Said some_pixels = List Color
Said a_command = Command

-- what is left of a line, the window that it named, and all of its text
pub record At : Type 0 where
  pub words : List (List ℕ)
  pub window : Option ℕ
  pub text : List ℕ

-- ---- reasons

-- what two parts of a line say
abbrev pub both : {A B : Type 0} → Result A Reason → Result B Reason → Result (A × B) Reason
both (Ok a) (Ok b) = Ok (a, b)
both (Ok a) (Err other) = Err other
both (Err one) (Ok b) = Err one
both (Err one) (Err other) = Err (first_of one other)

-- ---- words

-- the word with this number of those that are left; a missing one is of the wrong form
abbrev pub word_said : {A : Type 0} → (List ℕ → Result A Reason) → ℕ → At → Result A Reason
word_said read k at = judged read (slice_get at.words k)

abbrev pub behind : ℕ → At → At
behind count at = record at { words = drop count at.words }

-- ---- one word

-- a handler by its name: the window itself, a view or a plain handler
abbrev plain_handler : Option ℕ → Option Target
plain_handler number = option_map target.Plain number

abbrev pub view_or : Option ℕ → Option Target → Option Target
view_or (Some v) plain = Some (target.View v)
view_or None plain = plain

abbrev pub handler_with : SoFar → Option ℕ → List ℕ → Option Target
handler_with said w word =
    if bytes_eq word (codes "window") then Some target.Window
    else view_or (number_in (view_names said w) word)
    (plain_handler (number_in (plain_names said w) word))

abbrev pub handler_named : SoFar → Option ℕ → List ℕ → Result Target Reason
handler_named said w word =
    if is_name word then ok_or (handler_with said w word) UnknownName else Err Shape

-- the list of a handler, or the common one
abbrev pub list_named : SoFar → Option ℕ → List ℕ → Result (Option Target) Reason
list_named said w word =
    if bytes_eq word (codes "common") then Ok None else said_as Some (handler_named said w word)

-- ---- several words

abbrev numbers_two : (List ℕ → Result ℤ Reason) → (List ℕ → Result ℤ Reason) → At
    → Result (ℤ × ℤ) Reason
numbers_two read_one read_other at = both (word_said read_one 0 at) (word_said read_other 1 at)

abbrev pub frame_said : At → Result Rect Reason
frame_said at =
    said_as (λ r. record { left = r.0.0; top = r.0.1; right = r.1.0; bottom = r.1.1 })
    (both (numbers_two coordinate coordinate at)
    (numbers_two coordinate coordinate (behind 2 at)))

abbrev with_pixels : Rect → Result Rect Reason
with_pixels r = if is_frame r then Ok r else Err Range

abbrev pub window_frame : Result Rect Reason → Result Rect Reason
window_frame (Ok r) = with_pixels r
window_frame (Err reason) = Err reason

-- a column and a row of a screen of this size; before the screen's line there is none
abbrev place_on : ℕ × ℕ → At → Result Point Reason
place_on size at =
    said_as (λ p. record { x = p.0; y = p.1 })
    (numbers_two (numbered (pos 0) (pos size.0 -ℤ pos 1))
    (numbered (pos 0) (pos size.1 -ℤ pos 1)) at)

abbrev pub place_said : Option (ℕ × ℕ) → At → Result Point Reason
place_said (Some size) at = place_on size at
place_said None at = Err Range

-- `skip`, `pass`, or `redirect` and a handler
abbrev pub rule_by : SoFar → At → List ℕ → Result Rule Reason
rule_by said at word =
    if bytes_eq word (codes "skip") then Ok Skip
    else if bytes_eq word (codes "pass") then Ok Pass
    else if bytes_eq word (codes "redirect")
    then said_as Redirect (word_said (handler_named said at.window) 1 at)
    else Err Shape

abbrev rule_length : Option (List ℕ) → ℕ
rule_length (Some word) = if bytes_eq word (codes "redirect") then 2 else 1
rule_length None = 1

-- ---- by kind

-- what stands here, read as of this kind
abbrev pub said : SoFar → (kind : Kind) → At → Result (Said kind) Reason
said before a_new_bitmap at = word_said (new_name (bitmap_names before)) 0 at
said before a_new_window at = word_said (new_name (window_names before)) 0 at
said before a_new_handler at = word_said (new_name (handler_names before at.window)) 0 at
said before a_new_app at = word_said (new_name (app_names before)) 0 at
said before a_window at = word_said (named (window_names before)) 0 at
said before a_view at = word_said (named (view_names before at.window)) 0 at
said before a_handler at = word_said (handler_named before at.window) 0 at
said before a_list at = word_said (list_named before at.window) 0 at
said before an_app at = word_said (named (app_names before)) 0 at
said before (a_number low high) at =
    said_as unsigned_abs (word_said (numbered (pos low) (pos high)) 0 at)
said before a_frame at = frame_said at
said before a_window_frame at = window_frame (frame_said at)
said before a_place at = place_said before.screen at
said before an_across at = word_said (λ word. formed (lookup (bytes_eq word) across_words)) 0 at
said before a_down at = word_said (λ word. formed (lookup (bytes_eq word) down_words)) 0 at
said before a_last_color at = color_or_white (slice_get at.words 0)
said before some_options at = options_said at.words
said before a_what at = word_said what_said 0 at
said before a_filter_what at = word_said filter_what_said 0 at
said before a_rule at = word_said (rule_by before at) 0 at
said before a_note at = word_said note_said 0 at
said before some_fields at = fields_said (has_message before.begun) at.words
said before some_pixels at =
    word_said (λ word. formed (pixels_in (row_width before.begun) word)) 0 at
said before a_command at = command_or_reason (known_in before (window_of before.begun)) at.text

-- the window that a word names, where it names one
abbrev naming : SoFar → At → At
naming before at = record at { window = result_ok (word_said (named (window_names before)) 0 at) }

-- and what is left behind it
abbrev pub after : SoFar → Kind → At → At
after before a_new_bitmap at = behind 1 at
after before a_new_window at = behind 1 at
after before a_new_handler at = behind 1 at
after before a_new_app at = behind 1 at
after before a_window at = behind 1 (naming before at)
after before a_view at = behind 1 at
after before a_handler at = behind 1 at
after before a_list at = behind 1 at
after before an_app at = behind 1 at
after before (a_number low high) at = behind 1 at
after before a_frame at = behind 4 at
after before a_window_frame at = behind 4 at
after before a_place at = behind 2 at
after before an_across at = behind 1 at
after before a_down at = behind 1 at
after before a_last_color at = behind 1 at
after before some_options at = record at { words = [] }
after before a_what at = behind 1 at
after before a_filter_what at = behind 1 at
after before a_rule at = behind (rule_length (slice_get at.words 0)) at
after before a_note at = behind 1 at
after before some_fields at = record at { words = [] }
after before some_pixels at = behind 1 at
after before a_command at = record at { words = [] }

-- ---- several kinds

abbrev pub SaidAll : List Kind → Type 0
SaidAll [] = Unit {0}
SaidAll (kind ∷ kinds) = Said kind × SaidAll kinds

-- no word is left
abbrev pub ended : List (List ℕ) → Result (Unit {0}) Reason
ended [] = Ok tt
ended (word ∷ words) = Err Shape

-- all that a line says, to its end
abbrev pub said_all : SoFar → (kinds : List Kind) → At → Result (SaidAll kinds) Reason
said_all before [] at = ended at.words
said_all before (kind ∷ kinds) at =
    both (said before kind at) (said_all before kinds (after before kind at))
