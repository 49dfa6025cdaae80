-- The options of a window (the language is this project's own).
use Rattle.std.specs.Prelude.{ℕ, pos, Bool, true, false, not, ◌&&◌, if◌then◌else◌, List, [], ◌∷◌}
use Rattle.std.specs.Prelude.{map, fold, Option, Some, None, Result, Ok, Err, codes, unsigned_abs}
use Rattle.std.specs.List.{list_all}
use Rattle.std.specs.Option.{option_map, option_and_then}
use Rattle.std.specs.Str.{bytes_eq}
use Rattle.be_color.specs.declared.colors.Color.TheVariants.{Solid}
use Rattle.be_command.specs.declared.fault.Reason.{Reason}
use Rattle.be_command.specs.declared.fault.Reason.TheVariants.{Shape, Range}
use Rattle.be_geom.specs.Points.{between}
use Rattle.be_lex.specs.Colors.{color_of}
use Rattle.be_lex.specs.Numbers.{is_number, number_of}
use Rattle.be_lex.specs.Words.{cut_at}
use Rattle.be_line.specs.declared.options.Options.{Options}
use Rattle.be_line.specs.declared.options.WindowOption.{WindowOption}
use Rattle.be_line.specs.declared.options.WindowOption.TheVariants as option
use Rattle.be_line.specs.Fields.{all_there}

-- ---- one word

abbrev pub port_of : List ℕ → Option WindowOption
port_of bytes = if is_number bytes then Some (option.Port (number_of bytes)) else None

abbrev pub with_key : List ℕ × List ℕ → Option WindowOption
with_key cut =
    if bytes_eq cut.0 (codes "port") then port_of cut.1
    else if bytes_eq cut.0 (codes "color") then option_map option.Color (color_of cut.1)
    else None

-- `firstclick`, `avoidfocus`, `port=N` or `color=COLOR`
unfoldable pub option_of : List ℕ → Option WindowOption
option_of word =
    if bytes_eq word (codes "firstclick") then Some option.FirstClick
    else if bytes_eq word (codes "avoidfocus") then Some option.AvoidFocus
    else option_and_then with_key (cut_at 61 word)

-- ---- all of them

abbrev pub same_option : WindowOption → WindowOption → Bool
same_option option.FirstClick option.FirstClick = true
same_option option.FirstClick option.AvoidFocus = false
same_option option.FirstClick (option.Port n) = false
same_option option.FirstClick (option.Color c) = false
same_option option.AvoidFocus option.FirstClick = false
same_option option.AvoidFocus option.AvoidFocus = true
same_option option.AvoidFocus (option.Port n) = false
same_option option.AvoidFocus (option.Color c) = false
same_option (option.Port m) option.FirstClick = false
same_option (option.Port m) option.AvoidFocus = false
same_option (option.Port m) (option.Port n) = true
same_option (option.Port m) (option.Color c) = false
same_option (option.Color b) option.FirstClick = false
same_option (option.Color b) option.AvoidFocus = false
same_option (option.Color b) (option.Port n) = false
same_option (option.Color b) (option.Color c) = true

-- none of them stands twice, with the same value or another
abbrev pub stand_once : List WindowOption → Bool
stand_once [] = true
stand_once (o ∷ os) = list_all (λ other. not (same_option o other)) os && stand_once os

-- a port holds 1 to 100 letters
abbrev pub is_in_range : WindowOption → Bool
is_in_range option.FirstClick = true
is_in_range option.AvoidFocus = true
is_in_range (option.Port n) = between (pos 1) n (pos 100)
is_in_range (option.Color c) = true

-- without options a port holds 100 letters, and the root view is white (The Be Book:
-- B_LOOPER_PORT_DEFAULT_CAPACITY, and the colours of views)
abbrev pub no_options : Options
no_options = record {
  first_click = false;
  avoid_focus = false;
  port = 100;
  color = Solid (record { red = 255; green = 255; blue = 255 });
}

abbrev pub with_option : Options → WindowOption → Options
with_option options option.FirstClick = record options { first_click = true }
with_option options option.AvoidFocus = record options { avoid_focus = true }
with_option options (option.Port n) = record options { port = unsigned_abs n }
with_option options (option.Color c) = record options { color = c }

abbrev pub ranged : List WindowOption → Result Options Reason
ranged os = if list_all is_in_range os then Ok (fold with_option no_options os) else Err Range

abbrev pub once : Option (List WindowOption) → Result Options Reason
once (Some os) = if stand_once os then ranged os else Err Shape
once None = Err Shape

-- what the words behind a window's frame say
unfoldable pub options_said : List (List ℕ) → Result Options Reason
options_said words = once (all_there (map option_of words))
