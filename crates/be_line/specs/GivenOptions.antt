-- The options of a window as they are read, one word after the other (this project's own).
use Rattle.std.specs.Prelude.{pos, true, false, not, ◌&&◌, if◌then◌else◌, List, [], ◌∷◌, Option}
use Rattle.std.specs.Prelude.{Some, None, Result, Ok, Err}
use Rattle.be_command.specs.declared.fault.Reason.{Reason}
use Rattle.be_command.specs.declared.fault.Reason.TheVariants.{Shape, Range}
use Rattle.be_geom.specs.Points.{between}
use Rattle.be_line.specs.declared.options.Given.{Given}
use Rattle.be_line.specs.declared.options.Options.{Options}
use Rattle.be_line.specs.declared.options.WindowOption.{WindowOption}
use Rattle.be_line.specs.declared.options.WindowOption.TheVariants as option
use Rattle.be_line.specs.Options as options

-- before the first word
abbrev pub no_option : Given
no_option = record {
  options = options.no_options;
  has_first_click = false;
  has_avoid_focus = false;
  has_port = false;
  has_color = false;
  is_formed = true;
  is_in_range = true;
}

-- with one option more
abbrev pub with_one : Given → WindowOption → Given
with_one given option.FirstClick = record given {
  options = options.with_option given.options option.FirstClick;
  has_first_click = true;
  is_formed = given.is_formed && not given.has_first_click;
}
with_one given option.AvoidFocus = record given {
  options = options.with_option given.options option.AvoidFocus;
  has_avoid_focus = true;
  is_formed = given.is_formed && not given.has_avoid_focus;
}
with_one given (option.Port n) = record given {
  options =
      if between (pos 1) n (pos 100) then options.with_option given.options (option.Port n)
      else given.options;
  has_port = true;
  is_formed = given.is_formed && not given.has_port;
  is_in_range = given.is_in_range && between (pos 1) n (pos 100);
}
with_one given (option.Color color) = record given {
  options = options.with_option given.options (option.Color color);
  has_color = true;
  is_formed = given.is_formed && not given.has_color;
}

-- and with one word more, which may be no option
abbrev pub with_option : Given → Option WindowOption → Given
with_option given (Some o) = with_one given o
with_option given None = record given { is_formed = false }

-- what they say together
abbrev pub finished : Given → Result Options Reason
finished given =
    if given.is_formed then (if given.is_in_range then Ok given.options else Err Range)
    else Err Shape

-- what these and all further words say
abbrev pub told : Given → List (Option WindowOption) → Result Options Reason
told given [] = finished given
told given (o ∷ os) = told (with_option given o) os
