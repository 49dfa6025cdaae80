-- A command that keeps its limits sets no pen but one of 1 to 32 pixels: for callers that execute commands that were
-- read.
use Rattle.std.specs.Prelude.{◌&&◌, nat_le}
use Rattle.std.proofs.Common.{◌≡◌, ℕ, true, arith}
use Rattle.std.proofs.lemmas.Bool.Decides.{nat_tests}
use Rattle.be_command.specs.declared.Command.{Command}
use Rattle.be_command.specs.Effects.{Setting, high_color, low_color, drawing_mode, pen_size, pen_place, origin, clipping, Deed, draws, sets, colors, saves, restores, copies, invalidates, Effect, at_view, changes, ends_update, effect_of}
use Rattle.be_command.specs.Limits.{is_command, is_deed, is_effect, is_setting}
use Rattle.be_state.specs.Limits.{IsPenSize}
use Rattle.be_twin.specs.Judged.{DeedHasPen, HasPen, SetsPen}

within : (size : ℕ) → (nat_le 1 size && nat_le size 32) ≡ true → IsPenSize size
within size h = (grind (arith, nat_tests), grind (arith, nat_tests))

setting_has_pen : (setting : Setting) → is_setting setting ≡ true → SetsPen setting
setting_has_pen (pen_size size) h = within size h
setting_has_pen (high_color color) h = tt
setting_has_pen (low_color color) h = tt
setting_has_pen (drawing_mode mode) h = tt
setting_has_pen (pen_place at) h = tt
setting_has_pen (origin at) h = tt
setting_has_pen (clipping rects) h = tt

deed_has_pen : (deed : Deed) → is_deed deed ≡ true → DeedHasPen deed
deed_has_pen (draws figure) h = tt
deed_has_pen (sets setting) h = setting_has_pen setting h
deed_has_pen (colors color) h = tt
deed_has_pen saves h = tt
deed_has_pen restores h = tt
deed_has_pen (copies source target) h = tt
deed_has_pen (invalidates r) h = tt

effect_has_pen : (effect : Effect) → is_effect effect ≡ true → HasPen effect
effect_has_pen (at_view v deed) h = deed_has_pen deed h
effect_has_pen (changes change) h = tt
effect_has_pen ends_update h = tt

pub command_has_pen : (command : Command) → is_command command ≡ true → HasPen (effect_of command)
unfolding is_command
command_has_pen command h = effect_has_pen (effect_of command) h
