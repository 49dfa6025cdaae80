-- What a line of a script adds to what was said (the language is this project's own).
use Rattle.std.specs.Prelude.{ℕ, List}
use Rattle.be_actor.specs.declared.Instruction.{Instruction}
use Rattle.be_color.specs.declared.colors.Color.{Color}
use Rattle.be_message.specs.declared.target.Target.{Target}
use Rattle.be_script.specs.declared.FilterLine.{FilterLine}
use Rattle.be_script.specs.declared.HandlerLine.{HandlerLine}
use Rattle.be_script.specs.declared.InputLine.{InputLine}
use Rattle.be_script.specs.declared.ViewLine.{ViewLine}
use Rattle.be_script.specs.declared.WindowLine.{WindowLine}

-- what a line adds to what was said
pub data Deed : Type 0 where
  -- the screen is so wide and high
  sizes_screen : ℕ → ℕ → Deed
  -- a bitmap of this name, width and height is begun
  begins_bitmap : List ℕ → ℕ → ℕ → Deed
  adds_row : List Color → Deed
  adds_window : WindowLine → Deed
  adds_view : ViewLine → Deed
  adds_handler : HandlerLine → Deed
  adds_filter : FilterLine → Deed
  -- the body of a handler of a window for a word is begun
  begins_body : ℕ → Target → ℕ → Deed
  -- the Draw body of a view of a window is begun
  begins_draw : ℕ → ℕ → Deed
  begins_program : List ℕ → Deed
  adds_input : InputLine → Deed
  adds_step : Instruction → Deed
  -- what was begun is closed
  closes : Deed
