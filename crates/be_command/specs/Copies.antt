-- Which commands take memory when they are copied (this project's own).
use Rattle.std.specs.Prelude.{Bool, true, false}
use Rattle.std.specs.Option.{is_some}
use Rattle.be_command.specs.declared.Command.{Command}
use Rattle.be_command.specs.declared.Command.TheVariants as command

-- a text and the rectangles of a clip, which alone are kept as lists
abbrev pub keeps_a_list : Command → Bool
keeps_a_list (command.Fill view rect pattern) = false
keeps_a_list (command.Frame view rect pattern) = false
keeps_a_list (command.Line view from to pattern) = false
keeps_a_list (command.Text view t) = true
keeps_a_list (command.Bitmap view bitmap at) = false
keeps_a_list (command.High view color) = false
keeps_a_list (command.Low view color) = false
keeps_a_list (command.ViewColor view color) = false
keeps_a_list (command.Mode view mode) = false
keeps_a_list (command.PenSize view size) = false
keeps_a_list (command.Pen view at) = false
keeps_a_list (command.Origin view at) = false
keeps_a_list (command.Clip view clip) = is_some clip
keeps_a_list (command.Push view) = false
keeps_a_list (command.Pop view) = false
keeps_a_list (command.CopyBits view source target) = false
keeps_a_list (command.Invalidate view rect) = false
keeps_a_list (command.Change change) = false
keeps_a_list command.EndUpdate = false
