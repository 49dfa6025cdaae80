-- The commands that a line may be (the words are this project's own; The Be Book's calls stand at
-- their effects).
use Rattle.std.specs.Prelude.{ℕ, List, [], ◌∷◌, Option, codes}
use Rattle.std.specs.Str.{bytes_eq}
use Rattle.std.specs.Map.{lookup}
use Rattle.be_geom.specs.declared.change.Change.TheVariants as change
use Rattle.be_command.specs.declared.Command.{Command}
use Rattle.be_command.specs.declared.Command.TheVariants as command
use Rattle.be_command.specs.declared.first_word.FirstWord.{FirstWord}
use Rattle.be_command.specs.declared.first_word.FirstWord.TheVariants as first
use Rattle.be_command.specs.Kinds.{Kind, a_view, a_window, a_bitmap, a_focus, a_point, a_rect}
use Rattle.be_command.specs.Kinds.{a_distance, a_size, a_pen_size, a_pattern, a_color, a_mode}
use Rattle.be_command.specs.Kinds.{a_text, a_clip, SaidAll}

-- what stands behind a first word, and the command that it makes
pub record Form : Type 0 where
  pub kinds : List Kind
  pub makes : SaidAll kinds → Command

-- the form of each line, by its first word
unfoldable pub form_of : FirstWord → Form
form_of first.Fill =
    record { kinds = a_view ∷ a_rect ∷ a_pattern ∷ []; makes = λ x. command.Fill x.0 x.1.0 x.1.1.0 }
form_of first.Frame =
    record {
      kinds = a_view ∷ a_rect ∷ a_pattern ∷ [];
      makes = λ x. command.Frame x.0 x.1.0 x.1.1.0;
    }
form_of first.Line =
    record {
      kinds = a_view ∷ a_point ∷ a_point ∷ a_pattern ∷ [];
      makes = λ x. command.Line x.0 x.1.0 x.1.1.0 x.1.1.1.0;
    }
form_of first.Text = record { kinds = a_view ∷ a_text ∷ []; makes = λ x. command.Text x.0 x.1.0 }
form_of first.Bitmap =
    record {
      kinds = a_view ∷ a_bitmap ∷ a_point ∷ [];
      makes = λ x. command.Bitmap x.0 x.1.0 x.1.1.0;
    }
form_of first.High = record { kinds = a_view ∷ a_color ∷ []; makes = λ x. command.High x.0 x.1.0 }
form_of first.Low = record { kinds = a_view ∷ a_color ∷ []; makes = λ x. command.Low x.0 x.1.0 }
form_of first.ViewColor =
    record { kinds = a_view ∷ a_color ∷ []; makes = λ x. command.ViewColor x.0 x.1.0 }
form_of first.Mode = record { kinds = a_view ∷ a_mode ∷ []; makes = λ x. command.Mode x.0 x.1.0 }
form_of first.PenSize =
    record { kinds = a_view ∷ a_pen_size ∷ []; makes = λ x. command.PenSize x.0 x.1.0 }
form_of first.Pen = record { kinds = a_view ∷ a_point ∷ []; makes = λ x. command.Pen x.0 x.1.0 }
form_of first.Origin =
    record { kinds = a_view ∷ a_point ∷ []; makes = λ x. command.Origin x.0 x.1.0 }
form_of first.Clip = record { kinds = a_view ∷ a_clip ∷ []; makes = λ x. command.Clip x.0 x.1.0 }
form_of first.Push = record { kinds = a_view ∷ []; makes = λ x. command.Push x.0 }
form_of first.Pop = record { kinds = a_view ∷ []; makes = λ x. command.Pop x.0 }
form_of first.CopyBits =
    record {
      kinds = a_view ∷ a_rect ∷ a_point ∷ [];
      makes = λ x. command.CopyBits x.0 x.1.0 x.1.1.0;
    }
form_of first.Invalidate =
    record { kinds = a_view ∷ a_rect ∷ []; makes = λ x. command.Invalidate x.0 x.1.0 }
form_of first.Show = record { kinds = []; makes = λ x. command.Change change.Show }
form_of first.Hide = record { kinds = []; makes = λ x. command.Change change.Hide }
form_of first.MoveTo =
    record { kinds = a_point ∷ []; makes = λ x. command.Change (change.MoveTo x.0) }
form_of first.MoveBy =
    record { kinds = a_distance ∷ []; makes = λ x. command.Change (change.MoveBy x.0.0 x.0.1) }
form_of first.ResizeTo =
    record { kinds = a_size ∷ []; makes = λ x. command.Change (change.ResizeTo x.0.0 x.0.1) }
form_of first.Activate = record { kinds = []; makes = λ x. command.Change change.Activate }
form_of first.Behind =
    record { kinds = a_window ∷ []; makes = λ x. command.Change (change.Behind x.0) }
form_of first.Focus =
    record { kinds = a_focus ∷ []; makes = λ x. command.Change (change.Focus x.0) }
form_of first.Close = record { kinds = []; makes = λ x. command.Change change.Close }

-- the words themselves
abbrev pub first_words : List (List ℕ × FirstWord)
first_words =
    (codes "fill", first.Fill)
    ∷ (codes "frame", first.Frame)
    ∷ (codes "line", first.Line)
    ∷ (codes "text", first.Text)
    ∷ (codes "bitmap", first.Bitmap)
    ∷ (codes "high", first.High)
    ∷ (codes "low", first.Low)
    ∷ (codes "viewcolor", first.ViewColor)
    ∷ (codes "mode", first.Mode)
    ∷ (codes "pensize", first.PenSize)
    ∷ (codes "pen", first.Pen)
    ∷ (codes "origin", first.Origin)
    ∷ (codes "clip", first.Clip)
    ∷ (codes "push", first.Push)
    ∷ (codes "pop", first.Pop)
    ∷ (codes "copybits", first.CopyBits)
    ∷ (codes "invalidate", first.Invalidate)
    ∷ (codes "show", first.Show)
    ∷ (codes "hide", first.Hide)
    ∷ (codes "moveto", first.MoveTo)
    ∷ (codes "moveby", first.MoveBy)
    ∷ (codes "resizeto", first.ResizeTo)
    ∷ (codes "activate", first.Activate)
    ∷ (codes "behind", first.Behind)
    ∷ (codes "focus", first.Focus)
    ∷ (codes "close", first.Close)
    ∷ []

unfoldable pub first_word_of : List ℕ → Option FirstWord
first_word_of word = lookup (bytes_eq word) first_words
