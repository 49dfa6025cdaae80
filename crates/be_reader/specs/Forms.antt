-- The lines of a script, each by its first word, and what each makes (the language is this
-- project's own).
use Rattle.std.specs.Prelude.{pos, List, [], ◌∷◌}
use Rattle.be_actor.specs.declared.Instruction.TheVariants as instruction
use Rattle.be_script.specs.declared.InputLine.TheVariants as input
use Rattle.be_line.specs.declared.statement.Statement.{Statement}
use Rattle.be_line.specs.declared.statement.Statement.TheVariants as statement
use Rattle.be_said.specs.Deeds.{Deed, sizes_screen, begins_bitmap, adds_row, adds_window, adds_view}
use Rattle.be_said.specs.Deeds.{adds_handler, adds_filter, begins_body, begins_draw, begins_program}
use Rattle.be_said.specs.Deeds.{adds_input, adds_step, closes}
use Rattle.be_reader.specs.Kinds.{Kind, a_new_bitmap, a_new_window, a_new_handler, a_new_app}
use Rattle.be_reader.specs.Kinds.{a_window, a_view, a_handler, a_list, an_app, a_number, a_frame}
use Rattle.be_reader.specs.Kinds.{a_window_frame, a_place, an_across, a_down, a_last_color}
use Rattle.be_reader.specs.Kinds.{some_options, a_what, a_filter_what, a_rule, a_note, some_fields}
use Rattle.be_reader.specs.Kinds.{some_pixels, a_command, SaidAll}

-- what stands behind a first word, and what that makes
pub record Form : Type 0 where
  pub kinds : List Kind
  pub makes : SaidAll kinds → Deed

-- the table of lines
unfoldable pub form_of : Statement → Form
form_of statement.Screen =
    record { kinds = a_number 1 1024 ∷ a_number 1 768 ∷ []; makes = λ x. sizes_screen x.0 x.1.0 }
form_of statement.Bitmap =
    record {
      kinds = a_new_bitmap ∷ a_number 1 256 ∷ a_number 1 256 ∷ [];
      makes = λ x. begins_bitmap x.0 x.1.0 x.1.1.0;
    }
form_of statement.Row = record { kinds = some_pixels ∷ []; makes = λ x. adds_row x.0 }
form_of statement.Window = record {
  kinds = a_new_window ∷ a_window_frame ∷ some_options ∷ [];
  makes = λ x. adds_window (record {
    name = x.0;
    frame = x.1.0;
    first_click = x.1.1.0.first_click;
    avoid_focus = x.1.1.0.avoid_focus;
    port = x.1.1.0.port;
    color = x.1.1.0.color;
  });
}
form_of statement.View = record {
  kinds = a_window ∷ a_new_handler ∷ a_view ∷ a_frame ∷ an_across ∷ a_down ∷ a_last_color ∷ [];
  makes = λ x. adds_view (record {
    window = x.0;
    name = x.1.0;
    parent = x.1.1.0;
    frame = x.1.1.1.0;
    mode = record { across = x.1.1.1.1.0; down = x.1.1.1.1.1.0 };
    color = x.1.1.1.1.1.1.0;
  });
}
form_of statement.Handler = record {
  kinds = a_window ∷ a_new_handler ∷ a_handler ∷ [];
  makes = λ x. adds_handler (record { window = x.0; name = x.1.0; next = x.1.1.0 });
}
form_of statement.Filter = record {
  kinds = a_window ∷ a_list ∷ a_filter_what ∷ a_rule ∷ [];
  makes =
      λ x. adds_filter (record { window = x.0; list = x.1.0; what = x.1.1.0; rule = x.1.1.1.0 });
}
form_of statement.On =
    record {
      kinds = a_window ∷ a_handler ∷ a_what ∷ [];
      makes = λ x. begins_body x.0 x.1.0 x.1.1.0;
    }
form_of statement.Draw =
    record { kinds = a_window ∷ a_view ∷ []; makes = λ x. begins_draw x.0 x.1.0 }
form_of statement.App = record { kinds = a_new_app ∷ []; makes = λ x. begins_program x.0 }
form_of statement.Press = record { kinds = a_place ∷ []; makes = λ x. adds_input (input.Press x.0) }
form_of statement.Release =
    record { kinds = a_place ∷ []; makes = λ x. adds_input (input.Release x.0) }
form_of statement.Point = record { kinds = a_place ∷ []; makes = λ x. adds_input (input.Move x.0) }
form_of statement.Key =
    record { kinds = a_number 0 255 ∷ []; makes = λ x. adds_input (input.Key (pos x.0)) }
form_of statement.After = record { kinds = an_app ∷ []; makes = λ x. adds_input (input.After x.0) }
form_of statement.End = record { kinds = []; makes = λ x. closes }
form_of statement.Note =
    record { kinds = a_note ∷ []; makes = λ x. adds_step (instruction.Note x.0) }
form_of statement.Post = record {
  kinds = a_window ∷ a_handler ∷ a_what ∷ some_fields ∷ [];
  makes =
      λ x. adds_step (instruction.Post x.0 x.1.0 (record { what = x.1.1.0; words = x.1.1.1.0 }));
}
form_of statement.Send = record {
  kinds = a_window ∷ a_handler ∷ a_what ∷ some_fields ∷ [];
  makes =
      λ x. adds_step (instruction.Send x.0 x.1.0 (record { what = x.1.1.0; words = x.1.1.1.0 }));
}
form_of statement.Reply = record {
  kinds = a_what ∷ some_fields ∷ [];
  makes = λ x. adds_step (instruction.Reply (record { what = x.0; words = x.1.0 }));
}
form_of statement.Forward =
    record {
      kinds = a_window ∷ a_handler ∷ [];
      makes = λ x. adds_step (instruction.Forward x.0 x.1.0);
    }
form_of statement.Lock =
    record { kinds = a_window ∷ []; makes = λ x. adds_step (instruction.Lock x.0) }
form_of statement.Unlock = record { kinds = []; makes = λ x. adds_step instruction.Unlock }
form_of statement.Flush = record { kinds = []; makes = λ x. adds_step instruction.Flush }
form_of statement.Sync = record { kinds = []; makes = λ x. adds_step instruction.Sync }
form_of (statement.Command word) =
    record { kinds = a_command ∷ []; makes = λ x. adds_step (instruction.Draw x.0) }
