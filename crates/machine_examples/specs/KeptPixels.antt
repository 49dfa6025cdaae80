-- What invalidating changes, and which pixels stay where another window is shown: a window with a
-- child is filled and the child is invalidated, then a second window covers the child.
use Rattle.std.specs.Prelude.{◌≡◌, pos, true, false, List, [], ◌∷◌, Some, take}
use Rattle.be_actor.specs.declared.Instruction.TheVariants as instruction
use Rattle.be_color.specs.declared.colors.Color.TheVariants.{Solid}
use Rattle.be_command.specs.declared.Command.TheVariants as command
use Rattle.be_desk.specs.Changes.{view_here}
use Rattle.be_follow.specs.declared.mode.Across.TheVariants as across
use Rattle.be_follow.specs.declared.mode.Down.TheVariants as down
use Rattle.be_geom.specs.declared.change.Change.TheVariants as change
use Rattle.be_machine.specs.declared.Act.TheVariants as act
use Rattle.be_machine.specs.declared.EndAnswer.TheVariants as end
use Rattle.be_machine.specs.declared.Entry.{Entry}
use Rattle.be_machine.specs.History.{state_after}
use Rattle.be_machine.specs.Pixels.{color_at, mark_at, owner_in}
use Rattle.be_machine.specs.Schedule.{first_entries}
use Rattle.be_machine.specs.State.{State}
use Rattle.be_script.specs.Script.{Declared}
use Rattle.be_twin.specs.declared.Outcome.TheVariants as outcome
use Rattle.machine_examples.specs.Words.{rect, rgb, pattern, entry}

-- of the first window's two pixels the child has the right one, which the second window covers
abbrev pub row : Declared
row = record {
  width = 3;
  height = 1;
  pictures = [];
  windows =
      record {
        name = (97 ∷ []);
        frame = (rect (pos 0) (pos 0) (pos 1) (pos 0));
        first_click = false;
        avoid_focus = false;
        port = 100;
        color = (Solid (rgb 255 255 255));
      } ∷
      record {
        name = (98 ∷ []);
        frame = (rect (pos 1) (pos 0) (pos 2) (pos 0));
        first_click = false;
        avoid_focus = false;
        port = 100;
        color = (Solid (rgb 0 0 255));
      } ∷ [];
  views =
      record {
        window = 0;
        name = (107 ∷ []);
        parent = 0;
        frame = (rect (pos 1) (pos 0) (pos 1) (pos 0));
        mode = record { across = across.Left; down = down.Top };
        color = (Solid (rgb 0 255 0));
      } ∷ [];
  handlers = [];
  filters = [];
  bodies = [];
  draws = [];
  apps =
      record {
        name = (109 ∷ []);
        program = instruction.Lock 0 ∷ instruction.Draw
            (command.Change change.Show) ∷ instruction.Draw
            (command.Fill 0 (rect (pos 0) (pos 0) (pos 9) (pos 9))
            (pattern (255 ∷ 255 ∷ 255 ∷ 255 ∷ 255 ∷ 255 ∷ 255 ∷ 255 ∷ []))) ∷ instruction.Draw
            (command.Fill 1 (rect (pos 0) (pos 0) (pos 9) (pos 9))
            (pattern (255 ∷ 255 ∷ 255 ∷ 255 ∷ 255 ∷ 255 ∷ 255 ∷ 255 ∷ []))) ∷ instruction.Draw
            (command.Invalidate 1 (rect (pos 0) (pos 0) (pos 9) (pos 9))) ∷ instruction.Unlock ∷
            instruction.Lock 1 ∷ instruction.Draw (command.Change change.Show) ∷
            instruction.Unlock ∷ [];
      } ∷ [];
  input = [];
}

abbrev pub history : List Entry
history =
    entry 0 (act.Lock 0)
    ∷ entry 0 (act.Draw 0 1)
    ∷ entry 0 (act.Draw 0 2)
    ∷ entry 0 (act.Draw 0 3)
    ∷ entry 0 (act.Draw 0 4)
    ∷ entry 0 (act.Flush 0 4)
    ∷ entry 0 (act.Unlock 0)
    ∷ entry 0 (act.Lock 1)
    ∷ entry 0 (act.Draw 1 1)
    ∷ entry 0 (act.Flush 1 1)
    ∷ entry 0 (act.Unlock 1)
    ∷ entry 2 (act.Exec 1 outcome.Done)
    ∷ entry 2 (act.Notify 1)
    ∷ entry 1 (act.Take 1)
    ∷ entry 2 (act.Exec 2 outcome.Done)
    ∷ entry 2 (act.Exec 3 outcome.Done)
    ∷ entry 2 (act.Exec 4 outcome.Done)
    ∷ entry 1 (act.Begin true)
    ∷ entry 1 (act.Draw 0 5)
    ∷ entry 1 (act.Flush 0 1)
    ∷ entry 1 (act.End end.Nothing)
    ∷ entry 2 (act.Exec 5 outcome.Done)
    ∷ entry 4 (act.Exec 1 outcome.Done)
    ∷ entry 4 (act.Notify 1)
    ∷ entry 3 (act.Take 1)
    ∷ entry 3 (act.Begin true)
    ∷ entry 3 (act.Draw 1 2)
    ∷ entry 3 (act.Flush 1 1)
    ∷ entry 3 (act.End end.Nothing)
    ∷ entry 4 (act.Exec 2 outcome.Done)
    ∷ entry 6 (act.Stop) ∷ []

-- both views are filled; the child is invalidated
abbrev pub filled : State
filled = state_after row (take 16 history)

abbrev pub invalidated : State
invalidated = state_after row (take 17 history)

-- the update is over; the second window is shown
abbrev pub updated : State
updated = state_after row (take 22 history)

abbrev pub covered : State
covered = state_after row (take 23 history)

-- what the laws say of these
pub record Holds : Type 0 where
  pub entries : first_entries 32 row 0 ≡ history
  -- invalidating the child gives its pixel the child's colour and a mark, and leaves the root's own
  pub child : view_here filled.desk 0 (pos 1) (pos 0) ≡ Some 1
  pub drawn : color_at filled (pos 1) (pos 0) ≡ Some (rgb 0 0 0)
  pub cleared : color_at invalidated (pos 1) (pos 0) ≡ Some (rgb 0 255 0)
  pub marked : mark_at invalidated (pos 1) (pos 0) ≡ Some true
  pub around : color_at invalidated (pos 0) (pos 0) ≡ Some (rgb 0 0 0)
  -- the pixel that stays with the first window keeps its colour, and isn't marked
  pub before : owner_in updated (pos 0) (pos 0) ≡ Some 0
  pub after : owner_in covered (pos 0) (pos 0) ≡ Some 0
  pub same_color : color_at covered (pos 0) (pos 0) ≡ Some (rgb 0 0 0)
  pub same_mark : mark_at covered (pos 0) (pos 0) ≡ Some false
  -- the one that passes to the second gets its colour and a mark
  pub left : owner_in updated (pos 1) (pos 0) ≡ Some 0
  pub passed : owner_in covered (pos 1) (pos 0) ≡ Some 1
  pub exposed : color_at covered (pos 1) (pos 0) ≡ Some (rgb 0 0 255)
  pub waiting : mark_at covered (pos 1) (pos 0) ≡ Some true
