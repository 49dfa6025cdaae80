-- What the laws of single pixels and of limits say, at a window with a child whose root is filled,
-- and at the row of replies.
use Rattle.std.specs.Prelude.{◌≡◌, pos, true, false, List, [], ◌∷◌, Some, None, map, take}
use Rattle.std.specs.Prelude.{slice_get, option_map}
use Rattle.be_actor.specs.declared.Instruction.TheVariants as instruction
use Rattle.be_color.specs.declared.colors.Color.TheVariants.{Solid}
use Rattle.be_command.specs.declared.Command.TheVariants as command
use Rattle.be_desk.specs.Changes.{view_here, color_of}
use Rattle.be_follow.specs.declared.mode.Across.TheVariants as across
use Rattle.be_follow.specs.declared.mode.Down.TheVariants as down
use Rattle.be_geom.specs.declared.change.Change.TheVariants as change
use Rattle.be_machine.specs.Activities as runner
use Rattle.be_machine.specs.declared.Act.TheVariants as act
use Rattle.be_machine.specs.declared.EndAnswer.TheVariants as end
use Rattle.be_machine.specs.declared.Entry.{Entry}
use Rattle.be_machine.specs.History.{state_after}
use Rattle.be_machine.specs.Looper.{cell_of}
use Rattle.be_machine.specs.Pixels.{color_at, mark_at, owner_in}
use Rattle.be_machine.specs.Program.{hand_at}
use Rattle.be_machine.specs.Schedule.{first_entries}
use Rattle.be_machine.specs.State.{State}
use Rattle.be_machine.specs.Update.{owes_notice}
use Rattle.be_machine.specs.Windows.{view_colors}
use Rattle.be_message.specs.Depths.{depth_of}
use Rattle.be_port.specs.Ports.{has_notice}
use Rattle.be_reply.specs.Cells as reply
use Rattle.be_script.specs.Programs.{is_command_for}
use Rattle.be_script.specs.Script.{Declared}
use Rattle.be_twin.specs.declared.Outcome.TheVariants as outcome
use Rattle.machine_examples.specs.Replies as replies
use Rattle.machine_examples.specs.Words.{rect, rgb, pattern, entry}

-- the child has the right one of two pixels
abbrev pub row : Declared
row = record {
  width = 2;
  height = 1;
  pictures = [];
  windows =
      record {
        name = (97 ∷ []);
        frame = (rect (pos 0) (pos 0) (pos 1) (pos 0));
        first_click = false;
        avoid_focus = false;
        port = 100;
        color = (Solid (rgb 255 255 255));
      } ∷ [];
  views =
      record {
        window = 0;
        name = (107 ∷ []);
        parent = 0;
        frame = (rect (pos 1) (pos 0) (pos 1) (pos 0));
        mode = record { across = across.Left; down = down.Top };
        color = (Solid (rgb 0 255 0));
      } ∷ [];
  handlers = [];
  filters = [];
  bodies = [];
  draws = [];
  apps =
      record {
        name = (109 ∷ []);
        program = instruction.Lock 0 ∷ instruction.Draw
            (command.Change change.Show) ∷ instruction.Draw
            (command.Fill 0 (rect (pos 0) (pos 0) (pos 9) (pos 9))
            (pattern (255 ∷ 255 ∷ 255 ∷ 255 ∷ 255 ∷ 255 ∷ 255 ∷ 255 ∷ []))) ∷
            instruction.Unlock ∷ [];
      } ∷ [];
  input = [];
}

abbrev pub history : List Entry
history =
    entry 0 (act.Lock 0)
    ∷ entry 0 (act.Draw 0 1)
    ∷ entry 0 (act.Draw 0 2)
    ∷ entry 0 (act.Flush 0 2)
    ∷ entry 0 (act.Unlock 0)
    ∷ entry 2 (act.Exec 1 outcome.Done)
    ∷ entry 2 (act.Notify 1)
    ∷ entry 1 (act.Take 1)
    ∷ entry 2 (act.Exec 2 outcome.Done)
    ∷ entry 1 (act.Begin true)
    ∷ entry 1 (act.Draw 0 3)
    ∷ entry 1 (act.Flush 0 1)
    ∷ entry 1 (act.End end.Nothing)
    ∷ entry 2 (act.Exec 3 outcome.Done)
    ∷ entry 4 (act.Stop) ∷ []

-- flushed; shown; filled, with the notice in hand; begun
abbrev pub flushed : State
flushed = state_after row (take 5 history)

abbrev pub shown : State
shown = state_after row (take 6 history)

abbrev pub filled : State
filled = state_after row (take 9 history)

abbrev pub begun : State
begun = state_after row (take 10 history)

-- what the laws say of these
pub record Holds : Type 0 where
  pub entries : first_entries 16 row 0 ≡ history
  -- a pixel that the window comes to own has a view, its colour and a mark
  pub nobody : owner_in flushed (pos 1) (pos 0) ≡ None
  pub owner : owner_in shown (pos 1) (pos 0) ≡ Some 0
  pub view : view_here shown.desk 0 (pos 1) (pos 0) ≡ Some 1
  pub color : color_of (view_colors shown) 0 (view_here shown.desk 0 (pos 1) (pos 0))
      ≡ Some (Solid (rgb 0 255 0))
  pub exposed : color_at shown (pos 1) (pos 0) ≡ Some (rgb 0 255 0)
  pub mark : mark_at shown (pos 1) (pos 0) ≡ Some true
  -- the fill of the root changes its own pixel, and not the child's
  pub painted : color_at filled (pos 0) (pos 0) ≡ Some (rgb 0 0 0)
  pub kept : color_at filled (pos 1) (pos 0) ≡ Some (rgb 0 255 0)
  -- the begin of the update takes the mark and leaves the colour
  pub unmarked : mark_at begun (pos 0) (pos 0) ≡ Some false
  pub same_color : color_at begun (pos 0) (pos 0) ≡ Some (rgb 0 0 0)
  -- the notice that is owed then finds an open port in which none waits
  pub owed : owes_notice shown 0 ≡ true
  pub alone : option_map (λ p. has_notice p) (slice_get shown.ports 0) ≡ Some false
  pub open_port : option_map (λ p. p.closed) (slice_get shown.ports 0) ≡ Some false
  -- both commands in the link are within their limits
  pub linked : option_map (map (λ c. is_command_for row 0 c.command)) (slice_get flushed.links 0)
      ≡ Some (true ∷ true ∷ [])
  -- before the begin a notice is on its way and no session is open, after it one is
  pub notified : option_map (λ pane. pane.notified) (slice_get filled.panes 0) ≡ Some true
  pub closed : option_map (λ pane. pane.session) (slice_get filled.panes 0) ≡ Some None
  -- an application that is about to send waits for nothing
  pub idle : cell_of (state_after replies.row []) (runner.app 0) ≡ Some reply.idle
  pub idle_again : cell_of (state_after replies.row (take 4 replies.history)) (runner.app 0)
      ≡ Some reply.idle
  pub waiting : cell_of (state_after replies.row (take 1 replies.history)) (runner.app 0)
      ≡ Some reply.waiting
  -- the message in hand lies no deeper than its hop allows
  pub depth : option_map (λ hand. depth_of hand.letter.body)
      (hand_at (state_after replies.row (take 2 replies.history)) 0) ≡ Some 1
