-- A bitmap with a transparent pixel. All entries, the screen, the traces and the work.
use Rattle.std.specs.Prelude.{◌≡◌, pos, true, false, List, [], ◌∷◌, map}
use Rattle.be_actor.specs.declared.Instruction.TheVariants as instruction
use Rattle.be_color.specs.declared.colors.Color.TheVariants.{Solid, Clear}
use Rattle.be_command.specs.declared.Command.TheVariants as command
use Rattle.be_geom.specs.declared.change.Change.TheVariants as change
use Rattle.be_geom.specs.Places.{at_pixel}
use Rattle.be_handler.specs.declared.Route.TheVariants as route
use Rattle.be_machine.specs.Activities as runner
use Rattle.be_machine.specs.declared.Act.TheVariants as act
use Rattle.be_machine.specs.declared.EndAnswer.TheVariants as end
use Rattle.be_machine.specs.declared.Entry.{Entry}
use Rattle.be_machine.specs.History.{state_after}
use Rattle.be_machine.specs.Schedule.{first_entries}
use Rattle.be_message.specs.declared.target.Target.TheVariants as target
use Rattle.be_port.specs.declared.Sender.TheVariants as sender
use Rattle.be_script.specs.Script.{Declared}
use Rattle.be_script.specs.Work.{work_of}
use Rattle.be_twin.specs.declared.Outcome.TheVariants as outcome
use Rattle.machine_examples.specs.Words.{rect, rgb, pattern, draft, entry, shown_traces}
use Rattle.machine_examples.specs.Words as shown

abbrev pub row : Declared
row = record {
  width = 2;
  height = 1;
  pictures = record { width = 2; height = 1; colors = (Solid (rgb 255 0 0)) ∷ Clear ∷ [] } ∷ [];
  windows =
      record {
        name = (97 ∷ []);
        frame = (rect (pos 0) (pos 0) (pos 1) (pos 0));
        first_click = false;
        avoid_focus = false;
        port = 100;
        color = (Solid (rgb 255 255 255));
      } ∷ [];
  views = [];
  handlers = [];
  filters = [];
  bodies = [];
  draws = [];
  apps =
      record {
        name = (109 ∷ []);
        program = instruction.Lock 0 ∷ instruction.Draw
            (command.Change change.Show) ∷ instruction.Draw
            (command.Bitmap 0 0 (at_pixel (pos 0) (pos 0))) ∷ instruction.Unlock ∷ [];
      } ∷ [];
  input = [];
}

abbrev pub history : List Entry
history =
    entry 0 (act.Lock 0)
    ∷ entry 0 (act.Draw 0 1)
    ∷ entry 0 (act.Draw 0 2)
    ∷ entry 0 (act.Flush 0 2)
    ∷ entry 0 (act.Unlock 0)
    ∷ entry 2 (act.Exec 1 outcome.Done)
    ∷ entry 2 (act.Notify 1)
    ∷ entry 1 (act.Take 1)
    ∷ entry 2 (act.Exec 2 outcome.Done)
    ∷ entry 1 (act.Begin true)
    ∷ entry 1 (act.Draw 0 3)
    ∷ entry 1 (act.Flush 0 1)
    ∷ entry 1 (act.End end.Nothing)
    ∷ entry 2 (act.Exec 3 outcome.Done)
    ∷ entry 4 (act.Stop) ∷ []

-- what the machine makes of the script
pub record Holds : Type 0 where
  pub entries : first_entries 16 row 0 ≡ history
  pub screen : map (λ c. c.rgb) (state_after row history).screen
      ≡ (rgb 255 0 0) ∷ (rgb 255 255 255) ∷ []
  pub work : work_of row ≡ 18
  pub trace_0 : shown_traces row (runner.app 0) history ≡ []
  pub trace_1 : shown_traces row (runner.looper 0) history
      ≡ shown.Took 1 (sender.Twin 0) 0 target.Window (route.Handler target.Window)
      (shown.message 1431323732 ([])) ∷ shown.Listed 0 (rect (pos 0) (pos 0) (pos 1) (pos 0)) ∷ []
