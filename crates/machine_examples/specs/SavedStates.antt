-- A pop with nothing saved, and one push too many. All entries, the screen, the traces and the
-- work.
use Rattle.std.specs.Prelude.{◌≡◌, pos, false, List, [], ◌∷◌, map}
use Rattle.be_actor.specs.declared.Instruction.TheVariants as instruction
use Rattle.be_color.specs.declared.colors.Color.TheVariants.{Solid}
use Rattle.be_command.specs.declared.Command.TheVariants as command
use Rattle.be_machine.specs.Activities as runner
use Rattle.be_machine.specs.declared.Act.TheVariants as act
use Rattle.be_machine.specs.declared.Entry.{Entry}
use Rattle.be_machine.specs.History.{state_after}
use Rattle.be_machine.specs.Schedule.{first_entries}
use Rattle.be_script.specs.Script.{Declared}
use Rattle.be_script.specs.Work.{work_of}
use Rattle.be_twin.specs.declared.Outcome.TheVariants as outcome
use Rattle.machine_examples.specs.Words.{rect, rgb, entry, shown_traces}

abbrev pub row : Declared
row = record {
  width = 1;
  height = 1;
  pictures = [];
  windows =
      record {
        name = (97 ∷ []);
        frame = (rect (pos 0) (pos 0) (pos 0) (pos 0));
        first_click = false;
        avoid_focus = false;
        port = 100;
        color = (Solid (rgb 255 255 255));
      } ∷ [];
  views = [];
  handlers = [];
  filters = [];
  bodies = [];
  draws = [];
  apps =
      record {
        name = (109 ∷ []);
        program = instruction.Lock 0 ∷ instruction.Draw (command.Pop 0) ∷
            instruction.Draw (command.Push 0) ∷ instruction.Draw (command.Push 0) ∷ instruction.Draw
            (command.Push 0) ∷ instruction.Draw (command.Push 0) ∷ instruction.Draw
            (command.Push 0) ∷
            instruction.Draw (command.Push 0) ∷ instruction.Draw (command.Push 0) ∷ instruction.Draw
            (command.Push 0) ∷ instruction.Draw (command.Push 0) ∷ instruction.Draw
            (command.Push 0) ∷
            instruction.Draw (command.Push 0) ∷ instruction.Draw (command.Push 0) ∷ instruction.Draw
            (command.Push 0) ∷ instruction.Draw (command.Push 0) ∷ instruction.Draw
            (command.Push 0) ∷
            instruction.Draw (command.Push 0) ∷ instruction.Draw (command.Push 0) ∷
            instruction.Unlock ∷ [];
      } ∷ [];
  input = [];
}

abbrev pub history : List Entry
history =
    entry 0 (act.Lock 0)
    ∷ entry 0 (act.Draw 0 1)
    ∷ entry 0 (act.Draw 0 2)
    ∷ entry 0 (act.Draw 0 3)
    ∷ entry 0 (act.Draw 0 4)
    ∷ entry 0 (act.Draw 0 5)
    ∷ entry 0 (act.Draw 0 6)
    ∷ entry 0 (act.Draw 0 7)
    ∷ entry 0 (act.Draw 0 8)
    ∷ entry 0 (act.Draw 0 9)
    ∷ entry 0 (act.Draw 0 10)
    ∷ entry 0 (act.Draw 0 11)
    ∷ entry 0 (act.Draw 0 12)
    ∷ entry 0 (act.Draw 0 13)
    ∷ entry 0 (act.Draw 0 14)
    ∷ entry 0 (act.Draw 0 15)
    ∷ entry 0 (act.Draw 0 16)
    ∷ entry 0 (act.Draw 0 17)
    ∷ entry 0 (act.Draw 0 18)
    ∷ entry 0 (act.Flush 0 18)
    ∷ entry 0 (act.Unlock 0)
    ∷ entry 2 (act.Exec 1 outcome.StackEmpty)
    ∷ entry 2 (act.Exec 2 outcome.Done)
    ∷ entry 2 (act.Exec 3 outcome.Done)
    ∷ entry 2 (act.Exec 4 outcome.Done)
    ∷ entry 2 (act.Exec 5 outcome.Done)
    ∷ entry 2 (act.Exec 6 outcome.Done)
    ∷ entry 2 (act.Exec 7 outcome.Done)
    ∷ entry 2 (act.Exec 8 outcome.Done)
    ∷ entry 2 (act.Exec 9 outcome.Done)
    ∷ entry 2 (act.Exec 10 outcome.Done)
    ∷ entry 2 (act.Exec 11 outcome.Done)
    ∷ entry 2 (act.Exec 12 outcome.Done)
    ∷ entry 2 (act.Exec 13 outcome.Done)
    ∷ entry 2 (act.Exec 14 outcome.Done)
    ∷ entry 2 (act.Exec 15 outcome.Done)
    ∷ entry 2 (act.Exec 16 outcome.Done)
    ∷ entry 2 (act.Exec 17 outcome.Done)
    ∷ entry 2 (act.Exec 18 outcome.StackFull)
    ∷ entry 4 (act.Stop) ∷ []

-- what the machine makes of the script
pub record Holds : Type 0 where
  pub entries : first_entries 41 row 0 ≡ history
  pub screen : map (λ c. c.rgb) (state_after row history).screen ≡ (rgb 51 102 152) ∷ []
  pub work : work_of row ≡ 58
  pub trace_0 : shown_traces row (runner.app 0) history ≡ []
  pub trace_1 : shown_traces row (runner.looper 0) history ≡ []
