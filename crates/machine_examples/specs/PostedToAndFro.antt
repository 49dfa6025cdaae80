-- Two windows post to one another until the eighth message is too deep. All entries, the screen,
-- the traces and the work.
use Rattle.std.specs.Prelude.{◌≡◌, pos, false, List, [], ◌∷◌, map}
use Rattle.be_actor.specs.declared.Instruction.TheVariants as instruction
use Rattle.be_color.specs.declared.colors.Color.TheVariants.{Solid}
use Rattle.be_handler.specs.declared.Route.TheVariants as route
use Rattle.be_machine.specs.Activities as runner
use Rattle.be_machine.specs.declared.Act.TheVariants as act
use Rattle.be_machine.specs.declared.EndAnswer.TheVariants as end
use Rattle.be_machine.specs.declared.Entry.{Entry}
use Rattle.be_machine.specs.History.{state_after}
use Rattle.be_machine.specs.Schedule.{first_entries}
use Rattle.be_message.specs.declared.target.Target.TheVariants as target
use Rattle.be_port.specs.declared.Posted.TheVariants as posted
use Rattle.be_port.specs.declared.Sender.TheVariants as sender
use Rattle.be_script.specs.Script.{Declared}
use Rattle.be_script.specs.Work.{work_of}
use Rattle.machine_examples.specs.Words.{rect, rgb, pattern, draft, entry, shown_traces}
use Rattle.machine_examples.specs.Words as shown

abbrev pub row : Declared
row = record {
  width = 1;
  height = 1;
  pictures = [];
  windows =
      record {
        name = (97 ∷ []);
        frame = (rect (pos 0) (pos 0) (pos 0) (pos 0));
        first_click = false;
        avoid_focus = false;
        port = 100;
        color = (Solid (rgb 255 255 255));
      } ∷
      record {
        name = (98 ∷ []);
        frame = (rect (pos 0) (pos 0) (pos 0) (pos 0));
        first_click = false;
        avoid_focus = false;
        port = 100;
        color = (Solid (rgb 255 255 255));
      } ∷ [];
  views = [];
  handlers = [];
  filters = [];
  bodies =
      record {
        window = 0;
        target = target.Window;
        what = 1346981447;
        program = instruction.Post 1 target.Window (draft 1346981447 ([])) ∷ [];
      } ∷
      record {
        window = 1;
        target = target.Window;
        what = 1346981447;
        program = instruction.Post 0 target.Window (draft 1346981447 ([])) ∷ [];
      } ∷ [];
  draws = [];
  apps =
      record {
        name = (109 ∷ []);
        program = instruction.Post 0 target.Window
            (draft 1346981447 ([])) ∷ [];
      } ∷ [];
  input = [];
}

abbrev pub history : List Entry
history =
    entry 0 (act.Post 0 (posted.Accepted 1))
    ∷ entry 1 (act.Take 1)
    ∷ entry 1 (act.Post 1 (posted.Accepted 1))
    ∷ entry 1 (act.End end.Nothing)
    ∷ entry 3 (act.Take 1)
    ∷ entry 3 (act.Post 0 (posted.Accepted 2))
    ∷ entry 1 (act.Take 2)
    ∷ entry 1 (act.Post 1 (posted.Accepted 2))
    ∷ entry 1 (act.End end.Nothing)
    ∷ entry 3 (act.End end.Nothing)
    ∷ entry 3 (act.Take 2)
    ∷ entry 3 (act.Post 0 (posted.Accepted 3))
    ∷ entry 1 (act.Take 3)
    ∷ entry 1 (act.Post 1 (posted.Accepted 3))
    ∷ entry 1 (act.End end.Nothing)
    ∷ entry 3 (act.End end.Nothing)
    ∷ entry 3 (act.Take 3)
    ∷ entry 3 (act.Post 0 (posted.Accepted 4))
    ∷ entry 1 (act.Take 4)
    ∷ entry 1 (act.Post 1 (posted.Accepted 4))
    ∷ entry 1 (act.End end.Nothing)
    ∷ entry 3 (act.End end.Nothing)
    ∷ entry 3 (act.Take 4)
    ∷ entry 3 (act.Post 0 posted.TooDeep)
    ∷ entry 3 (act.End end.Nothing)
    ∷ entry 6 (act.Stop) ∷ []

-- what the machine makes of the script
pub record Holds : Type 0 where
  pub entries : first_entries 27 row 0 ≡ history
  pub screen : map (λ c. c.rgb) (state_after row history).screen ≡ (rgb 51 102 152) ∷ []
  pub work : work_of row ≡ 34
  pub trace_0 : shown_traces row (runner.app 0) history ≡ []
  pub trace_1 : shown_traces row (runner.looper 0) history
      ≡ shown.Took 1 (sender.App 0) 0 target.Window (route.Handler target.Window)
      (shown.message 1346981447 ([])) ∷ shown.Took 2 (sender.Looper 1) 2 target.Window
      (route.Handler target.Window) (shown.message 1346981447 ([])) ∷ shown.Took 3 (sender.Looper 1)
      4 target.Window (route.Handler target.Window) (shown.message 1346981447 ([])) ∷ shown.Took 4
      (sender.Looper 1) 6 target.Window (route.Handler target.Window)
      (shown.message 1346981447 ([])) ∷ []
  pub trace_2 : shown_traces row (runner.looper 1) history
      ≡ shown.Took 1 (sender.Looper 0) 1 target.Window (route.Handler target.Window)
      (shown.message 1346981447 ([])) ∷ shown.Took 2 (sender.Looper 0) 3 target.Window
      (route.Handler target.Window) (shown.message 1346981447 ([])) ∷ shown.Took 3 (sender.Looper 0)
      5 target.Window (route.Handler target.Window) (shown.message 1346981447 ([])) ∷ shown.Took 4
      (sender.Looper 0) 7 target.Window (route.Handler target.Window)
      (shown.message 1346981447 ([])) ∷ []
