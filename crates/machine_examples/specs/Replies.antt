-- A message that nobody understands, one that gets no reply, and one that gets its reply and a
-- second one. All entries, the screen, the traces and the work.
use Rattle.std.specs.Prelude.{◌≡◌, pos, false, List, [], ◌∷◌, map}
use Rattle.be_actor.specs.declared.Instruction.TheVariants as instruction
use Rattle.be_actor.specs.Drafts.{value}
use Rattle.be_color.specs.declared.colors.Color.TheVariants.{Solid}
use Rattle.be_handler.specs.declared.Route.TheVariants as route
use Rattle.be_machine.specs.Activities as runner
use Rattle.be_machine.specs.declared.Act.TheVariants as act
use Rattle.be_machine.specs.declared.Answered.TheVariants as answered
use Rattle.be_machine.specs.declared.EndAnswer.TheVariants as end
use Rattle.be_machine.specs.declared.Entry.{Entry}
use Rattle.be_machine.specs.declared.Replied.TheVariants as replied
use Rattle.be_machine.specs.History.{state_after}
use Rattle.be_machine.specs.Schedule.{first_entries}
use Rattle.be_message.specs.declared.kind.Kind.TheVariants as kind
use Rattle.be_message.specs.declared.target.Target.TheVariants as target
use Rattle.be_message.specs.Messages.{int}
use Rattle.be_port.specs.declared.Posted.TheVariants as posted
use Rattle.be_port.specs.declared.Sender.TheVariants as sender
use Rattle.be_script.specs.Script.{Declared}
use Rattle.be_script.specs.Work.{work_of}
use Rattle.machine_examples.specs.Words.{rect, rgb, pattern, draft, entry, shown_traces}
use Rattle.machine_examples.specs.Words as shown

abbrev pub row : Declared
row = record {
  width = 1;
  height = 1;
  pictures = [];
  windows =
      record {
        name = (97 ∷ []);
        frame = (rect (pos 0) (pos 0) (pos 0) (pos 0));
        first_click = false;
        avoid_focus = false;
        port = 100;
        color = (Solid (rgb 255 255 255));
      } ∷ [];
  views = [];
  handlers = [];
  filters = [];
  bodies =
      record { window = 0; target = target.Window; what = 1095977777; program = [] } ∷
      record {
        window = 0;
        target = target.Window;
        what = 1095977778;
        program = instruction.Reply (draft 1497715551 (value (110 ∷ []) (int (pos 1)) ∷ [])) ∷
            instruction.Reply (draft 1313824607 ([])) ∷ [];
      } ∷ [];
  draws = [];
  apps =
      record {
        name = (109 ∷ []);
        program = instruction.Send 0 target.Window
            (draft 1464356703 ([])) ∷ instruction.Send 0 target.Window (draft 1095977777 ([])) ∷
            instruction.Send 0 target.Window (draft 1095977778 ([])) ∷ [];
      } ∷ [];
  input = [];
}

abbrev pub history : List Entry
history =
    entry 0 (act.Post 0 (posted.Accepted 1))
    ∷ entry 1 (act.Take 1)
    ∷ entry 1 (act.End end.Unknown)
    ∷ entry 0 (act.Claim answered.Unknown)
    ∷ entry 0 (act.Post 0 (posted.Accepted 2))
    ∷ entry 1 (act.Take 2)
    ∷ entry 1 (act.End end.NoReply)
    ∷ entry 0 (act.Claim answered.NoReply)
    ∷ entry 0 (act.Post 0 (posted.Accepted 3))
    ∷ entry 1 (act.Take 3)
    ∷ entry 1 (act.Reply replied.Accepted)
    ∷ entry 0 (act.Claim answered.Reply)
    ∷ entry 1 (act.Reply replied.Duplicate)
    ∷ entry 1 (act.End end.Nothing)
    ∷ entry 4 (act.Stop) ∷ []

-- what the machine makes of the script
pub record Holds : Type 0 where
  pub entries : first_entries 16 row 0 ≡ history
  pub screen : map (λ c. c.rgb) (state_after row history).screen ≡ (rgb 51 102 152) ∷ []
  pub work : work_of row ≡ 18
  pub trace_0 : shown_traces row (runner.app 0) history
      ≡ shown.Got (shown.message 1313821781 ([])) ∷ shown.Got (shown.message 1313821253 ([])) ∷
      shown.Got (shown.message 1497715551
      ((shown.field (110 ∷ []) kind.Int ((int (pos 1)) ∷ [])) ∷ [])) ∷ []
  pub trace_1 : shown_traces row (runner.looper 0) history
      ≡ shown.Took 1 (sender.App 0) 0 target.Window route.Unknown (shown.message 1464356703 ([])) ∷
      shown.Took 2 (sender.App 0) 0 target.Window (route.Handler target.Window)
      (shown.message 1095977777 ([])) ∷ shown.Took 3 (sender.App 0) 0 target.Window
      (route.Handler target.Window) (shown.message 1095977778 ([])) ∷ shown.Replied
      (shown.message 1497715551 ((shown.field (110 ∷ []) kind.Int ((int (pos 1)) ∷ [])) ∷ [])) ∷ []
