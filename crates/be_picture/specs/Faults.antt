-- What the faults say (they are this project's own).
use Rattle.std.specs.Prelude.{◌≡◌, ◌≤◌, ℕ, List, [], ◌∷◌, ◌++◌, Option, Some, None, Result, Ok, Err}
use Rattle.be_command.specs.declared.Command.{Command}
use Rattle.be_command.specs.declared.fault.Reason.{Reason}
use Rattle.be_picture.specs.declared.fault.LineFault.{LineFault}
use Rattle.be_picture.specs.declared.fault.LineFault.TheVariants as line
use Rattle.be_picture.specs.declared.fault.PictureFault.{PictureFault}
use Rattle.be_picture.specs.declared.fault.PictureFault.TheVariants as picture
use Rattle.be_picture.specs.declared.fault.RecordFault.{RecordFault}
use Rattle.be_picture.specs.declared.fault.RecordFault.TheVariants as fault
use Rattle.be_picture.specs.declared.recorder.Judged.{Judged}
use Rattle.be_picture.specs.declared.recorder.Judged.TheVariants as judged
use Rattle.be_picture.specs.Recording.{Refusal, not_drawing, unbalanced, too_deep, too_many}
use Rattle.be_picture.specs.Recording.{open_pushes, refusal}
use Rattle.be_picture.specs.Text.{Fault}

-- ---- recording

-- the command comes back with the reason; memory wants only where there is none
abbrev pub IsRecordFault : RecordFault → Command → Option Refusal → Type 0
IsRecordFault (fault.NotDrawing back) c reason = (back ≡ c) × (reason ≡ Some not_drawing)
IsRecordFault (fault.Unbalanced back) c reason = (back ≡ c) × (reason ≡ Some unbalanced)
IsRecordFault (fault.TooDeep back) c reason = (back ≡ c) × (reason ≡ Some too_deep)
IsRecordFault (fault.TooMany back) c reason = (back ≡ c) × (reason ≡ Some too_many)
IsRecordFault (fault.NoMemory back) c reason = (back ≡ c) × (reason ≡ None)

-- the reason against the command behind these, or how many pushes are open with it
abbrev pub IsJudged : List Command → Command → Judged → Type 0
IsJudged cs c judged.NotDrawing = refusal cs c ≡ Some not_drawing
IsJudged cs c judged.Unbalanced = refusal cs c ≡ Some unbalanced
IsJudged cs c judged.TooDeep = refusal cs c ≡ Some too_deep
IsJudged cs c judged.TooMany = refusal cs c ≡ Some too_many
IsJudged cs c (judged.Recorded pushes) =
    (refusal cs c ≡ None) × (pushes ≡ open_pushes (cs ++ c ∷ [])) × (pushes ≤ 15)

-- ---- reading

-- what a line makes of the commands was made, or its reason told; there may be no memory for either
abbrev pub IsTaken :
    Result (List Command) Reason → List Command → Result (Unit {0}) LineFault → Type 0
IsTaken due new (Ok done) = due ≡ Ok new
IsTaken due new (Err (line.Bad reason)) = due ≡ Err reason
IsTaken due new (Err line.NoMemory) = Unit {0}

-- the fault of the line with this number
abbrev pub fault_at : ℕ → LineFault → PictureFault
fault_at number (line.Bad reason) = picture.At number reason
fault_at number line.NoMemory = picture.NoMemory

-- bytes are read as the picture that they are, or refused for their fault; there may be no memory
-- for either
abbrev pub IsRead :
    Result (List Command) Fault → Result (List Command) PictureFault → Type 0
IsRead due (Ok commands) = due ≡ Ok commands
IsRead due (Err (picture.At number reason)) = due ≡ Err (record { line = number; reason = reason })
IsRead due (Err picture.NoMemory) = Unit {0}
