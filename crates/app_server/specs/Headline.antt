-- What the answer of a call of the server says of the source and the sink that it was given, where
-- bytes are told.
use Rattle.std.specs.Prelude.{◌≡◌, ℕ, ◌+◌, ◌≤◌, ◌⊎◌, List, [], length, Option, Some, None}
use Rattle.app_server.specs.declared.command.CommandWords.{CommandWords}
use Rattle.app_server.specs.declared.command.CommandWords.TheVariants.{Run, Serial, Check, Make}
use Rattle.app_server.specs.declared.command.CommandWords.TheVariants.{Drill, Replay, Explain}
use Rattle.app_server.specs.declared.command.CommandWords.TheVariants.{Picture, Archive}
use Rattle.app_server.specs.declared.command.CommandWords.TheVariants.{Unarchive, Buttons}
use Rattle.app_server.specs.declared.status.Status.{Status}
use Rattle.app_server.specs.declared.status.Status.TheVariants.{Finished, Illegal, Usage}
use Rattle.app_server.specs.declared.status.Status.TheVariants.{BadScript, ReadFault, WriteFault}
use Rattle.app_server.specs.declared.status.Status.TheVariants.{NoMemory}
use Rattle.app_server.specs.Answers.{IsServed}
use Rattle.be_outside.specs.Faults.{FaultsRose}
use Rattle.be_outside.specs.Telling.{with_front, with_end, IsDrained}

-- ---- what a call does to an object

-- the object before the call and after it, the bytes that it tells then, and how often its calls
-- have failed
pub record Turn (Object : Type 0) : Type 0 where
  pub old : Object
  pub new : Object
  pub before : Option (List ℕ)
  pub after : Option (List ℕ)
  pub faults_before : ℕ
  pub faults_after : ℕ

abbrev pub turn :
    {Object : Type 0} → (Object → Option (List ℕ)) → (Object → ℕ) → Object → Object → Turn Object
turn told faults old new = record {
  old = old;
  new = new;
  before = told old;
  after = told new;
  faults_before = faults old;
  faults_after = faults new;
}

-- the call leaves the object as it was
abbrev pub IsUntouched : {Object : Type 0} → Turn Object → Type 0
IsUntouched t = t.new ≡ t.old

-- a call on the object failed meanwhile
abbrev pub HasFailed : {Object : Type 0} → Turn Object → Type 0
HasFailed t = FaultsRose t.faults_before t.faults_after

-- ---- what was read

-- how many bytes the input of a command may have; one that reads nothing has none
abbrev pub most_bytes : CommandWords → Option ℕ
most_bytes Run = Some 1048576
most_bytes (Serial seed) = Some 1048576
most_bytes Check = Some 1048576
most_bytes (Make n) = None
most_bytes (Drill n) = None
most_bytes Replay = Some 67108864
most_bytes (Explain x y) = Some 67108864
most_bytes (Picture width height) = Some 1048576
most_bytes (Archive w) = Some 1048576
most_bytes Unarchive = Some 1048576
most_bytes Buttons = Some 67108864

-- the bytes are those that the source had left before the call and not after it: all of them, or
-- one more than the most
pub record WasRead {Object : Type 0} (most : ℕ) (source : Turn Object) (bytes : List ℕ)
    : Type 0 where
  pub front : source.before ≡ with_front bytes source.after
  pub within : length bytes ≤ most + 1
  pub whole : IsDrained source.after ⊎ (length bytes ≡ most + 1)

abbrev pub WasReadBy : {Object : Type 0} → Option ℕ → Turn Object → List ℕ → Type 0
WasReadBy (Some most) source bytes = WasRead most source bytes
WasReadBy None source bytes = IsUntouched source × (bytes ≡ [])

-- ---- the answer

-- what was read is answered so, and just what belongs to that answer was written
pub record IsCall {S K : Type 0} (command : CommandWords) (source : Turn S) (sink : Turn K)
    (status : Status) : Type 0 where
  pub bytes : List ℕ
  pub written : List ℕ
  pub read : WasReadBy (most_bytes command) source bytes
  pub served : IsServed command bytes written status
  pub put : sink.after ≡ with_end sink.before written

abbrev pub Answers : {S K : Type 0} → CommandWords → Turn S → Turn K → Status → Type 0
Answers command source sink Finished = IsCall command source sink Finished
Answers command source sink (Illegal entry) =
    IsCall command source sink (Illegal entry) × IsUntouched sink
Answers command source sink Usage = ⊥
Answers command source sink (BadScript line reason) =
    IsCall command source sink (BadScript line reason) × IsUntouched sink
Answers command source sink ReadFault = HasFailed source × IsUntouched sink
Answers command source sink WriteFault = HasFailed sink × IsCall command source sink WriteFault
Answers command source sink NoMemory = IsUntouched sink

-- words that are no command's touch nothing
abbrev pub AnswersWords :
    {S K : Type 0} → Option CommandWords → Turn S → Turn K → Status → Type 0
AnswersWords (Some command) source sink status = Answers command source sink status
AnswersWords None source sink status = (status ≡ Usage) × IsUntouched source × IsUntouched sink
