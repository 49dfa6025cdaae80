-- What is answered where the text that a command writes, or a front part of it, was written.
use Rattle.std.proofs.Common.{◌≡◌, ℕ, List, [], Option, Some, None, refl, sym, ap, subst}
use Rattle.std.proofs.lemmas.List.{append-nil}
use Rattle.app_server.specs.declared.command.CommandWords.{CommandWords}
use Rattle.app_server.specs.declared.command.CommandWords.TheVariants.{Run, Serial}
use Rattle.app_server.specs.declared.status.Status.{Status}
use Rattle.app_server.specs.declared.status.Status.TheVariants.{Finished, Illegal, Usage}
use Rattle.app_server.specs.declared.status.Status.TheVariants.{BadScript, ReadFault, WriteFault}
use Rattle.app_server.specs.declared.status.Status.TheVariants.{NoMemory}
use Rattle.app_server.specs.Answers.{IsIllegalFor}
use Rattle.app_server.specs.Headline.{Answers, Turn, WasReadBy, most_bytes, turn}
use Rattle.app_server.specs.Runs.{IsAnswered}
use Rattle.app_server.specs.Scripts.{Tells}
use Rattle.app_server.specs.Served.{Writes, WritesReport}
use Rattle.be_machine.specs.History.{IsFinished}
use Rattle.be_machine.specs.Laws.{EachHistoryIsOrderly}
use Rattle.be_machine.specs.Schedule.{IsScheduled}
use Rattle.be_machine.specs.declared.Entry.{Entry}
use Rattle.be_outside.specs.Telling.{with_end}
use Rattle.be_report.specs.Laws.{ReportTellsHistory}
use Rattle.be_report.specs.Report.{report_of}
use Rattle.be_script.specs.Limits.{IsWithinLimits}
use Rattle.be_script.specs.Script.{Declared, declared_by}
use Rattle.be_script.specs.declared.Script.{Script}

-- ---- a command that has read these bytes, of which it writes this text

module _ {S K : Type 0} (command : CommandWords) (source : Turn S) (sink : Turn K)
    (bytes text : List ℕ) (read : WasReadBy (most_bytes command) source bytes)
    (writes : Writes command bytes text) where
  pub answers : (status : Status) → IsAnswered text sink status
      → Answers command source sink status
  answers Finished put = record {
    bytes = bytes;
    written = text;
    read = read;
    served = writes;
    put = put;
  }
  answers WriteFault cut = (
    cut.0,
    record {
      bytes = bytes;
      written = cut.1.taken;
      read = read;
      served = record {
        rest = cut.1.rest;
        whole = subst (Writes command bytes) cut.1.parts writes;
      };
      put = cut.1.put;
    },
  )
  answers NoMemory untouched = untouched
  answers ReadFault never = absurd never
  answers (BadScript line reason) never = absurd never
  answers Usage never = absurd never
  answers (Illegal entry) never = absurd never

-- ---- a history that is told

nothing_put : (o : Option (List ℕ)) → o ≡ with_end o []
nothing_put (Some l) = ap Some (sym (append-nil l))
nothing_put None = refl

module _ {S K : Type 0} (command : CommandWords) (source : Turn S) (bytes : List ℕ)
    (read : WasReadBy (most_bytes command) source bytes)
    (told : K → Option (List ℕ)) (faults : K → ℕ) (sink : K) where
  pub illegal_answers : (entry : ℕ) → IsIllegalFor command bytes entry
      → Answers command source (turn told faults sink sink) (Illegal entry)
  illegal_answers entry is = (
    record {
      bytes = bytes;
      written = [];
      read = read;
      served = (is, refl);
      put = nothing_put (told sink);
    },
    refl,
  )

-- ---- a run

module _ {S K : Type 0} (source : Turn S) (sink : Turn K) (script : Script)
    (limits : IsWithinLimits (declared_by script)) (tells : Tells source script)
    (orderly : EachHistoryIsOrderly) (law : ReportTellsHistory) (h : List Entry)
    (finished : IsFinished (declared_by script) h) where
  abbrev d : Declared
  d = declared_by script

  writes_report : (IsChosen : Declared → List Entry → Type 0) → IsChosen d h
      → WritesReport IsChosen tells.bytes (report_of d h)
  writes_report IsChosen chosen = record {
    script = d;
    history = h;
    is_script = tells.said;
    told = law d h limits finished.legal;
    run = record { finished = finished; orderly = orderly d h limits finished.legal };
    chosen = chosen;
    report = refl;
  }

  pub serial_answers : (seed : ℕ) → IsScheduled d seed h → (status : Status)
      → IsAnswered (report_of d h) sink status → Answers (Serial seed) source sink status
  serial_answers seed scheduled =
      answers (Serial seed) source sink tells.bytes (report_of d h) tells.read
      (writes_report (λ d h. IsScheduled d seed h) scheduled)

  pub run_answers : (status : Status) → IsAnswered (report_of d h) sink status
      → Answers Run source sink status
  run_answers =
      answers Run source sink tells.bytes (report_of d h) tells.read
      (writes_report (λ d h. Unit {0}) tt)
