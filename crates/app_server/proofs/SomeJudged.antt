-- Of each input some judgement is right.
use Rattle.std.proofs.Common.{◌≡◌, ◌⊎◌, inl, inr, ℕ, ◌≤◌, List, [], Result, Ok, Err, refl, sym, ap}
use Rattle.std.proofs.Common.{subst, ◌∙◌, Option, Some}
use Rattle.std.specs.Prelude.{unwrap_or}
use Rattle.app_server.specs.declared.command.CommandWords.{CommandWords}
use Rattle.app_server.specs.declared.command.CommandWords.TheVariants.{Run, Serial, Check, Make}
use Rattle.app_server.specs.declared.command.CommandWords.TheVariants.{Drill, Replay, Explain}
use Rattle.app_server.specs.declared.command.CommandWords.TheVariants.{Picture, Archive}
use Rattle.app_server.specs.declared.command.CommandWords.TheVariants.{Unarchive, Buttons}
use Rattle.app_server.specs.declared.status.Status.{Status}
use Rattle.app_server.specs.declared.status.Status.TheVariants.{Finished, Illegal, Usage}
use Rattle.app_server.specs.declared.status.Status.TheVariants.{BadScript, ReadFault, WriteFault}
use Rattle.app_server.specs.declared.status.Status.TheVariants.{NoMemory}
use Rattle.app_server.specs.Answers.{IsBadFor, IsIllegalFor, TellsIllegal}
use Rattle.app_server.specs.CheckText.{check_text}
use Rattle.app_server.specs.DrillText.{drill_text}
use Rattle.app_server.specs.ExplainText.{explain_text}
use Rattle.app_server.specs.Inputs.{Told, all_declared, as_declared, picture_in, script_in, told_in}
use Rattle.app_server.specs.Laws.{Judgement, SomeJudgement}
use Rattle.app_server.specs.Served.{Writes, WritesOf, WritesReport}
use Rattle.app_server.proofs.ReadLimits.{read_within}
use Rattle.be_check.specs.Checking.{IsIllegalAt}
use Rattle.be_check.specs.Laws.{FinishedOrIllegal}
use Rattle.be_machine.specs.History.{IsFinished}
use Rattle.be_machine.specs.Laws.{EachHistoryIsOrderly, EachSeedHasOne}
use Rattle.be_machine.specs.Schedule.{IsScheduled}
use Rattle.be_machine.specs.declared.Entry.{Entry}
use Rattle.be_made.specs.Laws.{MadeIsScript}
use Rattle.be_made.specs.Made.{made}
use Rattle.be_pressed.specs.ButtonText.{buttons_text}
use Rattle.be_reader.specs.Grammar.{Fault, script_of}
use Rattle.be_report.specs.Laws.{ReportTellsHistory}
use Rattle.be_report.specs.Report.{report_of}
use Rattle.be_said.specs.SoFar.{declared_in}
use Rattle.be_script.specs.Script.{Declared}
use Rattle.be_sheet.specs.Sheets.{picture_screen}
use Rattle.be_trees.specs.Reading.{tree_of_line}
use Rattle.be_trees.specs.TreeText.{tree_text}

-- ---- a made script

pub made_script : (n : ℕ) → MadeIsScript → n ≤ 65535 → (d : Declared) × (script_in (made n) ≡ Ok d)
made_script n made_is low =
    let is = made_is n low in (
      declared_in is.0 (640, 480),
      ap as_declared is.1.0
          ∙ ap (λ (o : Option (ℕ × ℕ)). Ok (declared_in is.0 (unwrap_or o (0, 0)))) is.1.1,
    )

-- ---- by what the bytes are

module _ {X : Type 0} (read : List ℕ → Result X Fault) (command : CommandWords) (bytes : List ℕ)
    (bad : (f : Fault) → read bytes ≡ Err f → IsBadFor command bytes f.line f.reason)
    (good : (x : X) → read bytes ≡ Ok x → Judgement command bytes) where
  by_result : (r : Result X Fault) → read bytes ≡ r → Judgement command bytes
  by_result (Ok x) is = good x is
  by_result (Err f) is = record {
    status = BadScript f.line f.reason;
    judges = refl;
    written = [];
    served = (bad f is, refl);
  }

  judged : Judgement command bytes
  judged = by_result (read bytes) refl

writes : (command : CommandWords) (bytes written : List ℕ) → Writes command bytes written
    → Judgement command bytes
writes command bytes written is =
    record { status = Finished; judges = refl; written = written; served = is }

told_judged : (command : CommandWords) (bytes : List ℕ) (text : Declared → List Entry → List ℕ)
    (told : Told) (is : told_in bytes ≡ Ok told)
    → ((written : List ℕ) → WritesOf text bytes written → Writes command bytes written)
    → ((n : ℕ) → TellsIllegal bytes n → IsIllegalFor command bytes n)
    → IsFinished told.script told.history ⊎ ((n : ℕ) × IsIllegalAt told.script told.history n)
    → Judgement command bytes
told_judged command bytes text told is good ill (inl finished) =
    writes command bytes (text told.script told.history)
    (good (text told.script told.history)
    (record { told = told; is_told = is; finished = finished; says = refl }))
told_judged command bytes text told is good ill (inr at) = record {
  status = Illegal at.0;
  judges = refl;
  written = [];
  served = (ill at.0 (record { told = told; is_told = is; illegal = at.1 }), refl);
}

module _ (orderly : EachHistoryIsOrderly) (seeded : EachSeedHasOne) (tells : ReportTellsHistory)
    (decided : FinishedOrIllegal) (made_is : MadeIsScript) where
  report_written : (IsChosen : Declared → List Entry → Type 0) (bytes : List ℕ) (d : Declared)
      (h : List Entry) → script_in bytes ≡ Ok d → IsFinished d h → IsChosen d h
      → WritesReport IsChosen bytes (report_of d h)
  report_written IsChosen bytes d h is finished chosen = record {
    script = d;
    history = h;
    is_script = is;
    told = tells d h (read_within bytes d is) finished.legal;
    run = record { finished = finished; orderly = orderly d h (read_within bytes d is) finished.legal };
    chosen = chosen;
    report = refl;
  }

  run_judged : (bytes : List ℕ) (d : Declared) → script_in bytes ≡ Ok d → Judgement Run bytes
  run_judged bytes d is =
      let one = seeded d 0 (read_within bytes d is) in
      writes Run bytes (report_of d one.0)
      (report_written (λ d h. Unit {0}) bytes d one.0 is one.1.finished tt)

  serial_judged : (seed : ℕ) (bytes : List ℕ) (d : Declared) → script_in bytes ≡ Ok d
      → Judgement (Serial seed) bytes
  serial_judged seed bytes d is =
      let one = seeded d seed (read_within bytes d is) in
      writes (Serial seed) bytes (report_of d one.0)
      (report_written (λ d h. IsScheduled d seed h) bytes d one.0 is one.1.finished one.1)

  drill_judged : (n : ℕ) (bytes : List ℕ) (d : Declared) → script_in (made n) ≡ Ok d
      → Judgement (Drill n) bytes
  drill_judged n bytes d is =
      let limits = read_within (made n) d is in
      let one = seeded d n limits in
      writes (Drill n) bytes (drill_text d one.0) (record {
        script = d;
        history = one.0;
        is_script = is;
        run = record {
          finished = one.1.finished;
          orderly = orderly d one.0 limits one.1.finished.legal;
        };
        chosen = one.1;
        summary = refl;
      })

  pub some_judgement : SomeJudgement
  some_judgement Run bytes range has =
      judged script_in Run bytes (λ f is. is) (run_judged bytes)
  some_judgement (Serial seed) bytes range has =
      judged script_in (Serial seed) bytes (λ f is. is) (serial_judged seed bytes)
  some_judgement Check bytes range has = judged script_in Check bytes (λ f is. is)
      (λ d is. writes Check bytes (check_text d)
      (record { script = d; is_script = is; says = refl }))
  some_judgement (Make n) bytes range has = writes (Make n) bytes (made n) refl
  some_judgement (Drill n) bytes range has =
      let script = made_script n made_is range in
      drill_judged n bytes script.0 script.1
  some_judgement Replay bytes range has = judged told_in Replay bytes (λ f is. is)
      (λ told is. told_judged Replay bytes report_of told is (λ written it. it) (λ n it. it)
      (decided told.script told.history))
  some_judgement (Explain x y) bytes range has =
      judged told_in (Explain x y) bytes (λ f is. is)
      (λ told is. told_judged (Explain x y) bytes (λ d h. explain_text d h x y) told is
      (λ written it. it) (λ n it. it) (decided told.script told.history))
  some_judgement (Picture width height) bytes range has =
      judged picture_in (Picture width height) bytes (λ f is. is)
      (λ picture is. writes (Picture width height) bytes (picture_screen picture width height)
      (record { picture = picture; is_picture = is; says = refl }))
  some_judgement (Archive w) bytes range has = judged script_in (Archive w) bytes (λ f is. is)
      (λ d is. let line = has d is in writes (Archive w) bytes line.0
      (record { script = d; is_script = is; says = line.1 }))
  some_judgement Unarchive bytes range has = judged tree_of_line Unarchive bytes (λ f is. is)
      (λ tree is. writes Unarchive bytes (tree_text tree)
      (record { tree = tree; is_archive = is; says = refl }))
  some_judgement Buttons bytes range has = judged told_in Buttons bytes (λ f is. is)
      (λ told is. told_judged Buttons bytes buttons_text told is (λ written it. it) (λ n it. it)
      (decided told.script told.history))
