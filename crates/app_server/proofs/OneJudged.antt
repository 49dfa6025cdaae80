-- Of each input one judgement alone is right.
use Rattle.std.proofs.Common.{◌≡◌, ℕ, true, List, [], Result, Ok, Err, refl, sym, ap, subst, ◌∙◌}
use Rattle.app_server.specs.declared.command.CommandWords.{CommandWords}
use Rattle.app_server.specs.declared.command.CommandWords.TheVariants.{Run, Serial, Check, Make}
use Rattle.app_server.specs.declared.command.CommandWords.TheVariants.{Drill, Replay, Explain}
use Rattle.app_server.specs.declared.command.CommandWords.TheVariants.{Picture, Archive}
use Rattle.app_server.specs.declared.command.CommandWords.TheVariants.{Unarchive, Buttons}
use Rattle.app_server.specs.declared.status.Status.{Status}
use Rattle.app_server.specs.declared.status.Status.TheVariants.{Finished, Illegal, Usage}
use Rattle.app_server.specs.declared.status.Status.TheVariants.{BadScript, ReadFault, WriteFault}
use Rattle.app_server.specs.declared.status.Status.TheVariants.{NoMemory}
use Rattle.app_server.specs.Answers.{IsBadFor, IsIllegalFor, IsServed, TellsIllegal}
use Rattle.app_server.specs.Inputs.{Told, picture_in, script_in, told_in}
use Rattle.app_server.specs.Laws.{OneJudgement, is_judgement}
use Rattle.app_server.specs.Served.{Writes, WritesOf}
use Rattle.be_check.specs.Checking.{IsIllegalAt}
use Rattle.be_check.specs.Laws.{NotBoth, OneAlone}
use Rattle.be_command.specs.declared.Command.{Command}
use Rattle.be_command.specs.declared.fault.Reason.{Reason}
use Rattle.be_machine.specs.History.{IsFinished}
use Rattle.be_machine.specs.declared.Entry.{Entry}
use Rattle.be_reader.specs.Grammar.{Fault}
use Rattle.be_script.specs.Script.{Declared}
use Rattle.be_trees.specs.Reading.{tree_of_line}
use Rattle.be_views.specs.Trees.{Tree}

-- what may be said of the bytes, of which no two hold
record Cases (command : CommandWords) (bytes : List ℕ) : Type 1 where
  good_bad : (written : List ℕ) (line : ℕ) (reason : Reason) → Writes command bytes written
      → IsBadFor command bytes line reason → ⊥
  good_ill : (written : List ℕ) (n : ℕ) → Writes command bytes written
      → IsIllegalFor command bytes n → ⊥
  bad_ill : (line : ℕ) (reason : Reason) (n : ℕ) → IsBadFor command bytes line reason
      → IsIllegalFor command bytes n → ⊥
  bads : (line other : ℕ) (reason cause : Reason) → IsBadFor command bytes line reason
      → IsBadFor command bytes other cause → BadScript line reason ≡ BadScript other cause
  ills : (n m : ℕ) → IsIllegalFor command bytes n → IsIllegalFor command bytes m → n ≡ m

module _ (command : CommandWords) (bytes second : List ℕ) (cases : Cases command bytes) where
  finished_is : (written : List ℕ) → Writes command bytes written → (b : Status)
      → is_judgement b ≡ true → IsServed command bytes second b → Finished ≡ b
  finished_is written good Finished j is = refl
  finished_is written good (Illegal n) j is = absurd (cases.good_ill written n good is.0)
  finished_is written good (BadScript line reason) j is =
      absurd (cases.good_bad written line reason good is.0)
  finished_is written good Usage j is = absurd ((cc))
  finished_is written good ReadFault j is = absurd ((cc))
  finished_is written good WriteFault j is = absurd ((cc))
  finished_is written good NoMemory j is = absurd ((cc))

  illegal_is : (n : ℕ) → IsIllegalFor command bytes n → (b : Status)
      → is_judgement b ≡ true → IsServed command bytes second b → Illegal n ≡ b
  illegal_is n ill Finished j is = absurd (cases.good_ill second n is ill)
  illegal_is n ill (Illegal m) j is = ap Illegal (cases.ills n m ill is.0)
  illegal_is n ill (BadScript line reason) j is = absurd (cases.bad_ill line reason n is.0 ill)
  illegal_is n ill Usage j is = absurd ((cc))
  illegal_is n ill ReadFault j is = absurd ((cc))
  illegal_is n ill WriteFault j is = absurd ((cc))
  illegal_is n ill NoMemory j is = absurd ((cc))

  bad_is : (line : ℕ) (reason : Reason) → IsBadFor command bytes line reason → (b : Status)
      → is_judgement b ≡ true → IsServed command bytes second b → BadScript line reason ≡ b
  bad_is line reason bad Finished j is = absurd (cases.good_bad second line reason is bad)
  bad_is line reason bad (Illegal n) j is = absurd (cases.bad_ill line reason n bad is.0)
  bad_is line reason bad (BadScript other cause) j is =
      cases.bads line other reason cause bad is.0
  bad_is line reason bad Usage j is = absurd ((cc))
  bad_is line reason bad ReadFault j is = absurd ((cc))
  bad_is line reason bad WriteFault j is = absurd ((cc))
  bad_is line reason bad NoMemory j is = absurd ((cc))

one_by_cases : (command : CommandWords) (bytes first second : List ℕ) → Cases command bytes
    → (a b : Status) → is_judgement a ≡ true → is_judgement b ≡ true
    → IsServed command bytes first a → IsServed command bytes second b → a ≡ b
one_by_cases command bytes first second cases Finished b ja jb is it =
    finished_is command bytes second cases first is b jb it
one_by_cases command bytes first second cases (Illegal n) b ja jb is it =
    illegal_is command bytes second cases n is.0 b jb it
one_by_cases command bytes first second cases (BadScript line reason) b ja jb is it =
    bad_is command bytes second cases line reason is.0 b jb it
one_by_cases command bytes first second cases Usage b ja jb is it = absurd ((cc))
one_by_cases command bytes first second cases ReadFault b ja jb is it = absurd ((cc))
one_by_cases command bytes first second cases WriteFault b ja jb is it = absurd ((cc))
one_by_cases command bytes first second cases NoMemory b ja jb is it = absurd ((cc))

-- commands whose input is never illegal

module _ {X : Type 0} (r : Result X Fault) where
  apart : (x : X) (line : ℕ) (reason : Reason) → r ≡ Ok x
      → r ≡ Err (record { line = line; reason = reason }) → ⊥
  apart x line reason is bad = absurd ((cc))

  same_fault : (f g : Fault) → r ≡ Err f → r ≡ Err g → f ≡ g
  same_fault f g is it = (cc)

  one_fault : (line other : ℕ) (reason cause : Reason)
      → r ≡ Err (record { line = line; reason = reason })
      → r ≡ Err (record { line = other; reason = cause })
      → BadScript line reason ≡ BadScript other cause
  one_fault line other reason cause is it = ap (λ (f : Fault). BadScript f.line f.reason)
      (same_fault (record { line = line; reason = reason })
      (record { line = other; reason = cause }) is it)

module _ {X : Type 0} (read : List ℕ → Result X Fault) (command : CommandWords) (bytes : List ℕ)
    (good : (written : List ℕ) → Writes command bytes written → (x : X) × (read bytes ≡ Ok x))
    (bad : (line : ℕ) (reason : Reason) → IsBadFor command bytes line reason
    → read bytes ≡ Err (record { line = line; reason = reason }))
    (never : (n : ℕ) → IsIllegalFor command bytes n → ⊥) where
  read_cases : Cases command bytes
  read_cases = record {
    good_bad = λ written line reason is it.
        apart (read bytes) (good written is).0 line reason (good written is).1 (bad line reason it);
    good_ill = λ written n is it. never n it;
    bad_ill = λ line reason n is it. never n it;
    bads = λ line other reason cause is it.
        one_fault (read bytes) line other reason cause (bad line reason is) (bad other cause it);
    ills = λ n m is it. absurd (never n is);
  }

-- commands whose input is never bad either

made_cases : (command : CommandWords) (bytes : List ℕ)
    → ((line : ℕ) (reason : Reason) → IsBadFor command bytes line reason → ⊥)
    → ((n : ℕ) → IsIllegalFor command bytes n → ⊥) → Cases command bytes
made_cases command bytes bad never = record {
  good_bad = λ written line reason is it. bad line reason it;
  good_ill = λ written n is it. never n it;
  bad_ill = λ line reason n is it. never n it;
  bads = λ line other reason cause is it. absurd (bad line reason is);
  ills = λ n m is it. absurd (never n is);
}

-- commands whose input tells a history

same_told : {a b : Told} {r : Result Told Fault} → r ≡ Ok a → r ≡ Ok b → a ≡ b
same_told is it = (cc)

module _ (not_both : NotBoth) (alone : OneAlone) where
  module _ (text : Declared → List Entry → List ℕ) (command : CommandWords) (bytes : List ℕ)
      (good : (written : List ℕ) → Writes command bytes written → WritesOf text bytes written)
      (bad : (line : ℕ) (reason : Reason) → IsBadFor command bytes line reason
      → told_in bytes ≡ Err (record { line = line; reason = reason }))
      (ill : (n : ℕ) → IsIllegalFor command bytes n → TellsIllegal bytes n) where
    told_cases : Cases command bytes
    told_cases = record {
      good_bad = λ written line reason is it. apart (told_in bytes) (good written is).told line
          reason (good written is).is_told (bad line reason it);
      good_ill = λ written n is it.
          let w = good written is in
          let i = ill n it in
          not_both i.told.script i.told.history n i.illegal
          (subst (λ (t : Told). IsFinished t.script t.history) (same_told w.is_told i.is_told)
          w.finished);
      bad_ill = λ line reason n is it. apart (told_in bytes) (ill n it).told line reason
          (ill n it).is_told (bad line reason is);
      bads = λ line other reason cause is it. one_fault (told_in bytes) line other reason cause
          (bad line reason is) (bad other cause it);
      ills = λ n m is it.
          let i = ill n is in
          let j = ill m it in
          alone j.told.script j.told.history n m
          (subst (λ (t : Told). IsIllegalAt t.script t.history n) (same_told i.is_told j.is_told)
          i.illegal) j.illegal;
    }

  all_cases : (command : CommandWords) (bytes : List ℕ) → Cases command bytes
  all_cases Run bytes = read_cases script_in Run bytes
      (λ written is. (is.script, is.is_script)) (λ line reason is. is) (λ n is. is)
  all_cases (Serial seed) bytes = read_cases script_in (Serial seed) bytes
      (λ written is. (is.script, is.is_script)) (λ line reason is. is) (λ n is. is)
  all_cases Check bytes = read_cases script_in Check bytes
      (λ written is. (is.script, is.is_script)) (λ line reason is. is) (λ n is. is)
  all_cases (Make n) bytes = made_cases (Make n) bytes (λ line reason is. is) (λ m is. is)
  all_cases (Drill n) bytes = made_cases (Drill n) bytes (λ line reason is. is) (λ m is. is)
  all_cases Replay bytes = told_cases _ Replay bytes
      (λ written is. is) (λ line reason is. is) (λ n is. is)
  all_cases (Explain x y) bytes = told_cases _ (Explain x y) bytes
      (λ written is. is) (λ line reason is. is) (λ n is. is)
  all_cases (Picture width height) bytes =
      read_cases picture_in (Picture width height) bytes
      (λ written is. (is.picture, is.is_picture)) (λ line reason is. is) (λ n is. is)
  all_cases (Archive w) bytes = read_cases script_in (Archive w) bytes
      (λ written is. (is.script, is.is_script)) (λ line reason is. is) (λ n is. is)
  all_cases Unarchive bytes = read_cases tree_of_line Unarchive bytes
      (λ written is. (is.tree, is.is_archive)) (λ line reason is. is) (λ n is. is)
  all_cases Buttons bytes = told_cases _ Buttons bytes
      (λ written is. is) (λ line reason is. is) (λ n is. is)

  pub one_judgement : OneJudgement
  one_judgement command bytes first second a b ja jb is it =
      one_by_cases command bytes first second (all_cases command bytes) a b ja jb is it
