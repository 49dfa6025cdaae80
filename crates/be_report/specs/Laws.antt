-- What is proved of reports. Each statement is the contract of a function in src/laws.
use Rattle.std.specs.Prelude.{◌≡◌, ℕ, ◌+◌, ◌≤◌, List, [], ◌∷◌, ◌++◌, length, Some, Err, codes}
use Rattle.be_lex.specs.Lines.{lines_of}
use Rattle.be_script.specs.Limits.{IsWithinLimits}
use Rattle.be_script.specs.Script.{Declared}
use Rattle.be_machine.specs.declared.Entry.{Entry}
use Rattle.be_machine.specs.History.{IsLegalHistory}
use Rattle.be_report.specs.Entries.{entry_of}
use Rattle.be_written.specs.EntryText.{entry_words, history_text}
use Rattle.be_written.specs.Lines.{line_of}
use Rattle.be_report.specs.Possible.{IsCount, IsPossible, ArePossible}
use Rattle.be_report.specs.Report.{report_of}
use Rattle.be_report.specs.Told.{told_by, entries_of}

-- ---- one entry

-- the words of an entry that can be written down say it
abbrev pub WordsSayTheirEntry : Type 0
WordsSayTheirEntry =
    (d : Declared) (k : ℕ) (e : Entry) → IsWithinLimits d → IsPossible d e
    → entry_of d k (entry_words d k e) ≡ Some e

-- and no other words do
abbrev pub NoOtherWords : Type 0
NoOtherWords =
    (d : Declared) (k : ℕ) (e : Entry) (words : List (List ℕ)) → entry_of d k words ≡ Some e
    → (words ≡ entry_words d k e) × IsPossible d e

-- ---- a history

-- the text of a history tells it, whatever stands behind the line `traces`
abbrev pub TextTellsHistory : Type 0
TextTellsHistory =
    (d : Declared) (h : List Entry) (rest : List ℕ) → IsWithinLimits d → ArePossible d h
    → told_by d (history_text d h ++ line_of (codes "traces" ∷ []) ++ rest) ≡ Some h

-- a text tells a history only where it begins with just that history's text
abbrev pub OnlyItsText : Type 0
OnlyItsText =
    (d : Declared) (h : List Entry) (text : List ℕ) → IsCount (length h) → told_by d text ≡ Some h
    → (rest : List ℕ)
    × ((text ≡ history_text d h ++ line_of (codes "traces" ∷ []) ++ rest) × ArePossible d h)

-- every entry of a legal history can be written down
abbrev pub LegalIsPossible : Type 0
LegalIsPossible =
    (d : Declared) (h : List Entry) → IsWithinLimits d → IsLegalHistory d h → ArePossible d h

-- a legal history's report tells it, so different legal histories have different reports
abbrev pub ReportTellsHistory : Type 0
ReportTellsHistory =
    (d : Declared) (h : List Entry) → IsWithinLimits d → IsLegalHistory d h
    → told_by d (report_of d h) ≡ Some h

-- ---- a text that tells none

-- the line that breaks it is one of its lines or the one behind them
abbrev pub BreaksAtALine : Type 0
BreaksAtALine =
    (d : Declared) (text : List ℕ) (line : ℕ) → entries_of d text ≡ Err line
    → (1 ≤ line) × (line ≤ length (lines_of text) + 1)
