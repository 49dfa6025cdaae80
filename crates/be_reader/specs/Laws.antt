-- Laws of the first fault (the language is this project's own).
use Rattle.std.specs.Prelude.{◌≡◌, ℕ, ◌+◌, ◌<◌, ◌≤◌, ◌⊎◌, List, [], ◌∷◌, ◌++◌, length, Err}
use Rattle.be_command.specs.declared.fault.Reason.TheVariants.{Unfinished, TooMuchWork}
use Rattle.be_lex.specs.Lines.{lines_of}
use Rattle.be_reader.specs.Grammar.{Fault, script_of}

-- whole lines: no bytes, or a line feed is the last of them
abbrev pub AreLines : List ℕ → Type 0
AreLines bytes = (bytes ≡ []) ⊎ ((before : List ℕ) × (bytes ≡ before ++ 10 ∷ []))

-- what is wrong with so many lines of which none is at fault: something is missing behind the last,
-- or they want too much work; it is of the line behind the last
abbrev pub IsOfNoLine : ℕ → Fault → Type 0
IsOfNoLine count fault =
    (fault.line ≡ count + 1) × ((fault.reason ≡ Unfinished) ⊎ (fault.reason ≡ TooMuchWork))

-- where a script's fault is of a line behind these, none of these is at fault where they stand
-- alone
abbrev pub IsFirst : List ℕ → List ℕ → Type 0
IsFirst front rest =
    (whole alone : Fault) → AreLines front → script_of (front ++ rest) ≡ Err whole
    → length (lines_of front) < whole.line
    → script_of front ≡ Err alone → IsOfNoLine (length (lines_of front)) alone

-- what is wrong with one of these lines, where they stand alone, is the fault of all bytes that
-- begin with them, up to as many as a script may have
abbrev pub Stays : List ℕ → List ℕ → Type 0
Stays front rest =
    (fault : Fault) → AreLines front → length (front ++ rest) ≤ 1048576
    → script_of front ≡ Err fault → fault.line ≤ length (lines_of front)
    → script_of (front ++ rest) ≡ Err fault

-- and a script's fault that is of one of its first lines is theirs where they stand alone
abbrev pub WasThere : List ℕ → List ℕ → Type 0
WasThere front rest =
    (fault : Fault) → AreLines front → script_of (front ++ rest) ≡ Err fault → 1 ≤ fault.line
    → fault.line ≤ length (lines_of front)
    → script_of front ≡ Err fault
