-- The first fault of lines that stand in front of others.
use Rattle.std.proofs.Common.{◌≡◌, ℕ, ◌+◌, ◌<◌, ◌≤◌, ◌⊎◌, inl, inr, Bool, true, false, cond, List, [], ◌∷◌, ◌++◌, length, map, Option, Some, None, Result, Ok, Err, refl, sym, ap, subst, ◌∙◌, append_assoc, length-append, arith}
use Rattle.std.specs.Prelude.{nat_lt}
use Rattle.std.specs.List.{slice_split, onto_first}
use Rattle.std.proofs.lemmas.Bool.Decides.{nat_tests}
use Rattle.std.proofs.lemmas.List.{append-nil}
use Rattle.be_command.specs.declared.fault.Reason.{Reason}
use Rattle.be_command.specs.declared.fault.Reason.TheVariants.{TooLong, Unfinished, TooMuchWork}
use Rattle.be_lex.specs.Lines.{Line, lines_from, lines_of}
use Rattle.be_lex.proofs.Cuts.{split_pieces}
use Rattle.be_lex.proofs.LineLemmas.{is_line_end}
use Rattle.be_reader.proofs.LineLemmas.{goes_on, stops, short_enough}
use Rattle.be_said.specs.SoFar.{is_closed, SoFar, nothing_said, declared_in}
use Rattle.be_reader.specs.Grammar.{Fault, fault, finished, read_line, read_lines, script_of}
use Rattle.be_reader.specs.Laws.{AreLines, IsOfNoLine, IsFirst, Stays, WasThere}
use Rattle.be_script.specs.Work.{work_of}

-- ---- lines in front

abbrev ended : List ℕ → Line
ended bytes = record { bytes = bytes; ended = true }

-- up to a line feed bytes are cut into the same pieces, whatever stands behind it
pieces_before : (before : List ℕ) → (first : List ℕ) × (more : List (List ℕ)) × ((rest : List ℕ) → slice_split is_line_end (before ++ 10 ∷ rest) ≡ first ∷ (more ++ slice_split is_line_end rest))
pieces_before [] = ([], [], λ rest. refl)
pieces_before (b ∷ before) =
    let r = pieces_before before in
    elim (is_line_end b) as (λ t. (first : List ℕ) × (more : List (List ℕ)) × ((rest : List ℕ) → cond t ([] ∷ slice_split is_line_end (before ++ 10 ∷ rest)) (onto_first b (slice_split is_line_end (before ++ 10 ∷ rest))) ≡ first ∷ (more ++ slice_split is_line_end rest))) [
      | true ↦ ([], r.0 ∷ r.1, λ rest. ap (λ (pieces : List (List ℕ)). [] ∷ pieces) (r.2 rest))
      | false ↦ (b ∷ r.0, r.1, λ rest. ap (onto_first b) (r.2 rest))
    ]

lines_from-pieces : (first : List ℕ) (more : List (List ℕ)) (next : List ℕ) (others : List (List ℕ))
    → lines_from (first ∷ (more ++ next ∷ others)) ≡ ended first ∷ (map ended more ++ lines_from (next ∷ others))
lines_from-pieces first [] next others = refl
lines_from-pieces first (piece ∷ more) next others = ap (λ (lines : List Line). ended first ∷ lines) (lines_from-pieces piece more next others)

lines_before : (before : List ℕ) → (lines : List Line) × ((rest : List ℕ) → lines_of (before ++ 10 ∷ rest) ≡ lines ++ lines_of rest)
unfolding lines_of
lines_before before =
    let r = pieces_before before in (
      ended r.0 ∷ map ended r.1,
      λ rest.
          let s = split_pieces is_line_end rest in
          ap lines_from (r.2 rest)
          ∙ ap (λ (pieces : List (List ℕ)). lines_from (r.0 ∷ (r.1 ++ pieces))) s.2
          ∙ lines_from-pieces r.0 r.1 s.0 s.1
          ∙ ap (λ (pieces : List (List ℕ)). ended r.0 ∷ (map ended r.1 ++ lines_from pieces)) (sym s.2),
    )

lines_of-nothing : lines_of [] ≡ []
unfolding lines_of
lines_of-nothing = refl

-- the lines of bytes that whole lines stand in front of
pub lines_of-append : (front rest : List ℕ) → AreLines front → lines_of (front ++ rest) ≡ lines_of front ++ lines_of rest
lines_of-append front rest (inl none) = rw (none, lines_of-nothing) refl
lines_of-append front rest (inr (before, is)) =
    let r = lines_before before in
    let alone : lines_of front ≡ r.0 = ap lines_of is ∙ r.1 [] ∙ ap (λ (lines : List Line). r.0 ++ lines) lines_of-nothing ∙ append-nil r.0 in
    let one : front ++ rest ≡ before ++ 10 ∷ rest = ap (λ (bytes : List ℕ). bytes ++ rest) is ∙ append_assoc before (10 ∷ []) rest in
    ap lines_of one ∙ r.1 rest ∙ ap (λ (lines : List Line). lines ++ lines_of rest) (sym alone)

-- ---- their reading

-- it stops at one of them, whatever stands behind
record Stops (number : ℕ) (said : SoFar) (front : List Line) : Type 0 where
  fault : Fault
  from : number ≤ fault.line
  below : fault.line < number + length front
  is : (rest : List Line) → read_lines number said (front ++ rest) ≡ Err fault

-- or each is read, and it goes on behind them
record GoesOn (number : ℕ) (said : SoFar) (front : List Line) : Type 0 where
  new : SoFar
  is : (rest : List Line) → read_lines number said (front ++ rest) ≡ read_lines (number + length front) new rest

then_rest : (number : ℕ) (said new : SoFar) (line : Line) (lines : List Line) → read_line said line ≡ Ok new
    → Stops (number + 1) new lines ⊎ GoesOn (number + 1) new lines → Stops number said (line ∷ lines) ⊎ GoesOn number said (line ∷ lines)
then_rest number said new line lines read (inl s) =
    inl (record {
      fault = s.fault;
      from = omega (arith, s.from);
      below = omega (arith, s.below);
      is = λ rest. goes_on number said new line (lines ++ rest) read ∙ s.is rest;
    })
then_rest number said new line lines read (inr g) =
    let same : number + 1 + length lines ≡ number + length (line ∷ lines) = omega arith in
    inr (record {
      new = g.new;
      is = λ rest. goes_on number said new line (lines ++ rest) read ∙ g.is rest ∙ ap (λ (n : ℕ). read_lines n g.new rest) same;
    })

one_line : (number : ℕ) (said : SoFar) (line : Line) (lines : List Line) → ((new : SoFar) → Stops (number + 1) new lines ⊎ GoesOn (number + 1) new lines)
    → (r : Result SoFar Reason) → read_line said line ≡ r → Stops number said (line ∷ lines) ⊎ GoesOn number said (line ∷ lines)
one_line number said line lines others (Ok new) read = then_rest number said new line lines read (others new)
one_line number said line lines others (Err reason) read =
    inl (record {
      fault = record { line = number; reason = reason };
      from = omega arith;
      below = omega arith;
      is = λ rest. stops number said reason line (lines ++ rest) read;
    })

reading : (number : ℕ) (said : SoFar) (front : List Line) → Stops number said front ⊎ GoesOn number said front
reading number said [] =
    let same : number ≡ number + 0 = omega arith in
    inr (record { new = said; is = λ rest. ap (λ (n : ℕ). read_lines n said rest) same })
reading number said (line ∷ lines) =
    one_line number said line lines (λ new. reading (number + 1) new lines) (read_line said line) refl

-- ---- behind the last line

-- the fault is of the line behind it, and of no line's own
record IsAtEnd (line : ℕ) (alone : Fault) : Type 0 where
  behind : alone.line ≡ line
  reason : (alone.reason ≡ Unfinished) ⊎ (alone.reason ≡ TooMuchWork)

unfinished : (line : ℕ) (alone : Fault) → fault {A = SoFar} line Unfinished ≡ Err alone → IsAtEnd line alone
unfinished line alone e =
    let same : record { line = line; reason = Unfinished } ≡ alone = (cc) in
    subst (IsAtEnd line) same (record { behind = refl; reason = inl refl })

too_much : (over : Bool) (line : ℕ) (said : SoFar) (alone : Fault) → cond over (fault {A = SoFar} line TooMuchWork) (Ok said) ≡ Err alone → IsAtEnd line alone
too_much true line said alone e =
    let same : record { line = line; reason = TooMuchWork } ≡ alone = (cc) in
    subst (IsAtEnd line) same (record { behind = refl; reason = inr refl })
too_much false line said alone e = absurd ((cc))

closed : (all : Bool) (line : ℕ) (said : SoFar) (size : ℕ × ℕ) (alone : Fault)
    → cond all (cond (nat_lt 262144 (work_of (declared_in said size))) (fault {A = SoFar} line TooMuchWork) (Ok said)) (fault {A = SoFar} line Unfinished) ≡ Err alone → IsAtEnd line alone
closed true line said size alone e = too_much (nat_lt 262144 (work_of (declared_in said size))) line said alone e
closed false line said size alone e = unfinished line alone e

at_end : (line : ℕ) (said : SoFar) (screen : Option (ℕ × ℕ)) (alone : Fault) → finished line said screen ≡ Err alone → IsAtEnd line alone
unfolding finished
at_end line said None alone e = unfinished line alone e
at_end line said (Some size) alone e = closed (is_closed said.begun) line said size alone e

no_lines : (number : ℕ) (said : SoFar) → read_lines number said [] ≡ finished number said said.screen
unfolding read_lines
no_lines number said = refl

one_fault : (one two : Fault) (r : Result SoFar Fault) → r ≡ Err one → r ≡ Err two → one ≡ two
one_fault one two r first second = (cc)

alone_ends : (number : ℕ) (said : SoFar) (front : List Line) (g : GoesOn number said front) (alone : Fault) → read_lines number said front ≡ Err alone → IsAtEnd (number + length front) alone
alone_ends number said front g alone e =
    at_end (number + length front) g.new g.new.screen alone
    (sym (no_lines (number + length front) g.new) ∙ sym (g.is []) ∙ ap (read_lines number said) (append-nil front) ∙ e)

alone_stops : (number : ℕ) (said : SoFar) (front : List Line) (s : Stops number said front) → read_lines number said front ≡ Err s.fault
alone_stops number said front s = ap (read_lines number said) (sym (append-nil front)) ∙ s.is []

-- no fault is of a line in front of those that are read
fault_by : (number : ℕ) (said : SoFar) (lines : List Line) (f : Fault) → Stops number said lines ⊎ GoesOn number said lines → read_lines number said lines ≡ Err f → number ≤ f.line
fault_by number said lines f (inl s) e =
    let same : s.fault ≡ f = one_fault s.fault f (read_lines number said lines) (alone_stops number said lines s) e in
    let line : s.fault.line ≡ f.line = ap (λ (g : Fault). g.line) same in
    omega (arith, s.from)
fault_by number said lines f (inr g) e =
    let end = alone_ends number said lines g f e in
    omega (arith, end.behind)

fault_from : (number : ℕ) (said : SoFar) (lines : List Line) (f : Fault) → read_lines number said lines ≡ Err f → number ≤ f.line
fault_from number said lines f e = fault_by number said lines f (reading number said lines) e

-- ---- scripts

long_fault : (long : Bool) (bytes : List ℕ) (f : Fault) → nat_lt 1048576 (length bytes) ≡ long → script_of bytes ≡ Err f → 1 ≤ f.line → length bytes ≤ 1048576
unfolding script_of
long_fault true bytes f h e own =
    let failed = rw h at e in
    let same : record { line = 0; reason = TooLong } ≡ f = (cc) in
    let zero_line : 0 ≡ f.line = ap (λ (g : Fault). g.line) same in
    absurd (omega arith)
long_fault false bytes f h e own = grind (arith, nat_tests)

-- the fault of a line of its own is of bytes that aren't too many
is_short : (bytes : List ℕ) (f : Fault) → script_of bytes ≡ Err f → 1 ≤ f.line → length bytes ≤ 1048576
is_short bytes f e own = long_fault (nat_lt 1048576 (length bytes)) bytes f refl e own

both_are : (front rest : List ℕ) → AreLines front → length (front ++ rest) ≤ 1048576 → script_of (front ++ rest) ≡ read_lines 1 nothing_said (lines_of front ++ lines_of rest)
both_are front rest lines few = short_enough (front ++ rest) few ∙ ap (read_lines 1 nothing_said) (lines_of-append front rest lines)

front_is : (front rest : List ℕ) → length (front ++ rest) ≤ 1048576 → script_of front ≡ read_lines 1 nothing_said (lines_of front)
front_is front rest few = short_enough front (omega (arith, length-append front rest))

first : (front rest : List ℕ) (whole alone : Fault) → Stops 1 nothing_said (lines_of front) ⊎ GoesOn 1 nothing_said (lines_of front) → AreLines front → length (front ++ rest) ≤ 1048576
    → script_of (front ++ rest) ≡ Err whole → length (lines_of front) < whole.line → script_of front ≡ Err alone → IsOfNoLine (length (lines_of front)) alone
first front rest whole alone (inl s) lines few e behind e-alone =
    let same : s.fault ≡ whole = one_fault s.fault whole (script_of (front ++ rest)) (both_are front rest lines few ∙ s.is (lines_of rest)) e in
    let line : s.fault.line ≡ whole.line = ap (λ (g : Fault). g.line) same in
    absurd (omega (arith, s.below))
first front rest whole alone (inr g) lines few e behind e-alone =
    let end = alone_ends 1 nothing_said (lines_of front) g alone (sym (front_is front rest few) ∙ e-alone) in
    let behind : alone.line ≡ length (lines_of front) + 1 = omega (arith, end.behind) in
    (behind, end.reason)

pub is-first : (front rest : List ℕ) → IsFirst front rest
is-first front rest = λ whole alone lines e behind e-alone.
    first front rest whole alone (reading 1 nothing_said (lines_of front)) lines (is_short (front ++ rest) whole e (omega arith)) e behind e-alone

-- where it stops among the lines in front, both stop there
stop_is : (front rest : List ℕ) → AreLines front → length (front ++ rest) ≤ 1048576 → (s : Stops 1 nothing_said (lines_of front))
    → (script_of (front ++ rest) ≡ Err s.fault) × (script_of front ≡ Err s.fault)
stop_is front rest lines few s = (both_are front rest lines few ∙ s.is (lines_of rest), front_is front rest few ∙ alone_stops 1 nothing_said (lines_of front) s)

stay : (front rest : List ℕ) (f : Fault) → Stops 1 nothing_said (lines_of front) ⊎ GoesOn 1 nothing_said (lines_of front) → AreLines front → length (front ++ rest) ≤ 1048576
    → script_of front ≡ Err f → f.line ≤ length (lines_of front) → script_of (front ++ rest) ≡ Err f
stay front rest f (inl s) lines few e among =
    let both = stop_is front rest lines few s in
    let same : s.fault ≡ f = one_fault s.fault f (script_of front) both.1 e in
    both.0 ∙ ap (λ (g : Fault). Err g) same
stay front rest f (inr g) lines few e among =
    let end = alone_ends 1 nothing_said (lines_of front) g f (sym (front_is front rest few) ∙ e) in
    absurd (omega (arith, end.behind))

pub stays : (front rest : List ℕ) → Stays front rest
stays front rest = λ f lines few e among. stay front rest f (reading 1 nothing_said (lines_of front)) lines few e among

was : (front rest : List ℕ) (f : Fault) → Stops 1 nothing_said (lines_of front) ⊎ GoesOn 1 nothing_said (lines_of front) → AreLines front → length (front ++ rest) ≤ 1048576
    → script_of (front ++ rest) ≡ Err f → f.line ≤ length (lines_of front) → script_of front ≡ Err f
was front rest f (inl s) lines few e among =
    let both = stop_is front rest lines few s in
    let same : s.fault ≡ f = one_fault s.fault f (script_of (front ++ rest)) both.0 e in
    both.1 ∙ ap (λ (g : Fault). Err g) same
was front rest f (inr g) lines few e among =
    let later = fault_from (1 + length (lines_of front)) g.new (lines_of rest) f (sym (both_are front rest lines few ∙ g.is (lines_of rest)) ∙ e) in
    absurd (omega (arith, later))

pub was-there : (front rest : List ℕ) → WasThere front rest
was-there front rest = λ f lines e own among.
    was front rest f (reading 1 nothing_said (lines_of front)) lines (is_short (front ++ rest) f e own) e among
