-- A text that tells no history breaks at one of its lines or behind them.
use Rattle.std.proofs.Common.{◌≡◌, ℕ, ◌+◌, ◌≤◌, Bool, true, false, cond, nat_lt, List, [], ◌∷◌, length, Option, Some, None, Result, Ok, Err, arith}
use Rattle.be_lex.specs.Lines.{Line, lines_of}
use Rattle.be_script.specs.Script.{Declared}
use Rattle.be_machine.specs.declared.Entry.{Entry}
use Rattle.be_report.specs.Told.{promised, begins_traces, entry_in, entry_then, before_entries, entries_in, promised_in, history_in, entries_of}

abbrev IsWithin : ℕ → ℕ → ℕ → Type 0
IsWithin first line last = (first ≤ line) × (line ≤ last)

after_entry : (e : Entry) (r : Result (List Entry) ℕ) (line : ℕ) → before_entries e r ≡ Err line → r ≡ Err line
after_entry e (Ok es) line h = (cc)
after_entry e (Err n) line h = h

entry_or : (d : Declared) (last k : ℕ) (lines : List Line) (o : Option Entry) (line : ℕ) → (entries_in d last (k + 1) lines ≡ Err line → IsWithin (k + 2) line (k + 2 + length lines))
    → entry_then (k + 1) o (entries_in d last (k + 1) lines) ≡ Err line → IsWithin (k + 1) line (k + 2 + length lines)
entry_or d last k lines (Some e) line behind h =
    let r = behind (after_entry e (entries_in d last (k + 1) lines) line h) in
    let low = r.0 in
    (omega arith, r.1)
entry_or d last k lines None line behind h = let same : k + 1 ≡ line = (cc) in (omega arith, omega arith)

line_or : (d : Declared) (last k : ℕ) (first : Line) (lines : List Line) (over begins : Bool) (line : ℕ) → (entries_in d last (k + 1) lines ≡ Err line → IsWithin (k + 2) line (k + 2 + length lines))
    → cond over (cond begins (Ok []) (Err (k + 1))) (entry_then (k + 1) (entry_in d k first) (entries_in d last (k + 1) lines)) ≡ Err line → IsWithin (k + 1) line (k + 2 + length lines)
line_or d last k first lines true true line behind h = (cc)
line_or d last k first lines true false line behind h = let same : k + 1 ≡ line = (cc) in (omega arith, omega arith)
line_or d last k first lines false begins line behind h = entry_or d last k lines (entry_in d k first) line behind h

entries_within : (d : Declared) (last k : ℕ) (lines : List Line) (line : ℕ) → entries_in d last k lines ≡ Err line → IsWithin (k + 1) line (k + 1 + length lines)
unfolding entries_in
entries_within d last k [] line h = let same : k + 1 ≡ line = (cc) in (omega arith, omega arith)
entries_within d last k (first ∷ lines) line h =
    let r = line_or d last k first lines (nat_lt last k) (begins_traces first) line (λ rest. let w = entries_within d last (k + 1) lines line rest in let low = w.0 in let high = w.1 in (omega arith, omega arith)) h in
    let low = r.0 in
    let high = r.1 in
    (omega arith, omega arith)

promise_or : (d : Declared) (o : Option ℕ) (lines : List Line) (line : ℕ) → promised_in d o lines ≡ Err line → IsWithin 1 line (length lines + 2)
promise_or d (Some n) lines line h =
    let r = entries_within d n 1 lines line h in
    let low = r.0 in
    let high = r.1 in
    (omega arith, omega arith)
promise_or d None lines line h = let same : 1 ≡ line = (cc) in (omega arith, omega arith)

history_within : (d : Declared) (lines : List Line) (line : ℕ) → history_in d lines ≡ Err line → IsWithin 1 line (length lines + 1)
history_within d [] line h = let same : 1 ≡ line = (cc) in (omega arith, omega arith)
history_within d (first ∷ lines) line h =
    let r = promise_or d (promised first) lines line h in
    let low = r.0 in
    let high = r.1 in
    (omega arith, omega arith)

pub breaks_at_a_line : (d : Declared) (text : List ℕ) (line : ℕ) → entries_of d text ≡ Err line → (1 ≤ line) × (line ≤ length (lines_of text) + 1)
unfolding entries_of
breaks_at_a_line d text line h = history_within d (lines_of text) line h
