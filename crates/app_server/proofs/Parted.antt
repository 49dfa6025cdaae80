-- Bytes that are too many, and how great the number of a faulty line is.
use Rattle.std.proofs.Common.{◌≡◌, ℕ, zero, suc, Bool, true, false, eqb, nat_lt, ◌+◌, ◌<◌, ◌≤◌}
use Rattle.std.proofs.Common.{List, [], ◌∷◌, ◌++◌, length, take, drop, refl, sym, ap, ◌∙◌, inl, inr}
use Rattle.std.proofs.Common.{arith, Option, Some, None, Result, Ok, Err}
use Rattle.std.specs.List.{position_or_len}
use Rattle.std.specs.Prelude.{if◌then◌else◌}
use Rattle.std.proofs.lemmas.Bool.{ne_eqb}
use Rattle.std.proofs.lemmas.List.{length-append, take-append-drop}
use Rattle.be_facts.proofs.Numbers.{nat_lt_from}
use Rattle.app_server.specs.Inputs.{told_in}
use Rattle.be_command.specs.declared.fault.Reason.TheVariants.{TooLong}
use Rattle.be_lex.proofs.Cuts.{split_cut}
use Rattle.be_lex.proofs.LineLemmas.{lines_of-first, lines_of-last, lines_of-none}
use Rattle.be_lex.specs.Lines.{Line, lines_of}
use Rattle.be_machine.specs.declared.Entry.{Entry}
use Rattle.be_reader.specs.Grammar.{fault}
use Rattle.be_report.specs.Told.{before_entries, begins_traces, entries_in, entries_of, entry_in}
use Rattle.be_report.specs.Told.{entry_then, history_in, promised, promised_in}
use Rattle.be_script.specs.Script.{Declared}

pub too_long : (bytes : List ℕ) → 67108864 < length bytes → told_in bytes ≡ fault 0 TooLong
unfolding told_in
too_long bytes more = rw (nat_lt_from 67108864 (length bytes) more) refl

-- ---- how many lines a text has

lines_within : (fuel : ℕ) (bytes : List ℕ) → length bytes ≤ fuel
    → length (lines_of bytes) ≤ length bytes
lines_within fuel [] le =
    let none : length (lines_of []) ≡ 0 = ap length (lines_of-none [] refl) in
    omega arith
lines_within zero (b ∷ bytes) le = absurd (omega arith)
lines_within (suc fuel) (b ∷ bytes) le =
    let all = b ∷ bytes in
    let n : ℕ = position_or_len (λ b. eqb b 10) all in
    let some : eqb (length all) 0 ≡ false = ne_eqb (length all) 0 (λ z. absurd (omega arith)) in
    elim (split_cut (λ b. eqb b 10) all n refl) [
      | inl w ↦
          let one : length (lines_of all) ≡ 1 = ap length (lines_of-last all n some refl w.0) in
          omega arith
      | inr w ↦
          let x : ℕ = w.0 in
          let rest : List ℕ = w.1 in
          let cut : take n all ++ x ∷ rest ≡ all =
          ap (λ l. take n all ++ l) (sym w.2) ∙ take-append-drop n all in
          let more : length (take n all) + suc (length rest) ≡ length all =
          sym (length-append (take n all) (x ∷ rest)) ∙ ap length cut in
          let fewer : length (lines_of rest) ≤ length rest =
          lines_within fuel rest (omega arith) in
          let next : length (lines_of all) ≡ suc (length (lines_of rest)) =
          ap length (lines_of-first all n refl x rest w.2) in
          omega arith
    ]

-- ---- the number of the line that breaks a history

module _ (d : Declared) where
  of_rest : (e : Entry) (rest : Result (List Entry) ℕ) (n : ℕ) → before_entries e rest ≡ Err n
      → rest ≡ Err n
  of_rest e (Ok es) n is = absurd (cc)
  of_rest e (Err line) n is = is

  module _ (last k n : ℕ) (line : Line) (lines : List Line) (rest : Result (List Entry) ℕ)
      (later : rest ≡ Err n → n ≤ k + 1 + length lines + 1) where
    by_end : (b : Bool) (h : Result (List Entry) ℕ) → h ≡ (if b then Ok [] else Err (k + 1))
        → h ≡ Err n → n ≤ k + length (line ∷ lines) + 1
    by_end true h is fails = absurd (cc)
    by_end false h is fails = let same : k + 1 ≡ n = cc in omega arith

    by_entry : (o : Option Entry) (h : Result (List Entry) ℕ) → h ≡ entry_then (k + 1) o rest
        → h ≡ Err n → n ≤ k + length (line ∷ lines) + 1
    by_entry (Some e) h is fails =
        let le : n ≤ k + 1 + length lines + 1 = later (of_rest e rest n (sym is ∙ fails)) in
        omega arith
    by_entry None h is fails = let same : k + 1 ≡ n = cc in omega arith

    by_place : (b : Bool) (h : Result (List Entry) ℕ)
        → h ≡ (if b then (if begins_traces line then Ok [] else Err (k + 1))
        else entry_then (k + 1) (entry_in d k line) rest)
        → h ≡ Err n → n ≤ k + length (line ∷ lines) + 1
    by_place true h is fails = by_end (begins_traces line) h is fails
    by_place false h is fails = by_entry (entry_in d k line) h is fails

  entries_within : (last k : ℕ) (lines : List Line) (n : ℕ) → entries_in d last k lines ≡ Err n
      → n ≤ k + length lines + 1
  unfolding entries_in
  entries_within last k [] n is = let same : k + 1 ≡ n = cc in omega arith
  entries_within last k (line ∷ lines) n is =
      by_place last k n line lines (entries_in d last (k + 1) lines)
      (entries_within last (k + 1) lines n) (nat_lt last k)
      (entries_in d last k (line ∷ lines)) refl is

  by_count : (line : Line) (lines : List Line) (o : Option ℕ) (n : ℕ)
      → promised_in d o lines ≡ Err n → n ≤ length (line ∷ lines) + 2
  by_count line lines (Some count) n is =
      let le : n ≤ 1 + length lines + 1 = entries_within count 1 lines n is in
      omega arith
  by_count line lines None n is = let same : 1 ≡ n = cc in omega arith

  by_lines : (lines : List Line) (n : ℕ) → history_in d lines ≡ Err n → n ≤ length lines + 2
  by_lines [] n is = let same : 1 ≡ n = cc in omega arith
  by_lines (line ∷ lines) n is = by_count line lines (promised line) n is

  pub fault_within : (text : List ℕ) (n : ℕ) → entries_of d text ≡ Err n → n ≤ length text + 2
  unfolding entries_of
  fault_within text n is =
      let few : length (lines_of text) ≤ length text =
      lines_within (length text) text (omega arith) in
      let le : n ≤ length (lines_of text) + 2 = by_lines (lines_of text) n is in
      omega arith
