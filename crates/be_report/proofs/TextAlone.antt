-- A text tells a history only where it begins with that history's text.
use Rattle.std.proofs.Common.{◌≡◌, ℕ, ◌+◌, ◌^◌, ◌<◌, ◌≤◌, Bool, true, false, cond, nat_lt, nat_le, List, [], ◌∷◌, ◌++◌, length, Option, Some, None, Result, Ok, Err, codes, decimal, All, refl, sym, ap, subst, ◌∙◌, arith, append_assoc}
use Rattle.std.specs.List.{join_with_byte}
use Rattle.std.specs.Result.{result_ok}
use Rattle.std.specs.Str.{bytes_eq}
use Rattle.std.proofs.lemmas.Bool.{and_parts, ltb-true, ltb-false}
use Rattle.std.proofs.lemmas.List.Elements.{All-nil, All-cons}
use Rattle.std.proofs.lemmas.Option.{same_Some}
use Rattle.std.proofs.lemmas.Slice.Eq.{bytes_eq-Decides}
use Rattle.be_lex.specs.Lines.{Line, lines_of}
use Rattle.be_script.specs.Script.{Declared}
use Rattle.be_machine.specs.declared.Entry.{Entry}
use Rattle.be_report.specs.Entries.{entry_of}
use Rattle.be_written.specs.EntryText.{entry_words, entries_from, history_text}
use Rattle.be_report.specs.Lines.{words_between}
use Rattle.be_written.specs.Lines.{line_of}
use Rattle.be_report.specs.Possible.{IsCount, IsPossible, ArePossible}
use Rattle.be_report.specs.Readers.{all_of, exactly, next_word, natural_of}
use Rattle.be_report.specs.Told.{heading, count_in, promised, begins_traces, entry_in, entry_then, before_entries, entries_in, promised_in, history_in, entries_of, told_by}
use Rattle.be_report.proofs.EntryWords.{no_other_words, exactly_alone, all_alone}
use Rattle.be_report.proofs.NumberWords.{natural_alone}
use Rattle.be_report.proofs.Readings.{Words, next_alone, bind_alone}
use Rattle.be_report.proofs.Splits.{join_split, first_line}
use Rattle.be_report.proofs.TextBack.{traces_line}

-- ---- lines

when : {X : Type 0} (b : Bool) (o : Option X) (x : X) → cond b o None ≡ Some x → (b ≡ true) × (o ≡ Some x)
when true o x e = (refl, e)
when false o x e = (cc)

-- a text begins with a line of these words
record IsLineOf (words : Words) (text : List ℕ) (lines : List Line) : Type 0 where
  rest : List ℕ
  is : text ≡ line_of words ++ rest
  others : lines ≡ lines_of rest

line_read : (words : Words) (text : List ℕ) (line : Line) (lines : List Line) → lines_of text ≡ line ∷ lines → line.ended ≡ true → words_between line.bytes ≡ words → IsLineOf words text lines
unfolding line_of
line_read words text line lines e ended said =
    let first = first_line text line lines e ended in
    let bytes : line.bytes ≡ join_with_byte 32 words = sym (join_split line.bytes) ∙ ap (join_with_byte 32) said in
    record {
      rest = first.rest;
      is = first.is ∙ ap (λ (b : List ℕ). b ++ 10 ∷ first.rest) bytes ∙ sym (append_assoc (join_with_byte 32 words) (10 ∷ []) first.rest);
      others = first.others;
    }

-- ---- the entries

record IsTold (d : Declared) (last k : ℕ) (text : List ℕ) (h : List Entry) : Type 0 where
  rest : List ℕ
  is : text ≡ (entries_from d k h ++ traces_line) ++ rest
  each : All (IsPossible d) h
  counted : last + 1 ≡ k + length h

end_read : (d : Declared) (last k : ℕ) (text : List ℕ) (line : Line) (lines : List Line) (h : List Entry) (b : Bool) → lines_of text ≡ line ∷ lines → last + 1 ≡ k → begins_traces line ≡ b → cond b (Ok []) (Err (k + 1)) ≡ Ok h
    → IsTold d last k text h
unfolding entries_from line_of
end_read d last k text line lines h true e count begins said =
    let parts = and_parts line.ended (bytes_eq line.bytes (codes "traces")) begins in
    let first = first_line text line lines e parts.0 in
    let bytes = (bytes_eq-Decides line.bytes (codes "traces")).0 parts.1 in
    let none : [] ≡ h = (cc) in
    subst (λ (es : List Entry). IsTold d last k text es) none
    (record { rest = first.rest; is = first.is ∙ ap (λ (b : List ℕ). b ++ 10 ∷ first.rest) bytes; each = All-nil (IsPossible d); counted = omega arith })
end_read d last k text line lines h false e count begins said = (cc)

entry_read : (d : Declared) (last k : ℕ) (text : List ℕ) (line : Line) (lines : List Line) (e : Entry) (r : Result (List Entry) ℕ) (h : List Entry) → lines_of text ≡ line ∷ lines → entry_in d k line ≡ Some e
    → ((rest : List ℕ) (es : List Entry) → lines_of rest ≡ lines → r ≡ Ok es → IsTold d last (k + 1) rest es) → before_entries e r ≡ Ok h → IsTold d last k text h
unfolding entries_from
entry_read d last k text line lines e (Ok es) h at said behind made =
    let ended = when line.ended (entry_of d k (words_between line.bytes)) e said in
    let words = no_other_words d k e (words_between line.bytes) ended.1 in
    let front = line_read (entry_words d k e) text line lines at ended.0 words.0 in
    let rest = behind front.rest es (sym front.others) refl in
    let same : e ∷ es ≡ h = (cc) in
    let count = rest.counted in
    subst (λ (all : List Entry). IsTold d last k text all) same
    (record {
      rest = rest.rest;
      is = front.is ∙ ap (λ (b : List ℕ). line_of (entry_words d k e) ++ b) rest.is ∙ sym (append_assoc (line_of (entry_words d k e)) (entries_from d (k + 1) es ++ traces_line) rest.rest)
          ∙ ap (λ (b : List ℕ). b ++ rest.rest) (sym (append_assoc (line_of (entry_words d k e)) (entries_from d (k + 1) es) traces_line));
      each = All-cons (IsPossible d) e es words.1 rest.each;
      counted = omega arith;
    })
entry_read d last k text line lines e (Err n) h at said behind made = (cc)

entry_or : (d : Declared) (last k : ℕ) (text : List ℕ) (line : Line) (lines : List Line) (o : Option Entry) (h : List Entry) → lines_of text ≡ line ∷ lines → entry_in d k line ≡ o
    → ((rest : List ℕ) (es : List Entry) → lines_of rest ≡ lines → entries_in d last (k + 1) lines ≡ Ok es → IsTold d last (k + 1) rest es) → entry_then (k + 1) o (entries_in d last (k + 1) lines) ≡ Ok h → IsTold d last k text h
entry_or d last k text line lines (Some e) h at said behind made = entry_read d last k text line lines e (entries_in d last (k + 1) lines) h at said behind made
entry_or d last k text line lines None h at said behind made = (cc)

line_or : (d : Declared) (last k : ℕ) (text : List ℕ) (line : Line) (lines : List Line) (over : Bool) (h : List Entry) → lines_of text ≡ line ∷ lines → k ≤ last + 1 → nat_lt last k ≡ over
    → (k ≤ last → (rest : List ℕ) (es : List Entry) → lines_of rest ≡ lines → entries_in d last (k + 1) lines ≡ Ok es → IsTold d last (k + 1) rest es)
    → cond over (cond (begins_traces line) (Ok []) (Err (k + 1))) (entry_then (k + 1) (entry_in d k line) (entries_in d last (k + 1) lines)) ≡ Ok h → IsTold d last k text h
line_or d last k text line lines true h at le test behind said =
    let lt = ltb-true last k test in
    end_read d last k text line lines h (begins_traces line) at (omega arith) refl said
line_or d last k text line lines false h at le test behind said = entry_or d last k text line lines (entry_in d k line) h at refl (behind (ltb-false last k test)) said

entries_alone : (d : Declared) (last k : ℕ) (lines : List Line) (text : List ℕ) (h : List Entry) → lines_of text ≡ lines → k ≤ last + 1 → entries_in d last k lines ≡ Ok h → IsTold d last k text h
unfolding entries_in
entries_alone d last k [] text h at le said = (cc)
entries_alone d last k (line ∷ lines) text h at le said =
    line_or d last k text line lines (nat_lt last k) h at le refl (λ within rest es others made. entries_alone d last (k + 1) lines rest es others (omega arith) made) said

-- ---- the first line

count_alone : (bytes : List ℕ) (n : ℕ) → count_in bytes ≡ Some n → n < 2 ^ 64 → words_between bytes ≡ codes "history" ∷ decimal n ∷ []
unfolding count_in
count_alone bytes n e small =
    let said = when (nat_le (length bytes) 2048) (all_of heading (words_between bytes)) n e in
    let all = all_alone heading (words_between bytes) n said.1 in
    let s = bind_alone (exactly (codes "history")) (λ (_ : Unit {0}). next_word natural_of) (words_between bytes) n [] all.all in
    let front = exactly_alone (codes "history") (words_between bytes) s.from s.mid s.first in
    let next = next_alone natural_of s.mid n [] s.second in
    front ∙ ap (λ (ws : Words). codes "history" ∷ ws) (next.is ∙ ap (λ (w : List ℕ). w ∷ []) (natural_alone next.word n next.says small))

record IsToldWhole (d : Declared) (text : List ℕ) (h : List Entry) : Type 0 where
  rest : List ℕ
  is : text ≡ history_text d h ++ traces_line ++ rest
  each : All (IsPossible d) h

regrouped : (a b c rest : List ℕ) → a ++ ((b ++ c) ++ rest) ≡ ((a ++ b) ++ c) ++ rest
regrouped a b c rest = sym (append_assoc a (b ++ c) rest) ∙ ap (λ (front : List ℕ). front ++ rest) (sym (append_assoc a b c))

promise_read : (d : Declared) (text : List ℕ) (line : Line) (lines : List Line) (h : List Entry) (n : ℕ) → length h < 2 ^ 64 → lines_of text ≡ line ∷ lines → promised line ≡ Some n → entries_in d n 1 lines ≡ Ok h → IsToldWhole d text h
unfolding history_text
promise_read d text line lines h n small at promise said =
    let ended = when line.ended (count_in line.bytes) n promise in
    let first = first_line text line lines at ended.0 in
    let told = entries_alone d n 1 lines first.rest h (sym first.others) (omega arith) said in
    let counted = told.counted in
    let count : n ≡ length h = omega arith in
    let few : n < 2 ^ 64 = omega arith in
    let words : words_between line.bytes ≡ codes "history" ∷ decimal (length h) ∷ [] = count_alone line.bytes n ended.1 few ∙ ap (λ (m : ℕ). codes "history" ∷ decimal m ∷ []) count in
    let front = line_read (codes "history" ∷ decimal (length h) ∷ []) text line lines at ended.0 words in
    let behind = entries_alone d n 1 lines front.rest h (sym front.others) (omega arith) said in
    let heads = line_of (codes "history" ∷ decimal (length h) ∷ []) in
    record {
      rest = behind.rest;
      is = front.is ∙ ap (λ (b : List ℕ). heads ++ b) behind.is ∙ regrouped heads (entries_from d 1 h) traces_line behind.rest;
      each = behind.each;
    }

promise_or : (d : Declared) (text : List ℕ) (line : Line) (lines : List Line) (h : List Entry) (o : Option ℕ) → length h < 2 ^ 64 → lines_of text ≡ line ∷ lines → promised line ≡ o → promised_in d o lines ≡ Ok h → IsToldWhole d text h
promise_or d text line lines h (Some n) small at promise said = promise_read d text line lines h n small at promise said
promise_or d text line lines h None small at promise said = (cc)

history_or : (d : Declared) (text : List ℕ) (lines : List Line) (h : List Entry) → length h < 2 ^ 64 → lines_of text ≡ lines → history_in d lines ≡ Ok h → IsToldWhole d text h
history_or d text [] h small at said = (cc)
history_or d text (line ∷ lines) h small at said = promise_or d text line lines h (promised line) small at refl said

told_of : (r : Result (List Entry) ℕ) (h : List Entry) → result_ok r ≡ Some h → r ≡ Ok h
told_of (Ok es) h e = ap Ok (same_Some es h e)
told_of (Err n) h e = (cc)

pub only_its_text : (d : Declared) (h : List Entry) (text : List ℕ) → IsCount (length h) → told_by d text ≡ Some h
    → (rest : List ℕ) × ((text ≡ history_text d h ++ line_of (codes "traces" ∷ []) ++ rest) × ArePossible d h)
unfolding entries_of
only_its_text d h text small e =
    let whole = history_or d text (lines_of text) h small refl (told_of (history_in d (lines_of text)) h e) in
    (whole.rest, (whole.is, record { each = whole.each; counted = small }))
