-- The text of a history tells it.
use Rattle.std.proofs.Common.{◌≡◌, ℕ, ◌+◌, ◌^◌, ◌<◌, ◌≤◌, Bool, true, cond, ◌&&◌, List, [], ◌∷◌, ◌++◌, length, Option, Some, None, Ok, Err, option_and_then, codes, decimal, All, refl, ap, ◌∙◌, arith}
use Rattle.std.specs.List.{join_with_byte}
use Rattle.std.specs.Result.{result_ok}
use Rattle.std.specs.Str.{bytes_eq}
use Rattle.std.proofs.lemmas.Bool.{and_from, lt-ltb, le-ltb, le-leb}
use Rattle.std.proofs.lemmas.Fmt.{length-decimal-le}
use Rattle.std.proofs.lemmas.List.Elements.{All-head, All-tail}
use Rattle.be_facts.proofs.Lists.{append_moved}
use Rattle.be_lex.specs.Lines.{Line, lines_of}
use Rattle.be_script.specs.Limits.{IsWithinLimits}
use Rattle.be_script.specs.Script.{Declared}
use Rattle.be_machine.specs.declared.Entry.{Entry}
use Rattle.be_report.specs.Entries.{entry_of}
use Rattle.be_written.specs.EntryText.{act_words, entry_words, entries_from, history_text}
use Rattle.be_report.specs.Lines.{is_plain, words_between}
use Rattle.be_written.specs.Lines.{line_of}
use Rattle.be_written.specs.Names.{actor_name}
use Rattle.be_report.specs.Possible.{IsPossible, ArePossible}
use Rattle.be_report.specs.Readers.{all_of, exactly, next_word, natural_of, unless_more}
use Rattle.be_report.specs.Told.{heading, count_in, entry_then, before_entries, entries_in, promised_in, history_in, entries_of, told_by}
use Rattle.be_report.proofs.EntryWords.{words_say_their_entry, exactly_back}
use Rattle.be_report.proofs.NumberWords.{plain-decimal, natural_back}
use Rattle.be_report.proofs.PlainWords.{entry_plain}
use Rattle.be_report.proofs.Readings.{Words, next_back, bind_back}
use Rattle.be_report.proofs.Splits.{split_join, lines_of-line}

abbrev pub traces_line : List ℕ
traces_line = line_of (codes "traces" ∷ [])

-- ---- the entries

end_back : (d : Declared) (last k : ℕ) (rest : List ℕ) → last < k → entries_in d last k (lines_of (traces_line ++ rest)) ≡ Ok []
unfolding entries_in
end_back d last k rest lt =
    ap (entries_in d last k) (lines_of-line (codes "traces") [] rest refl refl)
    ∙ ap (λ (b : Bool). cond b (Ok []) (entry_then (k + 1) (entry_of d k (words_between (codes "traces"))) (entries_in d last (k + 1) (lines_of rest)))) (lt-ltb last k lt)

entry_back : (d : Declared) (last k : ℕ) (e : Entry) (es : List Entry) (behind : List ℕ) → IsWithinLimits d → IsPossible d e → k < 2 ^ 64 → k ≤ last → entries_in d last (k + 1) (lines_of behind) ≡ Ok es
    → entries_in d last k (lines_of (line_of (entry_words d k e) ++ behind)) ≡ Ok (e ∷ es)
unfolding entries_in
entry_back d last k e es behind limits possible small le rest =
    let plain = entry_plain d e limits possible in
    let digits = plain-decimal k small in
    let words = entry_words d k e in
    let said : entry_of d k (words_between (join_with_byte 32 words)) ≡ Some e =
    ap (entry_of d k) (split_join (decimal k) (actor_name d e.actor ∷ act_words d e.act) digits plain) ∙ words_say_their_entry d k e limits possible in
    ap (entries_in d last k) (lines_of-line (decimal k) (actor_name d e.actor ∷ act_words d e.act) behind digits plain)
    ∙ ap (λ (b : Bool). cond b (cond (true && bytes_eq (join_with_byte 32 words) (codes "traces")) (Ok []) (Err (k + 1))) (entry_then (k + 1) (entry_of d k (words_between (join_with_byte 32 words))) (entries_in d last (k + 1) (lines_of behind)))) (le-ltb last k le)
    ∙ ap (λ (o : Option Entry). entry_then (k + 1) o (entries_in d last (k + 1) (lines_of behind))) said
    ∙ ap (before_entries e) rest

entries_back : (d : Declared) (last k : ℕ) (h : List Entry) (rest : List ℕ) → IsWithinLimits d → All (IsPossible d) h → last < 2 ^ 64 → last + 1 ≡ k + length h
    → entries_in d last k (lines_of ((entries_from d k h ++ traces_line) ++ rest)) ≡ Ok h
unfolding entries_from
entries_back d last k [] rest limits each small count = end_back d last k rest (omega arith)
entries_back d last k (e ∷ es) rest limits each small count =
    let behind = (entries_from d (k + 1) es ++ traces_line) ++ rest in
    ap (λ (text : List ℕ). entries_in d last k (lines_of text)) (append_moved (line_of (entry_words d k e)) (entries_from d (k + 1) es) traces_line rest)
    ∙ entry_back d last k e es behind limits (All-head (IsPossible d) e es each) (omega arith) (omega arith)
    (entries_back d last (k + 1) es rest limits (All-tail (IsPossible d) e es each) small (omega arith))

-- ---- the first line

heading_back : (n : ℕ) → n < 2 ^ 64 → all_of heading (codes "history" ∷ decimal n ∷ []) ≡ Some n
heading_back n small =
    ap (option_and_then (λ (p : ℕ × Words). unless_more p.0 p.1))
    (bind_back (exactly (codes "history")) (λ (_ : Unit {0}). next_word natural_of) (codes "history" ∷ decimal n ∷ []) (decimal n ∷ []) (tt {0}) (Some (n, [])) (exactly_back (codes "history") (decimal n ∷ []))
    (next_back natural_of (decimal n) [] n (natural_back n small)))

count_back : (n : ℕ) → n < 2 ^ 64 → count_in (join_with_byte 32 (codes "history" ∷ decimal n ∷ [])) ≡ Some n
unfolding count_in
count_back n small =
    let line = join_with_byte 32 (codes "history" ∷ decimal n ∷ []) in
    let digits : length (decimal n) ≤ 20 = length-decimal-le 20 n (omega arith) (omega arith) small in
    let short : length line ≤ 2048 = omega arith in
    let plain = plain-decimal n small in
    ap (λ (b : Bool). cond b (all_of heading (words_between line)) None) (le-leb (length line) 2048 short)
    ∙ ap (all_of heading) (split_join (codes "history") (decimal n ∷ []) refl (and_from (is_plain (decimal n)) true plain refl))
    ∙ heading_back n small

pub text_tells_history : (d : Declared) (h : List Entry) (rest : List ℕ) → IsWithinLimits d → ArePossible d h → told_by d (history_text d h ++ line_of (codes "traces" ∷ []) ++ rest) ≡ Some h
unfolding entries_of history_text
text_tells_history d h rest limits possible =
    let n = length h in
    let behind = (entries_from d 1 h ++ traces_line) ++ rest in
    let plain = plain-decimal n possible.counted in
    ap (λ (text : List ℕ). result_ok (history_in d (lines_of text))) (append_moved (line_of (codes "history" ∷ decimal n ∷ [])) (entries_from d 1 h) traces_line rest)
    ∙ ap (λ (lines : List Line). result_ok (history_in d lines)) (lines_of-line (codes "history") (decimal n ∷ []) behind refl (and_from (is_plain (decimal n)) true plain refl))
    ∙ ap (λ (o : Option ℕ). result_ok (promised_in d o (lines_of behind))) (count_back n possible.counted)
    ∙ ap result_ok (entries_back d n 1 h rest limits possible.each possible.counted (omega arith))
