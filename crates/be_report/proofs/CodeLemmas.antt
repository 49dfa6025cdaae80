-- What the code reads, word by word and line by line.
use Rattle.std.proofs.Common.{◌≡◌, ◌≢◌, ℕ, ℤ, pos, unsigned_abs, unwrap_or, SomeIff, IsTrue, get_or, lt_of_not-le, suc, ◌+◌, ◌-◌, ◌*◌, ◌^◌, ◌<◌, ◌≤◌, min, Bool, true, false, cond, not, ◌&&◌, ◌||◌, eqb, nat_lt, ◌==◌, List, [], ◌∷◌, ◌++◌, length, take, drop, Option, Some, None, Result, Ok, Err, option_map, ok_or, codes, refl, sym, ap, subst, ◌∙◌, arith, append_assoc, length-drop}
use Rattle.std.specs.List.{list_any, position_from, slice_split, onto_first, position_or_len, before_first, after_first}
use Rattle.std.specs.Str.{bytes_eq}
use Rattle.std.proofs.lemmas.Bool.{and_right, lt-ltb, le-ltb}
use Rattle.std.proofs.lemmas.Bool.Decides.{nat_tests}
use Rattle.std.proofs.lemmas.List.Splits.{slice_split_first, length-slice_split}
use Rattle.std.proofs.lemmas.List.Sums.{count_by-le-length}
use Rattle.std.proofs.lemmas.Option.{same_Some, some_pair_parts}
use Rattle.be_facts.proofs.Truths.{and_regroup}
use Rattle.be_command.specs.declared.fault.Reason.TheVariants.{BadEntry}
use Rattle.be_lex.specs.Lines.{Line, lines_from, lines_of}
use Rattle.be_geom.specs.Points.{between}
use Rattle.be_lex.specs.Words.{is_space, is_empty, cut_at}
use Rattle.be_lex.specs.Numbers.{is_number, number_of}
use Rattle.be_lex.proofs.Ranges.{between_naturals, between_naturals_le}
use Rattle.be_lex.proofs.Cuts.{split_pieces}
use Rattle.be_lex.proofs.LineLemmas.{lines_from-more}
use Rattle.be_said.specs.declared.fault.LineFault.{LineFault}
use Rattle.be_said.specs.declared.fault.LineFault.TheVariants as fault
use Rattle.be_script.specs.Script.{Declared}
use Rattle.be_machine.specs.declared.Entry.{Entry}
use Rattle.be_report.specs.Entries.{entry_of}
use Rattle.be_report.specs.Lines.{words_between}
use Rattle.be_reader.specs.Outcomes.{fault_at}
use Rattle.be_report.specs.Outcomes.{IsHistory, IsSaid, ReadsOr}
use Rattle.be_report.specs.Readers.{Reader, next_word, Reads, natural_of}
use Rattle.be_report.specs.Told.{count_in, begins_traces, entry_in, entry_then, before_entries, entries_in, promised_in, history_in, entries_of}
use Rattle.be_report.proofs.NumberWords.{unsigned_number}
use Rattle.be_report.proofs.Readings.{Words}

-- ---- words

pub reads_end : {X : Type 0} (said : List ℕ → Option X) (before : Words) → before ≡ [] → next_word said before ≡ None
reads_end said before e = ap (next_word said) e

pub or_bad_entry : {X : Type 0} (read : Reader X) (before after : Words) (o : Option X) → Reads read before o after → ReadsOr read before (ok_or o (fault.Bad BadEntry)) after
or_bad_entry read before after (Some x) r = r
or_bad_entry read before after None r = (r, refl)

-- ---- numbers

pub numbers_are_some : (word : List ℕ) → is_number word ≡ true → 0 < length word
unfolding is_number
numbers_are_some [] is = (cc)
numbers_are_some (b ∷ word) is = omega arith

abbrev most : ℕ
most = 2 ^ 64 - 1

-- the number that is read, or the greatest
natural_up_to : (v : ℕ) (o : Option ℕ) → SomeIff o (IsTrue (between (pos 0) (pos v) (pos most))) v → Some (unwrap_or o most) ≡ Some (min v most)
natural_up_to v (Some n) is = let le = between_naturals_le v most is.0 in let same = is.1 in ap Some (grind arith)
natural_up_to v None is = let more : most < v = lt_of_not-le (λ le. is (between_naturals v most le)) in ap Some (grind arith)

pub natural_read : (word : List ℕ) (z : ℤ) (o : Option ℕ) → is_number word ≡ true → z ≡ number_of word → eqb (get_or word 0 0) 45 ≡ false
    → SomeIff o (IsTrue (between (pos 0) z (pos most))) (unsigned_abs z) → Some (unwrap_or o most) ≡ option_map (λ n. min n most) (natural_of word)
natural_read word z o is same first found =
    let v = unsigned_abs (number_of word) in
    natural_up_to v o (subst (λ (y : ℤ). SomeIff o (IsTrue (between (pos 0) y (pos most))) (unsigned_abs y)) (same ∙ unsigned_number word is first) found)
    ∙ sym (ap (λ (b : Bool). option_map (λ n. min n most) (cond (b && not (eqb (get_or word 0 0) 45)) (Some v) None)) is
    ∙ ap (λ (b : Bool). option_map (λ n. min n most) (cond (not b) (Some v) None)) first)

-- ---- cuts

abbrev is_byte : ℕ → ℕ → Bool
is_byte byte b = b == byte

place_step : (byte : ℕ) (v : Bool) (bytes : List ℕ) → (list_any (is_byte byte) bytes ≡ true → position_or_len (is_byte byte) bytes < length bytes) →
    (v || list_any (is_byte byte) bytes) ≡ true → cond (not v) (1 + position_or_len (is_byte byte) bytes) 0 < suc (length bytes)
place_step byte true bytes same some = omega arith
place_step byte false bytes same some = let k = same some in omega arith

place_within : (byte : ℕ) (bytes : List ℕ) → list_any (is_byte byte) bytes ≡ true → position_or_len (is_byte byte) bytes < length bytes
place_within byte [] some = (cc)
place_within byte (b ∷ bytes) some = place_step byte (is_byte byte b) bytes (place_within byte bytes) some

whole_step : (byte : ℕ) (v : Bool) (b : ℕ) (bytes : List ℕ) → (list_any (is_byte byte) bytes ≡ false → slice_split (is_byte byte) bytes ≡ bytes ∷ []) →
    (v || list_any (is_byte byte) bytes) ≡ false → cond v ([] ∷ slice_split (is_byte byte) bytes) (onto_first b (slice_split (is_byte byte) bytes)) ≡ (b ∷ bytes) ∷ []
whole_step byte true b bytes same none = (cc)
whole_step byte false b bytes same none = ap (onto_first b) (same none)

whole : (byte : ℕ) (bytes : List ℕ) → list_any (is_byte byte) bytes ≡ false → slice_split (is_byte byte) bytes ≡ bytes ∷ []
whole byte [] none = refl
whole byte (b ∷ bytes) none = whole_step byte (is_byte byte b) b bytes (whole byte bytes) none

cut_by : (byte : ℕ) (v : Bool) (text before behind : List ℕ) → list_any (is_byte byte) text ≡ v → ◌≡◌ {A = Option (List ℕ × List ℕ)} (Some (before, behind)) (cond v (Some (before_first (is_byte byte) text, after_first (is_byte byte) text)) None)
    → slice_split (is_byte byte) text ≡ before ∷ slice_split (is_byte byte) behind
cut_by byte true text before behind some e =
    let parts = some_pair_parts before (before_first (is_byte byte) text) behind (after_first (is_byte byte) text) e in
    slice_split_first (is_byte byte) text 0 (place_within byte text some) ∙ ap (λ (b : List ℕ). b ∷ slice_split (is_byte byte) (after_first (is_byte byte) text)) (sym parts.0)
    ∙ ap (λ (b : List ℕ). before ∷ slice_split (is_byte byte) b) (sym parts.1)
cut_by byte false text before behind some e = (cc)

uncut_by : (byte : ℕ) (v : Bool) (text : List ℕ) → list_any (is_byte byte) text ≡ v → ◌≡◌ {A = Option (List ℕ × List ℕ)} None (cond v (Some (before_first (is_byte byte) text, after_first (is_byte byte) text)) None) → slice_split (is_byte byte) text ≡ text ∷ []
uncut_by byte true text some e = (cc)
uncut_by byte false text none e = whole byte text none

pieces_cut : (byte : ℕ) (text before behind : List ℕ) → Some (before, behind) ≡ cut_at byte text → slice_split (is_byte byte) text ≡ before ∷ slice_split (is_byte byte) behind
pieces_cut byte text before behind e = cut_by byte (list_any (is_byte byte) text) text before behind refl e

pieces_uncut : (byte : ℕ) (text : List ℕ) → None ≡ cut_at byte text → slice_split (is_byte byte) text ≡ text ∷ []
pieces_uncut byte text e = uncut_by byte (list_any (is_byte byte) text) text refl e

shorter_by : (byte : ℕ) (v : Bool) (text before behind : List ℕ) → list_any (is_byte byte) text ≡ v → ◌≡◌ {A = Option (List ℕ × List ℕ)} (Some (before, behind)) (cond v (Some (before_first (is_byte byte) text, after_first (is_byte byte) text)) None)
    → length behind < length text
shorter_by byte true text before behind some e =
    let parts = some_pair_parts before (before_first (is_byte byte) text) behind (after_first (is_byte byte) text) e in
    let same = ap length parts.1 in
    let within = place_within byte text some in
    let short = length-drop (position_or_len (is_byte byte) text + 1) text in
    omega arith
shorter_by byte false text before behind some e = (cc)

pub cut_shorter : (byte : ℕ) (text before behind : List ℕ) → Some (before, behind) ≡ cut_at byte text → length behind < length text
cut_shorter byte text before behind e = shorter_by byte (list_any (is_byte byte) text) text before behind refl e

-- a word in front of a space, or all of a text that has none
pub words_cut : (text word behind : List ℕ) → Some (word, behind) ≡ cut_at 32 text → words_between text ≡ word ∷ words_between behind
words_cut text word behind e = pieces_cut 32 text word behind e

pub words_uncut : (text : List ℕ) → None ≡ cut_at 32 text → words_between text ≡ text ∷ []
words_uncut text e = pieces_uncut 32 text e

pub words_are_some : (text : List ℕ) → words_between text ≢ []
words_are_some text e = let r = split_pieces is_space text in let no : r.0 ∷ r.1 ≡ [] = sym r.2 ∙ e in (cc)

-- ---- lines

-- a line in front of a line feed
pub lines_cut : (text line behind : List ℕ) → Some (line, behind) ≡ cut_at 10 text → lines_of text ≡ record { bytes = line; ended = true } ∷ lines_of behind
unfolding lines_of
lines_cut text line behind e = ap lines_from (pieces_cut 10 text line behind e) ∙ lines_from-more line (slice_split (is_byte 10) behind) (split_pieces (is_byte 10) behind)

abbrev last_line : List ℕ → List Line
last_line text = cond (is_empty text) [] (record { bytes = text; ended = false } ∷ [])

lines_uncut : (text : List ℕ) → None ≡ cut_at 10 text → lines_of text ≡ last_line text
unfolding lines_of
lines_uncut text e = ap lines_from (pieces_uncut 10 text e)

last_le : (b : Bool) (line : Line) → length (cond b [] (line ∷ [])) ≤ 1
last_le true line = omega arith
last_le false line = omega arith

lines_from-le : (pieces : List (List ℕ)) → length (lines_from pieces) ≤ length pieces
lines_from-le [] = omega arith
lines_from-le (piece ∷ []) = last_le (is_empty piece) (record { bytes = piece; ended = false })
lines_from-le (piece ∷ next ∷ pieces) = let rest = lines_from-le (next ∷ pieces) in omega arith

pub lines_of-le : (text : List ℕ) → length (lines_of text) ≤ length text + 1
unfolding lines_of
lines_of-le text =
    let lines = lines_from-le (slice_split (is_byte 10) text) in
    let pieces = length-slice_split (is_byte 10) text in
    let feeds = count_by-le-length (is_byte 10) text in
    omega arith

-- ---- entries, one behind the other

-- entries before those behind them
abbrev pub before_all : List Entry → Result (List Entry) ℕ → Result (List Entry) ℕ
before_all es (Ok rest) = Ok (es ++ rest)
before_all es (Err n) = Err n

before_more : (es : List Entry) (e : Entry) (r : Result (List Entry) ℕ) → before_all es (before_entries e r) ≡ before_all (es ++ e ∷ []) r
before_more es e (Ok rest) = ap Ok (sym (append_assoc es (e ∷ []) rest))
before_more es e (Err n) = refl

either_one : (b : Bool) (r : Result (List Entry) ℕ) → cond b r r ≡ r
either_one true r = refl
either_one false r = refl

last_breaks : (d : Declared) (last k : ℕ) (text : List ℕ) → entries_in d last k (last_line text) ≡ Err (k + 1)
unfolding entries_in
last_breaks d last k [] = refl
last_breaks d last k (b ∷ text) = either_one (nat_lt last k) (Err (k + 1))

-- what is left has no line feed
pub breaks_unended : (d : Declared) (last k : ℕ) (text : List ℕ) → None ≡ cut_at 10 text → entries_in d last k (lines_of text) ≡ Err (k + 1)
breaks_unended d last k text e = ap (entries_in d last k) (lines_uncut text e) ∙ last_breaks d last k text

-- behind the last entry
pub at_end : (d : Declared) (last k : ℕ) (text line behind : List ℕ) → Some (line, behind) ≡ cut_at 10 text → last < k → entries_in d last k (lines_of text) ≡ cond (bytes_eq line (codes "traces")) (Ok []) (Err (k + 1))
unfolding entries_in
at_end d last k text line behind e lt =
    ap (entries_in d last k) (lines_cut text line behind e)
    ∙ ap (λ (b : Bool). cond b (cond (bytes_eq line (codes "traces")) (Ok []) (Err (k + 1))) (entry_then (k + 1) (entry_of d k (words_between line)) (entries_in d last (k + 1) (lines_of behind)))) (lt-ltb last k lt)

at_entry : (d : Declared) (last k : ℕ) (text line behind : List ℕ) → Some (line, behind) ≡ cut_at 10 text → k ≤ last → entries_in d last k (lines_of text) ≡ entry_then (k + 1) (entry_of d k (words_between line)) (entries_in d last (k + 1) (lines_of behind))
unfolding entries_in
at_entry d last k text line behind e le =
    ap (entries_in d last k) (lines_cut text line behind e)
    ∙ ap (λ (b : Bool). cond b (cond (bytes_eq line (codes "traces")) (Ok []) (Err (k + 1))) (entry_then (k + 1) (entry_of d k (words_between line)) (entries_in d last (k + 1) (lines_of behind)))) (le-ltb last k le)

pub entry_goes_on : (d : Declared) (last k : ℕ) (text line behind : List ℕ) (es : List Entry) (e : Entry) → Some (line, behind) ≡ cut_at 10 text → k ≤ last → entry_of d k (words_between line) ≡ Some e
    → before_all es (entries_in d last k (lines_of text)) ≡ before_all (es ++ e ∷ []) (entries_in d last (k + 1) (lines_of behind))
entry_goes_on d last k text line behind es e cut le said =
    ap (before_all es) (at_entry d last k text line behind cut le ∙ ap (λ (o : Option Entry). entry_then (k + 1) o (entries_in d last (k + 1) (lines_of behind))) said)
    ∙ before_more es e (entries_in d last (k + 1) (lines_of behind))

pub entry_breaks : (d : Declared) (last k : ℕ) (text line behind : List ℕ) → Some (line, behind) ≡ cut_at 10 text → k ≤ last → entry_of d k (words_between line) ≡ None → entries_in d last k (lines_of text) ≡ Err (k + 1)
entry_breaks d last k text line behind cut le said =
    at_entry d last k text line behind cut le ∙ ap (λ (o : Option Entry). entry_then (k + 1) o (entries_in d last (k + 1) (lines_of behind))) said

-- ---- the number of entries

below_min : (n most k : ℕ) → k ≤ most → nat_lt (min n most) k ≡ nat_lt n k
below_min n most k le = grind (arith, nat_tests)

-- a greatest number that is past all lines is as good as any
pub entries_in-min : (d : Declared) (n most k : ℕ) (lines : List Line) → k + length lines ≤ most → entries_in d (min n most) k lines ≡ entries_in d n k lines
unfolding entries_in
entries_in-min d n most k [] le = refl
entries_in-min d n most k (line ∷ lines) le =
    let first : Result (List Entry) ℕ = cond (begins_traces line) (Ok []) (Err (k + 1)) in
    ap (λ (b : Bool). cond b first (entry_then (k + 1) (entry_in d k line) (entries_in d (min n most) (k + 1) lines))) (below_min n most k (omega arith))
    ∙ ap (λ (r : Result (List Entry) ℕ). cond (nat_lt n k) first (entry_then (k + 1) (entry_in d k line) r)) (entries_in-min d n most (k + 1) lines (omega arith))

pub promised_min : (d : Declared) (o : Option ℕ) (last : ℕ) (lines : List Line) → 1 + length lines ≤ most → Some last ≡ option_map (λ n. min n most) o → promised_in d o lines ≡ entries_in d last 1 lines
promised_min d (Some n) last lines le e = sym (entries_in-min d n most 1 lines le) ∙ ap (λ (m : ℕ). entries_in d m 1 lines) (sym (same_Some last (min n most) e))
promised_min d None last lines le e = (cc)

pub promised_none : (d : Declared) (o : Option ℕ) (lines : List Line) → None ≡ option_map (λ n. min n most) o → promised_in d o lines ≡ Err 1
promised_none d (Some n) lines e = (cc)
promised_none d None lines e = refl

-- a line that is no entry breaks a history
pub broken_history : (due : Result (List Entry) ℕ) (line : ℕ) (said : Option Entry) (f : LineFault) → (said ≡ None → due ≡ Err line) → IsSaid said (Err f) → IsHistory due (Err (fault_at line f))
broken_history due line said (fault.Bad reason) breaks is = (breaks is.0, is.1)
broken_history due line said fault.NoMemory breaks is = tt

last_tells_none : (d : Declared) (text : List ℕ) → history_in d (last_line text) ≡ Err 1
last_tells_none d [] = refl
last_tells_none d (b ∷ text) = refl

pub history_unended : (d : Declared) (text : List ℕ) → None ≡ cut_at 10 text → entries_of d text ≡ Err 1
unfolding entries_of
history_unended d text e = ap (history_in d) (lines_uncut text e) ∙ last_tells_none d text

pub history_cut : (d : Declared) (text line behind : List ℕ) → Some (line, behind) ≡ cut_at 10 text → entries_of d text ≡ promised_in d (count_in line) (lines_of behind)
unfolding entries_of
history_cut d text line behind e = ap (history_in d) (lines_cut text line behind e)

-- ---- names

-- a name that is put together of two texts
pub joined_short : (front back word : List ℕ) → length word < length front → bytes_eq (front ++ back) word ≡ false
joined_short [] back word lt = absurd (omega arith)
joined_short (x ∷ front) back [] lt = refl
joined_short (x ∷ front) back (y ∷ word) lt = and_right (eqb x y) (bytes_eq (front ++ back) word) (joined_short front back word (omega arith))

pub joined_long : (front back word : List ℕ) → length front ≤ length word → bytes_eq (front ++ back) word ≡ (bytes_eq front (take (length front) word) && bytes_eq back (drop (length front) word))
joined_long [] back word le = refl
joined_long (x ∷ front) back [] le = absurd (omega arith)
joined_long (x ∷ front) back (y ∷ word) le = ap (λ (b : Bool). eqb x y && b) (joined_long front back word (omega arith)) ∙ and_regroup (eqb x y) (bytes_eq front (take (length front) word)) (bytes_eq back (drop (length front) word))

-- the place of a name among names that stand one behind the other
abbrev pub place_from : List ℕ → ℕ → List (List ℕ) → Option ℕ
place_from word first names = position_from (λ other. bytes_eq other word) first names

abbrev pub or_behind : Option ℕ → Option ℕ → Option ℕ
or_behind (Some n) other = Some n
or_behind None other = other

behind_by : (b : Bool) (first : ℕ) (o other : Option ℕ) → cond b (Some first) (or_behind o other) ≡ or_behind (cond b (Some first) o) other
behind_by true first o other = refl
behind_by false first o other = refl

pub place_from-append : (word : List ℕ) (first : ℕ) (xs ys : List (List ℕ)) → place_from word first (xs ++ ys) ≡ or_behind (place_from word first xs) (place_from word (first + length xs) ys)
place_from-append word first [] ys = ap (λ (n : ℕ). place_from word n ys) (omega arith)
place_from-append word first (x ∷ xs) ys =
    ap (cond (bytes_eq x word) (Some first)) (place_from-append word (first + 1) xs ys ∙ ap (λ (n : ℕ). or_behind (place_from word (first + 1) xs) (place_from word n ys)) (omega arith))
    ∙ behind_by (bytes_eq x word) first (place_from word (first + 1) xs) (place_from word (first + length (x ∷ xs)) ys)

shifted_by : (b : Bool) (first more : ℕ) (o : Option ℕ) → cond b (Some (first + more)) (option_map (λ n. n + more) o) ≡ option_map (λ n. n + more) (cond b (Some first) o)
shifted_by true first more o = refl
shifted_by false first more o = refl

-- so many places further on
pub place_from-shift : (word : List ℕ) (first more : ℕ) (xs : List (List ℕ)) → place_from word (first + more) xs ≡ option_map (λ n. n + more) (place_from word first xs)
place_from-shift word first more [] = refl
place_from-shift word first more (x ∷ xs) =
    ap (λ (n : ℕ). cond (bytes_eq x word) (Some (first + more)) (place_from word n xs)) (omega arith)
    ∙ ap (cond (bytes_eq x word) (Some (first + more))) (place_from-shift word (first + 1) more xs)
    ∙ shifted_by (bytes_eq x word) first more (place_from word (first + 1) xs)

-- the two names of a window are passed over
pub window_passed : (word loop twin : List ℕ) (names : List (List ℕ)) (k : ℕ) → bytes_eq loop word ≡ false → bytes_eq twin word ≡ false → place_from word (2 * k) (loop ∷ twin ∷ names) ≡ place_from word (2 * (k + 1)) names
window_passed word loop twin names k first second =
    ap (λ (b : Bool). cond b (Some (2 * k)) (cond (bytes_eq twin word) (Some (2 * k + 1)) (place_from word (2 * k + 1 + 1) names))) first
    ∙ ap (λ (b : Bool). cond b (Some (2 * k + 1)) (place_from word (2 * k + 1 + 1) names)) second
    ∙ ap (λ (n : ℕ). place_from word n names) (omega arith)

pub looper_found : (word loop twin : List ℕ) (names : List (List ℕ)) (k : ℕ) → bytes_eq loop word ≡ true → place_from word (2 * k) (loop ∷ twin ∷ names) ≡ Some (2 * k)
looper_found word loop twin names k first = ap (λ (b : Bool). cond b (Some (2 * k)) (cond (bytes_eq twin word) (Some (2 * k + 1)) (place_from word (2 * k + 1 + 1) names))) first
