-- What a word says by itself keeps its limits.
use Rattle.std.proofs.Common.{◌≡◌, ℕ, ◌+◌, ◌*◌, ◌/◌, ◌%◌, ◌<◌, ◌==◌, Bool, true, false, not, ◌&&◌, codes, cond, List, [], ◌∷◌, length, filter, Option, Some, None, Ok, Err, refl, ap, ◌∙◌, subst, arith}
use Rattle.std.specs.Prelude.{nat_le}
use Rattle.std.specs.Int.{w32, from_be_bytes}
use Rattle.std.specs.List.{list_all, onto_first, slice_split}
use Rattle.std.specs.Str.{bytes_eq}
use Rattle.std.proofs.lemmas.Bool.{eqb-true, le-leb, and_from}
use Rattle.std.proofs.lemmas.Bool.Decides.{nat_tests}
use Rattle.be_facts.proofs.Truths.{and_first, and_second}
use Rattle.be_actor.specs.Limits.{is_reserved, is_what, is_what_byte}
use Rattle.be_command.specs.declared.fault.Reason.TheVariants.{Shape}
use Rattle.be_command.specs.Kinds.{formed}
use Rattle.be_lex.specs.Codes.{code_of, is_code, is_code_byte, is_reserved_code}
use Rattle.be_lex.specs.Lines.{is_printable}
use Rattle.be_lex.specs.Words.{is_empty, is_space, words_of}
use Rattle.be_line.specs.Kinds.{filter_what_said, note_said, said_as, what_said}
use Rattle.be_script.specs.Limits.{is_filter_word}
use Rattle.be_script.specs.Programs.{is_note}

-- ---- the words of a printable line

abbrev pub is_shown : ℕ → Bool
is_shown b = nat_le 33 b && nat_le b 126

-- one byte or more, each of them shown
abbrev pub is_shown_word : List ℕ → Bool
is_shown_word word = nat_le 1 (length word) && list_all is_shown word

shown_byte : (b : ℕ) → (nat_le 32 b && nat_le b 126) ≡ true → is_space b ≡ false → is_shown b ≡ true
shown_byte b h n = grind (arith, nat_tests)

onto_shown : (b : ℕ) (pieces : List (List ℕ)) → is_shown b ≡ true → list_all (list_all is_shown) pieces ≡ true → list_all (list_all is_shown) (onto_first b pieces) ≡ true
onto_shown b [] h k = and_from (list_all is_shown (b ∷ [])) true (and_from (is_shown b) true h refl) refl
onto_shown b (piece ∷ pieces) h k =
    and_from (is_shown b && list_all is_shown piece) (list_all (list_all is_shown) pieces)
    (and_from (is_shown b) (list_all is_shown piece) h (and_first (list_all is_shown piece) (list_all (list_all is_shown) pieces) k))
    (and_second (list_all is_shown piece) (list_all (list_all is_shown) pieces) k)

pieces_by : (b : ℕ) (pieces : List (List ℕ)) (s : Bool) → is_space b ≡ s → (nat_le 32 b && nat_le b 126) ≡ true → list_all (list_all is_shown) pieces ≡ true →
    list_all (list_all is_shown) (cond s ([] ∷ pieces) (onto_first b pieces)) ≡ true
pieces_by b pieces true e h k = k
pieces_by b pieces false e h k = onto_shown b pieces (shown_byte b h e) k

pieces_shown : (bytes : List ℕ) → is_printable bytes ≡ true → list_all (list_all is_shown) (slice_split is_space bytes) ≡ true
pieces_shown [] h = refl
pieces_shown (b ∷ bytes) h =
    let here = nat_le 32 b && nat_le b 126 in
    let rest = list_all (λ b. nat_le 32 b && nat_le b 126) bytes in
    pieces_by b (slice_split is_space bytes) (is_space b) refl (and_first here rest h) (pieces_shown bytes (and_second here rest h))

some_bytes : (piece : List ℕ) → not (is_empty piece) ≡ true → nat_le 1 (length piece) ≡ true
some_bytes [] h = h
some_bytes (b ∷ bytes) h = le-leb 1 (length (b ∷ bytes)) (omega arith)

kept_shown : (pieces : List (List ℕ)) → list_all (list_all is_shown) pieces ≡ true → list_all is_shown_word (filter (λ piece. not (is_empty piece)) pieces) ≡ true
kept_shown [] h = refl
kept_shown (piece ∷ pieces) h = by (not (is_empty piece)) refl (kept_shown pieces (and_second (list_all is_shown piece) (list_all (list_all is_shown) pieces) h))
  where
    by : (b : Bool) → not (is_empty piece) ≡ b → list_all is_shown_word (filter (λ piece. not (is_empty piece)) pieces) ≡ true →
        list_all is_shown_word (cond b (piece ∷ filter (λ piece. not (is_empty piece)) pieces) (filter (λ piece. not (is_empty piece)) pieces)) ≡ true
    by true e rest =
        and_from (is_shown_word piece) (list_all is_shown_word (filter (λ piece. not (is_empty piece)) pieces))
        (and_from (nat_le 1 (length piece)) (list_all is_shown piece) (some_bytes piece e) (and_first (list_all is_shown piece) (list_all (list_all is_shown) pieces) h))
        rest
    by false e rest = rest

pub words-shown : (line : List ℕ) → is_printable line ≡ true → list_all is_shown_word (words_of line) ≡ true
unfolding words_of
words-shown line h = kept_shown (slice_split is_space line) (pieces_shown line h)

-- ---- notes

noted : (short : Bool) (word note : List ℕ) → nat_le (length word) 32 ≡ short → is_shown_word word ≡ true → cond short (Ok word) (Err Shape) ≡ Ok note → is_note note ≡ true
noted true word note e h said =
    let same : word ≡ note = (cc) in
    subst (λ (n : List ℕ). is_note n ≡ true) same
    (and_from (nat_le 1 (length word) && nat_le (length word) 32) (list_all is_shown word)
    (and_from (nat_le 1 (length word)) (nat_le (length word) 32) (and_first (nat_le 1 (length word)) (list_all is_shown word) h) e)
    (and_second (nat_le 1 (length word)) (list_all is_shown word) h))
noted false word note e h said = absurd ((cc))

pub note-keeps : (word note : List ℕ) → is_shown_word word ≡ true → note_said word ≡ Ok note → is_note note ≡ true
note-keeps word note h e = noted (nat_le (length word) 32) word note refl h e

-- ---- words of four letters

what_byte : (b : ℕ) → is_code_byte b ≡ true → (is_what_byte b ≡ true) × (b < 256)
what_byte b h = (grind (arith, nat_tests), grind (arith, nat_tests))

four_bytes : (a b c d : ℕ) → from_be_bytes w32 (a ∷ b ∷ c ∷ d ∷ []) ≡ a * 16777216 + b * 65536 + c * 256 + d
four_bytes a b c d = omega arith

quarters : (a b c d n : ℕ) → n ≡ a * 16777216 + b * 65536 + c * 256 + d → b < 256 → c < 256 → d < 256 → a < 256 →
    (n / 16777216 ≡ a) × (n / 65536 % 256 ≡ b) × (n / 256 % 256 ≡ c) × (n % 256 ≡ d)
quarters a b c d n e p q r s = (omega arith, omega arith, omega arith, omega arith)

code_is_what : (word : List ℕ) → is_code word ≡ true → is_what (from_be_bytes w32 word) ≡ true
unfolding is_code
code_is_what [] h = absurd ((cc))
code_is_what (a ∷ []) h = absurd ((cc))
code_is_what (a ∷ b ∷ []) h = absurd ((cc))
code_is_what (a ∷ b ∷ c ∷ []) h = absurd ((cc))
code_is_what (a ∷ b ∷ c ∷ d ∷ e ∷ more) h =
    let count = eqb-true (length (a ∷ b ∷ c ∷ d ∷ e ∷ more)) 4 (and_first (length (a ∷ b ∷ c ∷ d ∷ e ∷ more) == 4) (list_all is_code_byte (a ∷ b ∷ c ∷ d ∷ e ∷ more)) h) in
    absurd (omega arith)
code_is_what (a ∷ b ∷ c ∷ d ∷ []) h =
    let n = from_be_bytes w32 (a ∷ b ∷ c ∷ d ∷ []) in
    let pa = what_byte a (and_first (is_code_byte a) (list_all is_code_byte (b ∷ c ∷ d ∷ [])) h) in
    let rb = and_second (is_code_byte a) (list_all is_code_byte (b ∷ c ∷ d ∷ [])) h in
    let pb = what_byte b (and_first (is_code_byte b) (list_all is_code_byte (c ∷ d ∷ [])) rb) in
    let rc = and_second (is_code_byte b) (list_all is_code_byte (c ∷ d ∷ [])) rb in
    let pc = what_byte c (and_first (is_code_byte c) (list_all is_code_byte (d ∷ [])) rc) in
    let rd = and_second (is_code_byte c) (list_all is_code_byte (d ∷ [])) rc in
    let pd = what_byte d (and_first (is_code_byte d) true rd) in
    let parts = quarters a b c d n (four_bytes a b c d) pb.1 pc.1 pd.1 pa.1 in
    let at = is_what_byte (n / 16777216) in
    let bt = is_what_byte (n / 65536 % 256) in
    let ct = is_what_byte (n / 256 % 256) in
    let dt = is_what_byte (n % 256) in
    and_from ((at && bt) && ct) dt
    (and_from (at && bt) ct (and_from at bt (ap is_what_byte parts.0 ∙ pa.0) (ap is_what_byte parts.1 ∙ pb.0)) (ap is_what_byte parts.2 ∙ pc.0))
    (ap is_what_byte parts.3 ∙ pd.0)

code_what : (word : List ℕ) (code : ℕ) → code_of word ≡ Some code → is_what code ≡ true
unfolding code_of
code_what word code e = by (is_code word) refl e
  where
    by : (b : Bool) → is_code word ≡ b → cond b (Some (from_be_bytes w32 word)) None ≡ Some code → is_what code ≡ true
    by true h k = let same : from_be_bytes w32 word ≡ code = (cc) in subst (λ (n : ℕ). is_what n ≡ true) same (code_is_what word h)
    by false h k = absurd ((cc))

free_code : (o : Option ℕ) (what : ℕ) (word : List ℕ) → code_of word ≡ o → what_said word ≡ Ok what → (is_what what ≡ true) × (is_reserved what ≡ false)
free_code None what word e h = let k = rw e at h in absurd ((cc))
free_code (Some code) what word e h = by (is_reserved_code code) refl (rw e at h)
  where
    by : (b : Bool) → is_reserved_code code ≡ b → cond b (Err Shape) (Ok code) ≡ Ok what → (is_what what ≡ true) × (is_reserved what ≡ false)
    by true r k = absurd ((cc))
    by false r k =
        let same : code ≡ what = (cc) in
        subst (λ (n : ℕ). (is_what n ≡ true) × (is_reserved n ≡ false)) same (code_what word code e, r)

pub what-keeps : (word : List ℕ) (what : ℕ) → what_said word ≡ Ok what → (is_what what ≡ true) × (is_reserved what ≡ false)
what-keeps word what h = free_code (code_of word) what word refl h

filter_word : (any : Bool) (word : List ℕ) (o : Option ℕ) (what : Option ℕ) → code_of word ≡ o → cond any (Ok None) (said_as Some (formed o)) ≡ Ok what → is_filter_word what ≡ true
filter_word true word o what e h = let same : None ≡ what = (cc) in subst (λ (w : Option ℕ). is_filter_word w ≡ true) same refl
filter_word false word None what e h = absurd ((cc))
filter_word false word (Some code) what e h = let same : Some code ≡ what = (cc) in subst (λ (w : Option ℕ). is_filter_word w ≡ true) same (code_what word code e)

pub filter_what-keeps : (word : List ℕ) (what : Option ℕ) → filter_what_said word ≡ Ok what → is_filter_word what ≡ true
filter_what-keeps word what h = filter_word (bytes_eq word (codes "*")) word (code_of word) what refl h
