-- The words of a draft that are read keep their limits.
use Rattle.std.proofs.Common.{◌≡◌, ℕ, zero, suc, ◌+◌, ◌==◌, take, drop, Bool, true, false, not, ◌&&◌, codes, cond, List, [], ◌∷◌, length, map, Option, Some, None, option_map, Ok, Err, refl, ap, sym, ◌∙◌, subst, arith}
use Rattle.std.specs.Prelude.{nat_le}
use Rattle.std.specs.List.{after_first, before_first, list_all, list_any, position_or_len}
use Rattle.std.specs.Option.{option_and_then}
use Rattle.std.specs.Str.{bytes_eq}
use Rattle.std.proofs.lemmas.Bool.Decides.{nat_tests}
use Rattle.std.proofs.lemmas.Bool.{and_from, not_from_false}
use Rattle.be_facts.proofs.Truths.{and_first, and_second}
use Rattle.be_facts.proofs.Lists.{all_weaker}
use Rattle.be_actor.specs.Drafts.{DraftWords, Word, value, current, copied}
use Rattle.be_actor.specs.Limits.{all_go_together, is_draft, is_reserved, is_spelt, is_what, is_word}
use Rattle.be_command.specs.declared.fault.Reason.TheVariants.{Range, Shape}
use Rattle.be_lex.specs.Names.{is_field_name, is_name_within}
use Rattle.be_lex.specs.Numbers.{is_number, number_of}
use Rattle.be_lex.specs.Words.{cut_at}
use Rattle.be_line.specs.Fields.{all_there, copied_word, datum_of, field_of, fields_said, int_in, is_in_range, named_word, numbers_in, of_numbers, point_in, ranged, rect_in, text_in, together, truth_in, with_name}
use Rattle.be_message.specs.Fields.{is_allowed}
use Rattle.be_message.specs.Messages.{Datum, bool, int, text, point, rect}
use Rattle.be_message.specs.Names.{is_name, is_text}
use Rattle.be_reader.proofs.WordFits.{is_shown, is_shown_word}

-- ---- parts of a word

pub all-drop : (p : ℕ → Bool) (n : ℕ) (bytes : List ℕ) → list_all p bytes ≡ true → list_all p (drop n bytes) ≡ true
all-drop p zero bytes h = h
all-drop p (suc n) [] h = h
all-drop p (suc n) (b ∷ bytes) h = all-drop p n bytes (and_second (p b) (list_all p bytes) h)

field_name : (name : List ℕ) → is_field_name name ≡ true → is_name name ≡ true
unfolding is_name_within is_name
field_name [] h = h
field_name (b ∷ bytes) h = h

-- ---- values

truth : (a b : Bool) (d : Datum) → cond a (Some (bool true)) (cond b (Some (bool false)) None) ≡ Some d → is_spelt d ≡ true
truth true b d e = let same : bool true ≡ d = (cc) in subst (λ (x : Datum). is_spelt x ≡ true) same refl
truth false true d e = let same : bool false ≡ d = (cc) in subst (λ (x : Datum). is_spelt x ≡ true) same refl
truth false false d e = absurd ((cc))

an_int : (a : Bool) (bytes : List ℕ) (d : Datum) → cond a (Some (int (number_of bytes))) None ≡ Some d → is_spelt d ≡ true
an_int true bytes d e = let same : int (number_of bytes) ≡ d = (cc) in subst (λ (x : Datum). is_spelt x ≡ true) same refl
an_int false bytes d e = absurd ((cc))

text_byte : (b : ℕ) → is_shown b ≡ true → (nat_le 32 b && nat_le b 126) ≡ true
text_byte b h = grind (arith, nat_tests)

first_byte : (b : ℕ) → is_shown b ≡ true → nat_le 33 b ≡ true
first_byte b h = and_first (nat_le 33 b) (nat_le b 126) h

a_text : (a : Bool) (bytes : List ℕ) (d : Datum) → nat_le (length bytes) 1024 ≡ a → list_all is_shown bytes ≡ true → cond a (Some (text bytes)) None ≡ Some d → is_spelt d ≡ true
unfolding is_text
a_text true bytes d short h e =
    let same : text bytes ≡ d = (cc) in
    let allowed : is_allowed (text bytes) ≡ true =
    and_from (list_all (λ b. nat_le 32 b && nat_le b 126) bytes) (nat_le (length bytes) 1024) (all_weaker is_shown (λ b. nat_le 32 b && nat_le b 126) text_byte bytes h) short in
    subst (λ (x : Datum). is_spelt x ≡ true) same
    (and_from (is_allowed (text bytes)) (list_all (λ b. nat_le 33 b) bytes) allowed (all_weaker is_shown (λ b. nat_le 33 b) first_byte bytes h))
a_text false bytes d short h e = absurd ((cc))

a_point : (numbers : List (List ℕ)) (d : Datum) → point_in numbers ≡ Some d → is_spelt d ≡ true
a_point [] d e = absurd ((cc))
a_point (x ∷ []) d e = absurd ((cc))
a_point (x ∷ y ∷ []) d e = let same : point (record { x = number_of x; y = number_of y }) ≡ d = (cc) in subst (λ (x : Datum). is_spelt x ≡ true) same refl
a_point (x ∷ y ∷ z ∷ more) d e = absurd ((cc))

a_rect : (numbers : List (List ℕ)) (d : Datum) → rect_in numbers ≡ Some d → is_spelt d ≡ true
a_rect [] d e = absurd ((cc))
a_rect (l ∷ []) d e = absurd ((cc))
a_rect (l ∷ t ∷ []) d e = absurd ((cc))
a_rect (l ∷ t ∷ r ∷ []) d e = absurd ((cc))
a_rect (l ∷ t ∷ r ∷ b ∷ []) d e =
    let same : rect (record { left = number_of l; top = number_of t; right = number_of r; bottom = number_of b }) ≡ d = (cc) in
    subst (λ (x : Datum). is_spelt x ≡ true) same refl
a_rect (l ∷ t ∷ r ∷ b ∷ c ∷ more) d e = absurd ((cc))

by_numbers : (a : Bool) (read : List (List ℕ) → Option Datum) (numbers : List (List ℕ)) (d : Datum) → ((d : Datum) → read numbers ≡ Some d → is_spelt d ≡ true) →
    cond a (read numbers) None ≡ Some d → is_spelt d ≡ true
by_numbers true read numbers d each e = each d e
by_numbers false read numbers d each e = absurd ((cc))

by_letter : (b i s p r : Bool) (bytes : List ℕ) (d : Datum) → list_all is_shown bytes ≡ true →
    cond b (truth_in bytes) (cond i (int_in bytes) (cond s (text_in bytes) (cond p (of_numbers point_in bytes) (cond r (of_numbers rect_in bytes) None)))) ≡ Some d → is_spelt d ≡ true
by_letter true i s p r bytes d h e = truth (bytes_eq bytes (codes "true")) (bytes_eq bytes (codes "false")) d e
by_letter false true s p r bytes d h e = an_int (is_number bytes) bytes d e
by_letter false false true p r bytes d h e = a_text (nat_le (length bytes) 1024) bytes d refl h e
by_letter false false false true r bytes d h e = by_numbers (list_all is_number (numbers_in bytes)) point_in (numbers_in bytes) d (a_point (numbers_in bytes)) e
by_letter false false false false true bytes d h e = by_numbers (list_all is_number (numbers_in bytes)) rect_in (numbers_in bytes) d (a_rect (numbers_in bytes)) e
by_letter false false false false false bytes d h e = absurd ((cc))

datum_keeps : (bytes : List ℕ) (d : Datum) → list_all is_shown bytes ≡ true → datum_of bytes ≡ Some d → is_spelt d ≡ true
datum_keeps bytes d h e =
    by_letter (bytes_eq (take 2 bytes) (codes "b:")) (bytes_eq (take 2 bytes) (codes "i:")) (bytes_eq (take 2 bytes) (codes "s:")) (bytes_eq (take 2 bytes) (codes "p:")) (bytes_eq (take 2 bytes) (codes "r:"))
    (drop 2 bytes) d (all-drop is_shown 2 bytes h) e

-- ---- a word

valued : (has : Bool) (name : List ℕ) (o : Option Datum) (w : Word) → is_name name ≡ true → ((d : Datum) → o ≡ Some d → is_spelt d ≡ true) → option_map (value name) o ≡ Some w → is_word has w ≡ true
valued has name None w n each e = absurd ((cc))
valued has name (Some d) w n each e =
    let same : value name d ≡ w = (cc) in
    subst (λ (x : Word). is_word has x ≡ true) same (and_from (is_name name) (is_spelt d) n (each d refl))

named_keeps : (has is_current : Bool) (name bytes : List ℕ) (w : Word) → is_name name ≡ true → list_all is_shown bytes ≡ true →
    cond is_current (cond has (Some (current name)) None) (option_map (value name) (datum_of bytes)) ≡ Some w → is_word has w ≡ true
named_keeps true true name bytes w n h e = let same : current name ≡ w = (cc) in subst (λ (x : Word). is_word true x ≡ true) same n
named_keeps false true name bytes w n h e = absurd ((cc))
named_keeps has false name bytes w n h e = valued has name (datum_of bytes) w n (λ d. datum_keeps bytes d h) e

with_name_keeps : (has formed : Bool) (name bytes : List ℕ) (w : Word) → is_field_name name ≡ formed → list_all is_shown bytes ≡ true →
    cond formed (named_word has name bytes) None ≡ Some w → is_word has w ≡ true
with_name_keeps has true name bytes w f h e = named_keeps has (bytes_eq bytes (codes "cur")) name bytes w (field_name name f) h e
with_name_keeps has false name bytes w f h e = absurd ((cc))

copied_keeps : (has formed : Bool) (name : List ℕ) (w : Word) → is_field_name name ≡ formed → cond (has && formed) (Some (copied name)) None ≡ Some w → is_word has w ≡ true
copied_keeps true true name w f e = let same : copied name ≡ w = (cc) in subst (λ (x : Word). is_word true x ≡ true) same (field_name name f)
copied_keeps true false name w f e = absurd ((cc))
copied_keeps false formed name w f e = absurd ((cc))

cut_keeps : (has found : Bool) (before behind : List ℕ) (w : Word) → list_all is_shown behind ≡ true →
    option_and_then (with_name has) (cond found (Some (before, behind)) None) ≡ Some w → is_word has w ≡ true
cut_keeps has true before behind w h e = with_name_keeps has (is_field_name before) before behind w refl h e
cut_keeps has false before behind w h e = absurd ((cc))

by_copy : (has copy : Bool) (word : List ℕ) (w : Word) → list_all is_shown word ≡ true →
    cond copy (copied_word has (drop 5 word)) (option_and_then (with_name has) (cut_at 61 word)) ≡ Some w → is_word has w ≡ true
by_copy has true word w h e = copied_keeps has (is_field_name (drop 5 word)) (drop 5 word) w refl e
by_copy has false word w h e =
    cut_keeps has (list_any (λ b. b == 61) word) (before_first (λ b. b == 61) word) (after_first (λ b. b == 61) word) w
    (all-drop is_shown (position_or_len (λ b. b == 61) word + 1) word h) e

field_keeps : (has : Bool) (word : List ℕ) (w : Word) → is_shown_word word ≡ true → field_of has word ≡ Some w → is_word has w ≡ true
unfolding field_of
field_keeps has word w h e = by_copy has (bytes_eq (take 5 word) (codes "copy:")) word w (and_second (nat_le 1 (length word)) (list_all is_shown word) h) e

-- ---- all of them

joined : (has : Bool) (first : Option Word) (rest : Option (List Word)) (ws : List Word) → ((w : Word) → first ≡ Some w → is_word has w ≡ true) →
    ((more : List Word) → rest ≡ Some more → list_all (is_word has) more ≡ true) → (e : option_and_then (λ w. option_map (λ xs. w ∷ xs) rest) first ≡ Some ws) → list_all (is_word has) ws ≡ true
joined has None rest ws one all e = absurd ((cc))
joined has (Some w) None ws one all e = absurd ((cc))
joined has (Some w) (Some more) ws one all e =
    let same : w ∷ more ≡ ws = (cc) in
    subst (λ (l : List Word). list_all (is_word has) l ≡ true) same (and_from (is_word has w) (list_all (is_word has) more) (one w refl) (all more refl))

there_is : (first : Option Word) (more : List (Option Word)) → all_there (first ∷ more) ≡ option_and_then (λ w. option_map (λ xs. w ∷ xs) (all_there more)) first
there_is None more = refl
there_is (Some w) more = refl

all_keep : (has : Bool) (words : List (List ℕ)) (ws : List Word) → list_all is_shown_word words ≡ true → all_there (map (field_of has) words) ≡ Some ws → list_all (is_word has) ws ≡ true
all_keep has [] ws h e = let same : [] ≡ ws = (cc) in subst (λ (l : List Word). list_all (is_word has) l ≡ true) same refl
all_keep has (word ∷ words) ws h e =
    joined has (field_of has word) (all_there (map (field_of has) words)) ws
    (λ w. field_keeps has word w (and_first (is_shown_word word) (list_all is_shown_word words) h))
    (λ more. all_keep has words more (and_second (is_shown_word word) (list_all is_shown_word words) h))
    (sym (there_is (field_of has word) (map (field_of has) words)) ∙ e)

in_ranges : (b : Bool) (ws out : List Word) → cond b (Ok ws) (Err Range) ≡ Ok out → ws ≡ out
in_ranges true ws out e = (cc)
in_ranges false ws out e = absurd ((cc))

go_with : (b : Bool) (ws out : List Word) → all_go_together ws ≡ b → cond b (ranged ws) (Err Shape) ≡ Ok out → (all_go_together ws ≡ true) × (ws ≡ out)
go_with true ws out h e = (h, in_ranges (list_all is_in_range ws) ws out e)
go_with false ws out h e = absurd ((cc))

together_is : (o : Option (List Word)) (out : List Word) → together o ≡ Ok out → (o ≡ Some out) × (all_go_together out ≡ true)
together_is None out e = absurd ((cc))
together_is (Some ws) out e =
    let parts = go_with (all_go_together ws) ws out refl e in
    (ap Some parts.1, subst (λ (l : List Word). all_go_together l ≡ true) parts.1 parts.0)

fields_keep : (has : Bool) (words : List (List ℕ)) (out : List Word) → list_all is_shown_word words ≡ true → fields_said has words ≡ Ok out →
    (list_all (is_word has) out ≡ true) × (all_go_together out ≡ true)
unfolding fields_said
fields_keep has words out h e =
    let parts = together_is (all_there (map (field_of has) words)) out e in
    (all_keep has words out h parts.0, parts.1)

-- a draft that is not too long
pub draft-keeps : (has : Bool) (words : List (List ℕ)) (draft : DraftWords) → list_all is_shown_word words ≡ true → fields_said has words ≡ Ok draft.words →
    is_what draft.what ≡ true → is_reserved draft.what ≡ false → nat_le (length draft.words) 255 ≡ true → is_draft has draft ≡ true
unfolding is_draft
draft-keeps has words draft h e what free short =
    let f = fields_keep has words draft.words h e in
    let a = is_what draft.what in
    let b = not (is_reserved draft.what) in
    let c = nat_le (length draft.words) 255 in
    let g = list_all (is_word has) draft.words in
    and_from (((a && b) && c) && g) (all_go_together draft.words)
    (and_from ((a && b) && c) g (and_from (a && b) c (and_from a b what (not_from_false (is_reserved draft.what) free)) short) f.0) f.1
