-- How deep a message lies that a draft makes: one deeper than the current message at most.
use Rattle.std.proofs.Common.{◌≡◌, ℕ, ◌+◌, ◌≤◌, Bool, true, false, cond, max, List, [], ◌∷◌, ◌++◌, Option, Some, None, arith}
use Rattle.std.specs.Prelude.{◌&&◌, not, nat_le, fold, length, if◌then◌else◌}
use Rattle.std.specs.List.{list_all, list_any}
use Rattle.std.specs.Option.{option_to_list}
use Rattle.std.proofs.Math.Nat.{le-max_left, le-max_right, max-le}
use Rattle.be_facts.proofs.Truths.{and_first, and_second}
use Rattle.be_actor.specs.Drafts.{Word, value, current, copied, DraftWords, with_word, filled}
use Rattle.be_actor.specs.Limits.{is_reserved, is_what, is_spelt, is_word, all_go_together, is_draft}
use Rattle.be_message.specs.Depths.{datum_depth, fields_depth, values_depth, depth_of}
use Rattle.be_message.specs.Fields.{has_name, field_named, with_one_more, changed_at, new_field, with_value_in}
use Rattle.be_message.specs.Messages.{Datum, bool, int, text, point, rect, message, Field, Message, all_values, all_fields, packed}

abbrev in_values : List Datum → ℕ
in_values vs = values_depth (all_values vs)

abbrev in_fields : List Field → ℕ
in_fields fs = fields_depth (all_fields fs)

-- ---- fields

first_of : (a b n : ℕ) → max a b ≤ n → a ≤ n
first_of a b n h = omega (arith, h, le-max_left a b)

second_of : (a b n : ℕ) → max a b ≤ n → b ≤ n
second_of a b n h = omega (arith, h, le-max_right a b)

value_more : (n : ℕ) (vs : List Datum) (d : Datum) → in_values vs ≤ n → datum_depth d ≤ n → in_values (vs ++ d ∷ []) ≤ n
value_more n [] d h k = max-le k (omega arith)
value_more n (v ∷ vs) d h k = max-le (first_of (datum_depth v) (in_values vs) n h) (value_more n vs d (second_of (datum_depth v) (in_values vs) n h) k)

fields_more : (n : ℕ) (fs gs : List Field) → in_fields fs ≤ n → in_fields gs ≤ n → in_fields (fs ++ gs) ≤ n
fields_more n [] gs h k = k
fields_more n (f ∷ fs) gs h k = max-le (first_of (in_values f.values) (in_fields fs) n h) (fields_more n fs gs (second_of (in_values f.values) (in_fields fs) n h) k)

value_if : (n : ℕ) (b : Bool) (f g : Field) → in_values f.values ≤ n → in_values g.values ≤ n → in_values (if b then f else g).values ≤ n
value_if n true f g h k = h
value_if n false f g h k = k

changed_fields : (n : ℕ) (name : List ℕ) (d : Datum) (fs : List Field) → in_fields fs ≤ n → datum_depth d ≤ n → in_fields (changed_at name (with_one_more d) fs) ≤ n
changed_fields n name d [] h k = h
changed_fields n name d (f ∷ fs) h k =
    let one : in_values f.values ≤ n = first_of (in_values f.values) (in_fields fs) n h in
    max-le (value_if n (has_name name f) (with_one_more d f) f (value_more n f.values d one k) one) (changed_fields n name d fs (second_of (in_values f.values) (in_fields fs) n h) k)

fields_if : (n : ℕ) (b : Bool) (fs gs : List Field) → in_fields fs ≤ n → in_fields gs ≤ n → in_fields (if b then fs else gs) ≤ n
fields_if n true fs gs h k = h
fields_if n false fs gs h k = k

with_value_fields : (n : ℕ) (name : List ℕ) (d : Datum) (fs : List Field) → in_fields fs ≤ n → datum_depth d ≤ n → in_fields (with_value_in fs name d) ≤ n
with_value_fields n name d fs h k =
    fields_if n (list_any (has_name name) fs) (changed_at name (with_one_more d) fs) (fs ++ new_field name d ∷ []) (changed_fields n name d fs h k)
    (fields_more n fs (new_field name d ∷ []) h (max-le (max-le k (omega arith)) (omega arith)))

found_if : (n : ℕ) (b : Bool) (f : Field) (rest : Option Field) → in_values f.values ≤ n → in_fields (option_to_list rest) ≤ n → in_fields (option_to_list (cond b (Some f) rest)) ≤ n
found_if n true f rest h k = max-le h (omega arith)
found_if n false f rest h k = k

found_field : (n : ℕ) (name : List ℕ) (fs : List Field) → in_fields fs ≤ n → in_fields (option_to_list (field_named name fs)) ≤ n
found_field n name [] h = h
found_field n name (f ∷ fs) h = found_if n (has_name name f) f (field_named name fs) (first_of (in_values f.values) (in_fields fs) n h) (found_field n name fs (second_of (in_values f.values) (in_fields fs) n h))

-- ---- words

spelt_flat : (n : ℕ) (d : Datum) → is_spelt d ≡ true → datum_depth d ≤ n
spelt_flat n (bool b) e = omega arith
spelt_flat n (int z) e = omega arith
spelt_flat n (text t) e = omega arith
spelt_flat n (point p) e = omega arith
spelt_flat n (rect r) e = omega arith
spelt_flat n (message what fs) e = cc

-- the current message lies so deep at most, if there is one
abbrev pub IsWithin : ℕ → Option Message → Type 0
IsWithin n (Some m) = depth_of m ≤ n
IsWithin n None = Unit {0}

word_fields : (n : ℕ) (has : Bool) (now : Option Message) (m : Message) (w : Word) → is_word has w ≡ true → IsWithin n now → in_fields m.fields ≤ n → in_fields (with_word now m w).fields ≤ n
word_fields n has now m (value name d) fits deep h = with_value_fields n name d m.fields h (spelt_flat n d (and_second _ (is_spelt d) fits))
word_fields n has (Some x) m (current name) fits deep h = with_value_fields n name (packed x) m.fields h deep
word_fields n has None m (current name) fits deep h = h
word_fields n has (Some x) m (copied name) fits deep h = fields_more n m.fields (option_to_list (field_named name x.fields)) h (found_field n name x.fields (omega (arith, deep)))
word_fields n has None m (copied name) fits deep h = h

all_words : (n : ℕ) (has : Bool) (now : Option Message) (m : Message) (ws : List Word) → list_all (is_word has) ws ≡ true → IsWithin n now → in_fields m.fields ≤ n → in_fields (fold (with_word now) m ws).fields ≤ n
all_words n has now m [] fits deep h = h
all_words n has now m (w ∷ ws) fits deep h = all_words n has now (with_word now m w) ws (and_second (is_word has w) _ fits) deep (word_fields n has now m w (and_first (is_word has w) _ fits) deep h)

pub draft_words : (has : Bool) (draft : DraftWords) → is_draft has draft ≡ true → list_all (is_word has) draft.words ≡ true
unfolding is_draft
draft_words has draft e =
    and_second (is_what draft.what && not (is_reserved draft.what) && nat_le (length draft.words) 255) (list_all (is_word has) draft.words)
    (and_first (is_what draft.what && not (is_reserved draft.what) && nat_le (length draft.words) 255 && list_all (is_word has) draft.words) (all_go_together draft.words) e)

pub filled_depth : (n : ℕ) (has : Bool) (now : Option Message) (draft : DraftWords) → is_draft has draft ≡ true → IsWithin n now → depth_of (filled draft now) ≤ n + 1
unfolding filled
filled_depth n has now draft e deep =
    let all : in_fields (fold (with_word now) (record { what = draft.what; fields = [] }) draft.words).fields ≤ n = all_words n has now (record { what = draft.what; fields = [] }) draft.words (draft_words has draft e) deep (omega arith) in
    omega (arith, all)
