-- A message is written piece by piece.
use Rattle.std.proofs.Common.{◌≡◌, ℕ, zero, suc, ◌+◌, ◌<◌, ◌≤◌, List, [], ◌∷◌, ◌++◌, length, get_or, drop, Result, OnOk, codes, refl, sym, ap, ◌∙◌, arith, append_assoc, append-nil}
use Rattle.std.proofs.lemmas.List.{drop_all, drop_more}
use Rattle.be_facts.proofs.Lists.{append_moved, append_three, on_ok_map}
use Rattle.be_flat.specs.Codes.{code_of}
use Rattle.be_lex.specs.Codes as lex
use Rattle.be_message.specs.declared.field.Field as declared
use Rattle.be_message.specs.declared.value.Value.{Value}
use Rattle.be_message.specs.Depths.{datum_depth, values_depth, fields_depth}
use Rattle.be_message.specs.Messages.{Datum, Field, Message, all_values, all_fields, packed}
use Rattle.be_message.specs.Views.{seen_value, seen_values, seen_field, seen_fields}
use Rattle.be_written.specs.MessageText.{datum_text, fields_text, values_text, more_text, message_text}

-- ---- values

pub value_inside : (vs : List Value) (i : ℕ) (v : Value) → i < length vs → v ≡ get_or vs i v
    → datum_depth (seen_value v) ≤ values_depth (all_values (seen_values vs))
value_inside [] i v lt is = absurd (omega arith)
value_inside (w ∷ vs) zero v lt is = omega (arith, ap (λ (x : Value). datum_depth (seen_value x)) is)
value_inside (w ∷ vs) (suc i) v lt is = omega (arith, value_inside vs i v (omega arith) is)

pub more_goes_on : (vs : List Value) (i : ℕ) (v : Value) (page one two : List ℕ) → i < length vs → v ≡ get_or vs i v
    → one ≡ page ++ codes "," → two ≡ one ++ datum_text (seen_value v)
    → two ++ more_text (all_values (seen_values (drop (i + 1) vs))) ≡ page ++ more_text (all_values (seen_values (drop i vs)))
unfolding more_text
more_goes_on vs i v page one two lt is first second =
    let text = datum_text (seen_value v) in
    let rest = more_text (all_values (seen_values (drop (i + 1) vs))) in
    ap (λ (t : List ℕ). t ++ rest) (second ∙ ap (λ (t : List ℕ). t ++ text) first)
    ∙ append_three page (codes ",") text rest
    ∙ ap (λ (left : List Value). page ++ more_text (all_values (seen_values left))) (sym (drop_more vs i v lt ∙ ap (λ (x : Value). x ∷ drop (i + 1) vs) (sym is)))

pub all_more : (vs : List Value) (i : ℕ) (page all : List ℕ) → page ++ more_text (all_values (seen_values (drop i vs))) ≡ all → length vs ≤ i → page ≡ all
unfolding more_text
all_more vs i page all is le =
    sym (append-nil page) ∙ ap (λ (left : List Value). page ++ more_text (all_values (seen_values left))) (sym (drop_all i vs le)) ∙ is

-- ---- fields

pub field_inside : (fs : List declared.Field) (i : ℕ) (f : declared.Field) → i < length fs → f ≡ get_or fs i f
    → values_depth (all_values (seen_field f).values) ≤ fields_depth (all_fields (seen_fields fs))
field_inside [] i f lt is = absurd (omega arith)
field_inside (g ∷ fs) zero f lt is = omega (arith, ap (λ (x : declared.Field). values_depth (all_values (seen_field x).values)) is)
field_inside (g ∷ fs) (suc i) f lt is = omega (arith, field_inside fs i f (omega arith) is)

row_of_field : (a b c d e f rest : List ℕ) → a ++ b ++ c ++ d ++ e ++ f ++ rest ≡ (a ++ b ++ c ++ d ++ e ++ f ++ []) ++ rest
row_of_field a b c d e f rest = simp (append_assoc, append-nil {A = ℕ})

one_field : (f : Field) (fs : List Field) → fields_text (all_fields (f ∷ fs)) ≡ fields_text (all_fields (f ∷ [])) ++ fields_text (all_fields fs)
unfolding fields_text
one_field f fs = row_of_field (codes " ") f.name (codes "=") (code_of f.kind) (codes ":") (values_text (all_values f.values)) (fields_text (all_fields fs))

pub fields_go_on : (fs : List declared.Field) (i : ℕ) (f : declared.Field) (page next : List ℕ) → i < length fs → f ≡ get_or fs i f
    → next ≡ page ++ fields_text (all_fields (seen_field f ∷ []))
    → next ++ fields_text (all_fields (seen_fields (drop (i + 1) fs))) ≡ page ++ fields_text (all_fields (seen_fields (drop i fs)))
fields_go_on fs i f page next lt is written =
    let text = fields_text (all_fields (seen_field f ∷ [])) in
    let rest = fields_text (all_fields (seen_fields (drop (i + 1) fs))) in
    ap (λ (t : List ℕ). t ++ rest) written ∙ append_assoc page text rest
    ∙ ap (λ (t : List ℕ). page ++ t) (sym (one_field (seen_field f) (seen_fields (drop (i + 1) fs))))
    ∙ ap (λ (left : List declared.Field). page ++ fields_text (all_fields (seen_fields left))) (sym (drop_more fs i f lt ∙ ap (λ (x : declared.Field). x ∷ drop (i + 1) fs) (sym is)))

pub all_fields_written : (fs : List declared.Field) (i : ℕ) (page all : List ℕ) → page ++ fields_text (all_fields (seen_fields (drop i fs))) ≡ all → length fs ≤ i → page ≡ all
unfolding fields_text
all_fields_written fs i page all is le =
    sym (append-nil page) ∙ ap (λ (left : List declared.Field). page ++ fields_text (all_fields (seen_fields left))) (sym (drop_all i fs le)) ∙ is

row_of_five : (start a b c d e f : List ℕ) → ((((start ++ (a ++ b)) ++ c) ++ d) ++ e) ++ f ≡ start ++ (a ++ b ++ c ++ d ++ e ++ f ++ [])
row_of_five start a b c d e f = simp (append_assoc, append-nil {A = ℕ})

-- a field's name, its type's letters and its values
pub field_written : {E : Type 0} (r : Result (Unit {0}) E) (f : Field) (name letters : List ℕ) (values : List Datum) (old one two three four new : List ℕ)
    → name ≡ f.name → letters ≡ code_of f.kind → values ≡ f.values
    → one ≡ old ++ 32 ∷ name → two ≡ one ++ codes "=" → three ≡ two ++ letters → four ≡ three ++ codes ":"
    → OnOk r (new ≡ four ++ values_text (all_values values)) → OnOk r (new ≡ old ++ fields_text (all_fields (f ∷ [])))
unfolding fields_text
field_written r f name letters values old one two three four new same_name same_letters same_values first second third fourth last =
    let before : four ≡ (((old ++ (codes " " ++ f.name)) ++ codes "=") ++ code_of f.kind) ++ codes ":" =
    rw (fourth, third, second, first, same_name, same_letters) refl in
    on_ok_map r (new ≡ four ++ values_text (all_values values)) (new ≡ old ++ fields_text (all_fields (f ∷ []))) last
    (λ end. end ∙ ap (λ (ds : List Datum). four ++ values_text (all_values ds)) same_values
    ∙ ap (λ (t : List ℕ). t ++ values_text (all_values f.values)) before
    ∙ row_of_five old (codes " ") f.name (codes "=") (code_of f.kind) (codes ":") (values_text (all_values f.values)))

-- ---- a message as a value

row_in_brackets : (start a b c d : List ℕ) → ((start ++ a) ++ (b ++ c)) ++ d ≡ start ++ (a ++ b ++ c ++ d)
row_in_brackets start a b c d = simp append_assoc

pub bracketed : {E : Type 0} (r : Result (Unit {0}) E) (v : Value) (m : Message) (old one two new : List ℕ) → seen_value v ≡ packed m
    → one ≡ old ++ codes "(" → two ≡ one ++ message_text m → OnOk r (new ≡ two ++ codes ")") → OnOk r (new ≡ old ++ datum_text (seen_value v))
unfolding datum_text
bracketed r v m old one two new is first second last =
    on_ok_map r (new ≡ two ++ codes ")") (new ≡ old ++ datum_text (seen_value v)) last
    (λ end. end ∙ ap (λ (t : List ℕ). t ++ codes ")") (second ∙ ap (λ (t : List ℕ). t ++ message_text m) first)
    ∙ row_in_brackets old (codes "(") (lex.code_text m.what) (fields_text (all_fields m.fields)) (codes ")")
    ∙ ap (λ (d : Datum). old ++ datum_text d) (sym is))

-- ---- a rectangle

pub edges_written : {E : Type 0} (r : Result (Unit {0}) E) (a b old one two new : List ℕ) → one ≡ old ++ a → two ≡ one ++ codes "/"
    → OnOk r (new ≡ two ++ b) → OnOk r (new ≡ old ++ ((a ++ codes "/") ++ b))
edges_written r a b old one two new first second last =
    on_ok_map r (new ≡ two ++ b) (new ≡ old ++ ((a ++ codes "/") ++ b)) last
    (λ end. end ∙ ap (λ (t : List ℕ). t ++ b) (second ∙ ap (λ (t : List ℕ). t ++ codes "/") first) ∙ append_moved old a (codes "/") b)
