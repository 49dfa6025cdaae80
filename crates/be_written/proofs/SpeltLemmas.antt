-- A message is written from the bytes that spell it, piece by piece.
use Rattle.std.proofs.Common.{◌≡◌, ℕ, suc, List, [], ◌∷◌, ◌++◌, length, Bool, true, false, Result, Ok, Err, codes, refl, sym, ap, ◌∙◌, arith, append_assoc, append-nil}
use Rattle.std.specs.Prelude.{◌==◌, if◌then◌else◌, IfOk}
use Rattle.be_facts.proofs.Lists.{append_three}
use Rattle.be_flat.specs.Codes.{code_of}
use Rattle.be_geom.specs.declared.rect.Rect.{Rect}
use Rattle.be_lex.specs.Codes as lex
use Rattle.be_message.specs.declared.kind.Kind.{Kind}
use Rattle.be_message.specs.declared.kind.Kind.TheVariants as kinds
use Rattle.be_message.specs.Messages.{Datum, message, rect, Fields, no_fields, field, Values, no_values, value}
use Rattle.be_message.specs.Sound.{value_count}
use Rattle.be_written.specs.MessageText.{bool_text, stroked, datum_text, fields_text, values_text, more_text}
use Rattle.be_written.specs.Spelt.{Leaves, StartsDatum, StartsField, StartsFields, StartsValues}

-- ---- fields

-- so many fields are left, and with their text the page is whole
pub record FieldsLeft (rest : List ℕ) (levels count : ℕ) (behind page all : List ℕ) : Type 0 where
  pub fields : Fields
  pub starts : StartsFields rest levels count fields behind
  pub text : page ++ fields_text fields ≡ all

row_of_parts : (front code name a b behind : List ℕ) (l c : ℕ) → front ≡ code ++ l ∷ name ++ c ∷ a ++ b → front ++ behind ≡ code ++ (l ∷ (name ++ (c ∷ (a ++ (b ++ behind)))))
row_of_parts front code name a b behind l c e = ap (λ (t : List ℕ). t ++ behind) e ∙ simp append_assoc

row_of_field : (a b c d e f rest : List ℕ) → a ++ b ++ c ++ d ++ e ++ f ++ rest ≡ (a ++ b ++ c ++ d ++ e ++ f ++ []) ++ rest
row_of_field a b c d e f rest = simp (append_assoc, append-nil {A = ℕ})

first_field : (name : List ℕ) (kind : Kind) (vs : Values) (fs : Fields) → fields_text (field name kind vs fs) ≡ fields_text (field name kind vs no_fields) ++ fields_text fs
unfolding fields_text
first_field name kind vs fs = row_of_field (codes " ") name (codes "=") (code_of kind) (codes ":") (values_text vs) (fields_text fs)

pub field_gone : (fs : Fields) (rest next : List ℕ) (levels left more : ℕ) (behind page new all : List ℕ) → StartsFields rest levels left fs behind → page ++ fields_text fs ≡ all → left ≡ suc more
    → ((name : List ℕ) (kind : Kind) (vs : Values) (after : List ℕ) → StartsField rest levels name kind vs after → Leaves page (fields_text (field name kind vs no_fields)) after new next)
    → FieldsLeft next levels more behind new all
field_gone no_fields rest next levels left more behind page new all starts text some written = absurd (omega (arith, starts.many))
field_gone (field name kind vs fs) rest next levels left more behind page new all starts text some written =
    let (named, fresh, filled, few, a, b, parts, values, fields) = starts.spells in
    let line = fields_text (field name kind vs no_fields) in
    let whole : rest ≡ code_of kind ++ (length name ∷ (name ++ (value_count vs ∷ (a ++ (b ++ behind))))) =
    starts.parts ∙ row_of_parts starts.front (code_of kind) name a b behind (length name) (value_count vs) parts in
    let leaves = written name kind vs (b ++ behind) (record { values = a; parts = whole; spells = values; deep = omega (arith, starts.deep) }) in
    record {
      fields = fs;
      starts = record { front = b; parts = leaves.1; spells = fields; many = omega (arith, starts.many); deep = omega (arith, starts.deep) };
      text = ap (λ (t : List ℕ). t ++ fields_text fs) leaves.0 ∙ append_assoc page line (fields_text fs)
          ∙ ap (λ (t : List ℕ). page ++ t) (sym (first_field name kind vs fs)) ∙ text;
    }

pub no_field_left : (fs : Fields) (rest : List ℕ) (levels left : ℕ) (behind page all : List ℕ) → StartsFields rest levels left fs behind → page ++ fields_text fs ≡ all → left ≡ 0 → (page ≡ all) × (rest ≡ behind)
unfolding fields_text
no_field_left no_fields rest levels left behind page all starts text none = (sym (append-nil page) ∙ text, starts.parts ∙ ap (λ (t : List ℕ). t ++ behind) starts.spells)
no_field_left (field name kind vs fs) rest levels left behind page all starts text none = absurd (omega (arith, starts.many))

-- ---- values

pub record ValuesLeft (rest : List ℕ) (levels : ℕ) (kind : Kind) (count : ℕ) (behind page all : List ℕ) : Type 0 where
  pub values : Values
  pub starts : StartsValues rest levels kind count values behind
  pub text : page ++ more_text values ≡ all

pub value_gone : (vs : Values) (rest next : List ℕ) (levels : ℕ) (kind : Kind) (left more : ℕ) (behind page comma new all : List ℕ) → StartsValues rest levels kind left vs behind → page ++ more_text vs ≡ all
    → left ≡ suc more → comma ≡ page ++ codes ","
    → ((d : Datum) (after : List ℕ) → StartsDatum rest levels kind d after → Leaves comma (datum_text d) after new next)
    → ValuesLeft next levels kind more behind new all
unfolding more_text
value_gone no_values rest next levels kind left more behind page comma new all starts text some parted written = absurd (omega (arith, starts.many))
value_gone (value d vs) rest next levels kind left more behind page comma new all starts text some parted written =
    let (same, a, b, parts, datum, values) = starts.spells in
    let whole : rest ≡ a ++ (b ++ behind) = starts.parts ∙ ap (λ (t : List ℕ). t ++ behind) parts ∙ append_assoc a b behind in
    let leaves = written d (b ++ behind) (record { front = a; parts = whole; spells = datum; same = same; deep = omega (arith, starts.deep) }) in
    record {
      values = vs;
      starts = record { front = b; parts = leaves.1; spells = values; many = omega (arith, starts.many); deep = omega (arith, starts.deep) };
      text = ap (λ (t : List ℕ). t ++ more_text vs) (leaves.0 ∙ ap (λ (t : List ℕ). t ++ datum_text d) parted) ∙ append_three page (codes ",") (datum_text d) (more_text vs) ∙ text;
    }

pub no_value_left : (vs : Values) (rest : List ℕ) (levels : ℕ) (kind : Kind) (left : ℕ) (behind page all : List ℕ) → StartsValues rest levels kind left vs behind → page ++ more_text vs ≡ all → left ≡ 0 → (page ≡ all) × (rest ≡ behind)
unfolding more_text
no_value_left no_values rest levels kind left behind page all starts text none = (sym (append-nil page) ∙ text, starts.parts ∙ ap (λ (t : List ℕ). t ++ behind) starts.spells)
no_value_left (value d vs) rest levels kind left behind page all starts text none = absurd (omega (arith, starts.many))

-- ---- pieces of text

pub told_on : {T E : Type 0} (r : Result T E) (P Q : T → Type 0) → IfOk r P → ((x : T) → P x → Q x) → IfOk r Q
told_on (Ok x) P Q is on = on x is
told_on (Err e) P Q is on = tt

pub length_code : (kind : Kind) → length (code_of kind) ≡ 4
length_code kinds.Bool = refl
length_code kinds.Int = refl
length_code kinds.Text = refl
length_code kinds.Point = refl
length_code kinds.Rect = refl
length_code kinds.Message = refl

pub told_bool : (b : Bool) (n : ℕ) → n ≡ (if b then 1 else 0) → bool_text (n == 1) ≡ bool_text b
told_bool true n e = ap (λ (k : ℕ). bool_text (k == 1)) e
told_bool false n e = ap (λ (k : ℕ). bool_text (k == 1)) e

row_of_field_text : (page a b c d e f : List ℕ) → ((((page ++ (a ++ b)) ++ c) ++ d) ++ e) ++ f ≡ page ++ (a ++ b ++ c ++ d ++ e ++ f ++ [])
row_of_field_text page a b c d e f = simp (append_assoc, append-nil {A = ℕ})

pub told_field : (name : List ℕ) (kind : Kind) (vs : Values) (named letters page one two three four new : List ℕ) → named ≡ name → letters ≡ code_of kind
    → one ≡ page ++ 32 ∷ named → two ≡ one ++ codes "=" → three ≡ two ++ letters → four ≡ three ++ codes ":" → new ≡ four ++ values_text vs
    → new ≡ page ++ fields_text (field name kind vs no_fields)
unfolding fields_text
told_field name kind vs named letters page one two three four new same_name same_letters first second third fourth last =
    let before : four ≡ (((page ++ (codes " " ++ name)) ++ codes "=") ++ code_of kind) ++ codes ":" = rw (fourth, third, second, first, same_name, same_letters) refl in
    last ∙ ap (λ (t : List ℕ). t ++ values_text vs) before ∙ row_of_field_text page (codes " ") name (codes "=") (code_of kind) (codes ":") (values_text vs)

row_of_inner : (page a b c d : List ℕ) → (((page ++ a) ++ b) ++ c) ++ d ≡ page ++ (a ++ b ++ c ++ d)
row_of_inner page a b c d = simp append_assoc

pub told_inner : (what : ℕ) (fs : Fields) (word : ℕ) (page one two three new : List ℕ) → word ≡ what → one ≡ page ++ codes "(" → two ≡ one ++ lex.code_text word → three ≡ two ++ fields_text fs → new ≡ three ++ codes ")"
    → new ≡ page ++ datum_text (message what fs)
unfolding datum_text
told_inner what fs word page one two three new same first second third last =
    let before : three ≡ ((page ++ codes "(") ++ lex.code_text what) ++ fields_text fs = rw (third, second, first, same) refl in
    last ∙ ap (λ (t : List ℕ). t ++ codes ")") before ∙ row_of_inner page (codes "(") (lex.code_text what) (fields_text fs) (codes ")")

row_of_rect : (page a b c : List ℕ) → ((page ++ a) ++ b) ++ c ≡ page ++ (a ++ b ++ c)
row_of_rect page a b c = simp append_assoc

pub told_rect : (r : Rect) (page one two new : List ℕ) → one ≡ page ++ stroked r.left r.top → two ≡ one ++ codes "/" → new ≡ two ++ stroked r.right r.bottom → new ≡ page ++ datum_text (rect r)
unfolding datum_text
told_rect r page one two new first second last =
    let left = stroked r.left r.top in
    let right = stroked r.right r.bottom in
    last ∙ ap (λ (t : List ℕ). t ++ right) (second ∙ ap (λ (t : List ℕ). t ++ codes "/") first) ∙ row_of_rect page left (codes "/") right

pub told_values : (d : Datum) (vs : Values) (page one new : List ℕ) → one ≡ page ++ datum_text d → new ≡ one ++ more_text vs → new ≡ page ++ values_text (value d vs)
unfolding values_text
told_values d vs page one new first last = last ∙ ap (λ (t : List ℕ). t ++ more_text vs) first ∙ append_assoc page (datum_text d) (more_text vs)
