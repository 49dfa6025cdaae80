-- A value written as a list of tokens that gives it back, by which two values are told apart (this
-- project's own).
use Rattle.std.specs.Prelude.{◌≡◌, refl, ◌⊎◌, ◌==◌, if◌then◌else◌, ℕ, ℤ, Bool, List, [], ◌∷◌}
use Rattle.std.proofs.Common.{inl, inr}
use Rattle.std.specs.Coded.{Coded, code_by, coded×, coded⊎, coded_list, coded_ℕ, coded_ℤ}
use Rattle.std.specs.Coded.{coded_bool}
use Rattle.be_geom.specs.declared.point.Point.{Point}
use Rattle.be_geom.specs.declared.rect.Rect.{Rect}
use Rattle.be_message.specs.declared.kind.Kind.{Kind}
use Rattle.be_message.specs.declared.kind.Kind.TheVariants as kind
use Rattle.be_message.specs.Kinds.{kind_number}
use Rattle.be_message.specs.Messages.{Datum, bool, int, text, point, rect, message, Fields}
use Rattle.be_message.specs.Messages.{no_fields, field, Values, no_values, value, Field, Message}

-- the parts of a value in the order in which a pile builds it
pub data Token : Type 0 where
  a_bool : Bool → Token
  an_int : ℤ → Token
  a_text : List ℕ → Token
  a_point : Point → Token
  a_rect : Rect → Token
  a_message : ℕ → Token
  the_end_of_values : Token
  a_value : Token
  the_end_of_fields : Token
  a_field : List ℕ → Kind → Token

-- what is built so far, the newest first
pub record Pile : Type 0 where
  pub data_built : List Datum
  pub values_built : List Values
  pub fields_built : List Fields

abbrev with_datum : Datum → Pile → Pile
with_datum d p = record p { data_built = d ∷ p.data_built }

abbrev with_message : ℕ → List Fields → Pile → Pile
with_message w [] p = p
with_message w (fs ∷ more) p =
    record p { data_built = message w fs ∷ p.data_built; fields_built = more }

abbrev with_value : List Datum → List Values → Pile → Pile
with_value (d ∷ ds) (vs ∷ more) p = record p { data_built = ds; values_built = value d vs ∷ more }
with_value [] vs p = p
with_value (d ∷ ds) [] p = p

abbrev with_field : List ℕ → Kind → List Values → List Fields → Pile → Pile
with_field name kind (vs ∷ values) (fs ∷ more) p =
    record p { values_built = values; fields_built = field name kind vs fs ∷ more }
with_field name kind [] fs p = p
with_field name kind (vs ∷ values) [] p = p

abbrev built : Token → Pile → Pile
built (a_bool b) p = with_datum (bool b) p
built (an_int z) p = with_datum (int z) p
built (a_text t) p = with_datum (text t) p
built (a_point q) p = with_datum (point q) p
built (a_rect r) p = with_datum (rect r) p
built (a_message w) p = with_message w p.fields_built p
built the_end_of_values p = record p { values_built = no_values ∷ p.values_built }
built a_value p = with_value p.data_built p.values_built p
built the_end_of_fields p = record p { fields_built = no_fields ∷ p.fields_built }
built (a_field name kind) p = with_field name kind p.values_built p.fields_built p

abbrev all_built : List Token → Pile → Pile
all_built [] p = p
all_built (t ∷ ts) p = all_built ts (built t p)

-- the tokens of a value, and others after them
abbrev mutual
  datum_tokens : Datum → List Token → List Token
  datum_tokens (bool b) rest = a_bool b ∷ rest
  datum_tokens (int z) rest = an_int z ∷ rest
  datum_tokens (text t) rest = a_text t ∷ rest
  datum_tokens (point p) rest = a_point p ∷ rest
  datum_tokens (rect r) rest = a_rect r ∷ rest
  datum_tokens (message w fs) rest = fields_tokens fs (a_message w ∷ rest)

  fields_tokens : Fields → List Token → List Token
  fields_tokens no_fields rest = the_end_of_fields ∷ rest
  fields_tokens (field name kind vs fs) rest =
      values_tokens vs (fields_tokens fs (a_field name kind ∷ rest))

  values_tokens : Values → List Token → List Token
  values_tokens no_values rest = the_end_of_values ∷ rest
  values_tokens (value d vs) rest = values_tokens vs (datum_tokens d (a_value ∷ rest))

mutual
  pub datum_again : (d : Datum) (rest : List Token) (p : Pile)
      → all_built (datum_tokens d rest) p
      ≡ all_built rest (record p { data_built = d ∷ p.data_built })
  datum_again (bool b) rest p = refl
  datum_again (int z) rest p = refl
  datum_again (text t) rest p = refl
  datum_again (point q) rest p = refl
  datum_again (rect r) rest p = refl
  datum_again (message w fs) rest p = fields_again fs (a_message w ∷ rest) p

  pub fields_again : (fs : Fields) (rest : List Token) (p : Pile)
      → all_built (fields_tokens fs rest) p
      ≡ all_built rest (record p { fields_built = fs ∷ p.fields_built })
  fields_again no_fields rest p = refl
  fields_again (field name kind vs fs) rest p =
      rw (
        values_again vs (fields_tokens fs (a_field name kind ∷ rest)) p,
        fields_again fs
            (a_field name kind ∷ rest) (record p { values_built = vs ∷ p.values_built }),
      ) refl

  pub values_again : (vs : Values) (rest : List Token) (p : Pile)
      → all_built (values_tokens vs rest) p
      ≡ all_built rest (record p { values_built = vs ∷ p.values_built })
  values_again no_values rest p = refl
  values_again (value d vs) rest p =
      rw (
        values_again vs (datum_tokens d (a_value ∷ rest)) p,
        datum_again d (a_value ∷ rest)
            (record p { values_built = vs ∷ p.values_built }),
      ) refl

abbrev nothing_built : Pile
nothing_built = record { data_built = []; values_built = []; fields_built = [] }

abbrev first_built : List Datum → Datum
first_built [] = bool Bool.false
first_built (d ∷ ds) = d

abbrev tokens_of : Datum → List Token
tokens_of d = datum_tokens d []

abbrev datum_from : List Token → Datum
datum_from ts = first_built (all_built ts nothing_built).data_built

pub given_back : (d : Datum) → datum_from (tokens_of d) ≡ d
given_back d = rw (datum_again d [] nothing_built) refl

-- ---- codes

abbrev pub numbered_kind : ℕ → Kind
numbered_kind n =
    if n == 0 then kind.Bool
    else if n == 1 then kind.Int
    else if n == 2 then kind.Text
    else if n == 3 then kind.Point
    else if n == 4 then kind.Rect
    else kind.Message

pub kind_again : (k : Kind) → numbered_kind (kind_number k) ≡ k
kind_again kind.Bool = refl
kind_again kind.Int = refl
kind_again kind.Text = refl
kind_again kind.Point = refl
kind_again kind.Rect = refl
kind_again kind.Message = refl

abbrev pub kind_code : Coded Kind
kind_code = code_by ℕ coded_ℕ kind_number numbered_kind kind_again

abbrev point_code : Coded Point
point_code =
    code_by (ℤ × ℤ) (coded× coded_ℤ coded_ℤ) (λ p. (p.x, p.y)) (λ p. record { x = p.0; y = p.1 })
    (λ _. refl)

abbrev rect_code : Coded Rect
rect_code =
    code_by ((ℤ × ℤ) × (ℤ × ℤ)) (coded× (coded× coded_ℤ coded_ℤ) (coded× coded_ℤ coded_ℤ))
    (λ r. ((r.left, r.top), (r.right, r.bottom)))
    (λ p. record { left = p.0.0; top = p.0.1; right = p.1.0; bottom = p.1.1 }) (λ _. refl)

abbrev Parts : Type 0
Parts = Bool ⊎ (ℤ ⊎ (List ℕ ⊎ (Point ⊎ (Rect ⊎ (ℕ ⊎ (ℕ ⊎ (List ℕ × Kind)))))))

abbrev parts_of : Token → Parts
parts_of (a_bool b) = inl b
parts_of (an_int z) = inr (inl z)
parts_of (a_text t) = inr (inr (inl t))
parts_of (a_point p) = inr (inr (inr (inl p)))
parts_of (a_rect r) = inr (inr (inr (inr (inl r))))
parts_of (a_message w) = inr (inr (inr (inr (inr (inl w)))))
parts_of the_end_of_values = inr (inr (inr (inr (inr (inr (inl 0))))))
parts_of a_value = inr (inr (inr (inr (inr (inr (inl 1))))))
parts_of the_end_of_fields = inr (inr (inr (inr (inr (inr (inl 2))))))
parts_of (a_field name k) = inr (inr (inr (inr (inr (inr (inr (name, k)))))))

abbrev marked : ℕ → Token
marked n = if n == 0 then the_end_of_values else if n == 1 then a_value else the_end_of_fields

abbrev token_from : Parts → Token
token_from (inl b) = a_bool b
token_from (inr (inl z)) = an_int z
token_from (inr (inr (inl t))) = a_text t
token_from (inr (inr (inr (inl p)))) = a_point p
token_from (inr (inr (inr (inr (inl r))))) = a_rect r
token_from (inr (inr (inr (inr (inr (inl w)))))) = a_message w
token_from (inr (inr (inr (inr (inr (inr (inl n))))))) = marked n
token_from (inr (inr (inr (inr (inr (inr (inr f))))))) = a_field f.0 f.1

pub token_again : (t : Token) → token_from (parts_of t) ≡ t
token_again (a_bool b) = refl
token_again (an_int z) = refl
token_again (a_text t) = refl
token_again (a_point p) = refl
token_again (a_rect r) = refl
token_again (a_message w) = refl
token_again the_end_of_values = refl
token_again a_value = refl
token_again the_end_of_fields = refl
token_again (a_field name k) = refl

abbrev token_code : Coded Token
token_code =
    code_by Parts (coded⊎ coded_bool
    (coded⊎ coded_ℤ (coded⊎ (coded_list coded_ℕ)
    (coded⊎ point_code (coded⊎ rect_code
    (coded⊎ coded_ℕ (coded⊎ coded_ℕ (coded× (coded_list coded_ℕ) kind_code))))))))
    parts_of token_from token_again

abbrev pub datum_code : Coded Datum
datum_code = code_by (List Token) (coded_list token_code) tokens_of datum_from given_back

abbrev pub field_code : Coded Field
field_code =
    code_by ((List ℕ × Kind) × List Datum)
    (coded× (coded× (coded_list coded_ℕ) kind_code) (coded_list datum_code))
    (λ f. ((f.name, f.kind), f.values))
    (λ p. record { name = p.0.0; kind = p.0.1; values = p.1 }) (λ _. refl)

-- a message is stored as the pair of its fields
abbrev pub message_code : Coded Message
message_code =
    code_by (ℕ × List Field) (coded× coded_ℕ (coded_list field_code)) (λ m. (m.what, m.fields))
    (λ p. record { what = p.0; fields = p.1 }) (λ _. refl)
