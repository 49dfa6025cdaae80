-- What a message is: its what, and its fields in order of first adding (The Be Book: BMessage).
use Rattle.std.specs.Prelude.{ℕ, ℤ, Bool, List, [], ◌∷◌}
use Rattle.be_geom.specs.declared.point.Point.{Point}
use Rattle.be_geom.specs.declared.rect.Rect.{Rect}
use Rattle.be_message.specs.declared.kind.Kind.{Kind}

mutual
  -- a value; a message within a message is its what and its fields
  pub data Datum : Type 0 where
    bool : Bool → Datum
    int : ℤ → Datum
    text : List ℕ → Datum
    point : Point → Datum
    rect : Rect → Datum
    message : ℕ → Fields → Datum

  -- the fields of a message within a message: a name, a type and values, and the fields after it
  pub data Fields : Type 0 where
    no_fields : Fields
    field : List ℕ → Kind → Values → Fields → Fields

  pub data Values : Type 0 where
    no_values : Values
    value : Datum → Values → Values

-- a field: its name, its type and its values
pub record Field : Type 0 where
  pub name : List ℕ
  pub kind : Kind
  pub values : List Datum

pub record Message : Type 0 where
  pub what : ℕ
  pub fields : List Field

-- values and fields of a message within a message, as lists
abbrev pub values_of : Values → List Datum
values_of no_values = []
values_of (value d ds) = d ∷ values_of ds

abbrev pub fields_of : Fields → List Field
fields_of no_fields = []
fields_of (field name kind values rest) =
    record { name = name; kind = kind; values = values_of values } ∷ fields_of rest

-- lists as the values and the fields of a message within a message
abbrev pub all_values : List Datum → Values
all_values [] = no_values
all_values (d ∷ ds) = value d (all_values ds)

abbrev pub all_fields : List Field → Fields
all_fields [] = no_fields
all_fields (f ∷ fs) = field f.name f.kind (all_values f.values) (all_fields fs)

-- a message as a value
abbrev pub packed : Message → Datum
packed m = message m.what (all_fields m.fields)
