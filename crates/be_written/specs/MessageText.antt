-- The text of a message, as the report has it (this project's own).
use Rattle.std.specs.Prelude.{ℕ, ℤ, ◌==◌, Bool, true, false, List, [], ◌∷◌, ◌++◌, flat_map, codes}
use Rattle.std.specs.Prelude.{if◌then◌else◌}
use Rattle.std.specs.Fmt.{signed_decimal}
use Rattle.be_flat.specs.Codes.{code_of}
use Rattle.be_lex.specs.Codes as lex
use Rattle.be_message.specs.Messages.{Datum, bool, int, text, point, rect, message, Fields}
use Rattle.be_message.specs.Messages.{no_fields, field, Values, no_values, value, Message}
use Rattle.be_message.specs.Messages.{all_fields}

-- ---- values

abbrev pub bool_text : Bool → List ℕ
bool_text true = codes "true"
bool_text false = codes "false"

-- a space, a comma and a percent sign by their codes in base 16
abbrev pub escaped : ℕ → List ℕ
escaped b =
    if b == 32 then codes "%20"
    else if b == 44 then codes "%2C"
    else if b == 37 then codes "%25"
    else b ∷ []

-- numbers with strokes between them
abbrev pub stroked : ℤ → ℤ → List ℕ
stroked x y = signed_decimal x ++ codes "/" ++ signed_decimal y

-- ---- messages

unfoldable mutual
  -- a message lies in brackets
  pub datum_text : Datum → List ℕ
  datum_text (bool b) = bool_text b
  datum_text (int z) = signed_decimal z
  datum_text (text t) = flat_map escaped t
  datum_text (point p) = stroked p.x p.y
  datum_text (rect r) = stroked r.left r.top ++ codes "/" ++ stroked r.right r.bottom
  datum_text (message what fs) = codes "(" ++ lex.code_text what ++ fields_text fs ++ codes ")"

  -- each field behind a space: its name, its type's letters and its values
  pub fields_text : Fields → List ℕ
  fields_text no_fields = []
  fields_text (field name kind vs rest) =
      codes " " ++ name ++ codes "=" ++ code_of kind ++ codes ":" ++ values_text vs
      ++ fields_text rest

  -- with commas between them
  pub values_text : Values → List ℕ
  values_text no_values = []
  values_text (value d vs) = datum_text d ++ more_text vs

  pub more_text : Values → List ℕ
  more_text no_values = []
  more_text (value d vs) = codes "," ++ datum_text d ++ more_text vs

-- the word of a message, and its fields
abbrev pub message_text : Message → List ℕ
message_text m = lex.code_text m.what ++ fields_text (all_fields m.fields)
