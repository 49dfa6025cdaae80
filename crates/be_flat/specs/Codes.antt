-- The four letters that a field's type is spelt by.
use Rattle.std.specs.Prelude.{ℕ, Bool, nat_eq, if◌then◌else◌, List, [], ◌∷◌, codes}
use Rattle.std.specs.List.{list_any, starts_with}
use Rattle.std.specs.Str.{bytes_eq}
use Rattle.be_message.specs.declared.kind.Kind.{Kind}
use Rattle.be_message.specs.declared.kind.Kind.TheVariants as kind

abbrev pub code_of : Kind → List ℕ
code_of kind.Bool = codes "BOOL"
code_of kind.Int = codes "LONG"
code_of kind.Text = codes "CSTR"
code_of kind.Point = codes "BPNT"
code_of kind.Rect = codes "RECT"
code_of kind.Message = codes "MSGG"

abbrev pub plain_kinds : List Kind
plain_kinds = kind.Bool ∷ kind.Int ∷ kind.Text ∷ kind.Point ∷ kind.Rect ∷ []

-- the types that a field can have; none is a message where no further message may lie
abbrev pub kinds : Bool → List Kind
kinds nested = if nested then kind.Message ∷ plain_kinds else plain_kinds

-- the letters are the first of a type's code
unfoldable pub begin_code : Bool → List ℕ → Bool
begin_code nested letters = list_any (λ k. starts_with nat_eq (code_of k) letters) (kinds nested)

-- the type that four letters are the code of
unfoldable pub kind_spelt : List ℕ → Kind
kind_spelt letters =
    if bytes_eq letters (code_of kind.Bool) then kind.Bool
    else if bytes_eq letters (code_of kind.Int) then kind.Int
    else if bytes_eq letters (code_of kind.Text) then kind.Text
    else if bytes_eq letters (code_of kind.Point) then kind.Point
    else if bytes_eq letters (code_of kind.Rect) then kind.Rect
    else kind.Message
