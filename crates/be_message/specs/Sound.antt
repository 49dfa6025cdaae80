-- What is true of every message, and of each message within it (this project's own, but that the
-- values of a field have one type).
use Rattle.std.specs.Prelude.{◌≡◌, ◌≤◌, ◌<◌, ◌^◌, ℕ, suc, ℤ, Bool, true, not, ◌&&◌, List}
use Rattle.std.specs.Prelude.{FitsSigned}
use Rattle.std.specs.Int.{w16, w32}
use Rattle.std.specs.Str.{bytes_eq}
use Rattle.be_message.specs.declared.kind.Kind.{Kind}
use Rattle.be_message.specs.declared.kind.Kind.TheVariants as kind
use Rattle.be_message.specs.Messages.{Datum, bool, int, text, point, rect, message, Fields}
use Rattle.be_message.specs.Messages.{no_fields, field, Values, no_values, value, Message, packed}
use Rattle.be_message.specs.Depths.{depth_of}
use Rattle.be_message.specs.Limits.{most_fields, most_values, most_depth}
use Rattle.be_message.specs.Names.{is_name, is_text}

abbrev pub kind_of : Datum → Kind
kind_of (bool b) = kind.Bool
kind_of (int z) = kind.Int
kind_of (text t) = kind.Text
kind_of (point p) = kind.Point
kind_of (rect r) = kind.Rect
kind_of (message what fs) = kind.Message

-- no field has the name
abbrev pub is_new : List ℕ → Fields → Bool
is_new name no_fields = true
is_new name (field other kind vs fs) = not (bytes_eq other name) && is_new name fs

abbrev pub field_count : Fields → ℕ
field_count no_fields = 0
field_count (field name kind vs fs) = suc (field_count fs)

abbrev pub value_count : Values → ℕ
value_count no_values = 0
value_count (value d vs) = suc (value_count vs)

-- two coordinates, of 16 bits each
abbrev pub AreCoordinates : ℤ → ℤ → Type 0
AreCoordinates x y = FitsSigned w16 x × FitsSigned w16 y

abbrev mutual
  -- a number has 32 bits, a coordinate 16; a text is within its limits; a message's what has 32
  -- bits, and it has at most 255 fields
  pub IsSound : Datum → Type 0
  IsSound (bool b) = Unit {0}
  IsSound (int z) = FitsSigned w32 z
  IsSound (text t) = is_text t ≡ true
  IsSound (point p) = AreCoordinates p.x p.y
  IsSound (rect r) = AreCoordinates r.left r.top × AreCoordinates r.right r.bottom
  IsSound (message what fs) = (what < 2 ^ 32) × (field_count fs ≤ most_fields) × AreSoundFields fs

  -- each field has a name that no later one has, and 1 to 255 values
  pub AreSoundFields : Fields → Type 0
  AreSoundFields no_fields = Unit {0}
  AreSoundFields (field name kind vs fs) =
      (is_name name ≡ true) × (is_new name fs ≡ true) × (0 < value_count vs)
      × (value_count vs ≤ most_values) × AreSoundValues kind vs × AreSoundFields fs

  -- the values of a field have its type
  pub AreSoundValues : Kind → Values → Type 0
  AreSoundValues kind no_values = Unit {0}
  AreSoundValues kind (value d vs) = (kind_of d ≡ kind) × IsSound d × AreSoundValues kind vs

-- a message keeps its limits, and no message in it lies deeper than 16
pub record IsMessage (m : Message) : Type 0 where
  pub sound : IsSound (packed m)
  pub depth : depth_of m ≤ most_depth
