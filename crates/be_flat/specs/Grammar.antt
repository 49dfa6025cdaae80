-- Which bytes spell which message: each part by its own rule, one after the other.
use Rattle.std.specs.Prelude.{◌≡◌, ◌<◌, ◌≤◌, ◌^◌, ℕ, ℤ, true, if◌then◌else◌, List, [], ◌∷◌, ◌++◌}
use Rattle.std.specs.Prelude.{length, FitsSigned}
use Rattle.std.specs.Int.{w16, w32, to_le_bytes, cast_unsigned}
use Rattle.be_message.specs.declared.kind.Kind.{Kind}
use Rattle.be_message.specs.Depths.{depth_of}
use Rattle.be_message.specs.Limits.{most_fields, most_values, most_depth}
use Rattle.be_message.specs.Messages.{Datum, bool, int, text, point, rect, message, Fields}
use Rattle.be_message.specs.Messages.{no_fields, field, Values, no_values, value, Message, packed}
use Rattle.be_message.specs.Names.{is_name, is_text}
use Rattle.be_message.specs.Sound.{kind_of, is_new, field_count, value_count}
use Rattle.be_flat.specs.Codes.{code_of}

-- a signed number of 16 or of 32 bits, the lowest byte first
abbrev pub SpellsCoordinate : List ℕ → ℤ → Type 0
SpellsCoordinate bytes z = FitsSigned w16 z × (bytes ≡ to_le_bytes w16 (cast_unsigned w16 z))

abbrev pub SpellsInt : List ℕ → ℤ → Type 0
SpellsInt bytes z = FitsSigned w32 z × (bytes ≡ to_le_bytes w32 (cast_unsigned w32 z))

abbrev pub SpellsPoint : List ℕ → ℤ → ℤ → Type 0
SpellsPoint bytes x y =
    (a b : List ℕ) × (bytes ≡ a ++ b) × SpellsCoordinate a x × SpellsCoordinate b y

-- the length, and then the bytes
abbrev pub SpellsText : List ℕ → List ℕ → Type 0
SpellsText bytes t = (is_text t ≡ true) × (bytes ≡ to_le_bytes w16 (length t) ++ t)

abbrev mutual
  pub SpellsDatum : List ℕ → Datum → Type 0
  SpellsDatum bytes (bool b) = bytes ≡ (if b then 1 else 0) ∷ []
  SpellsDatum bytes (int z) = SpellsInt bytes z
  SpellsDatum bytes (text t) = SpellsText bytes t
  SpellsDatum bytes (point p) = SpellsPoint bytes p.x p.y
  SpellsDatum bytes (rect r) =
      (a b : List ℕ) × (bytes ≡ a ++ b) × SpellsPoint a r.left r.top
      × SpellsPoint b r.right r.bottom
  -- the what, the number of fields, and the fields
  SpellsDatum bytes (message what fs) =
      (what < 2 ^ 32) × (field_count fs ≤ most_fields) × (rest : List ℕ)
      × (bytes ≡ to_le_bytes w32 what ++ field_count fs ∷ rest) × SpellsFields rest fs

  -- a field: its type's letters, the length of its name and the name, the number of its values and
  -- the values
  pub SpellsFields : List ℕ → Fields → Type 0
  SpellsFields bytes no_fields = bytes ≡ []
  SpellsFields bytes (field name kind vs fs) =
      (is_name name ≡ true) × (is_new name fs ≡ true) × (0 < value_count vs)
      × (value_count vs ≤ most_values) × (a b : List ℕ)
      × (bytes ≡ code_of kind ++ length name ∷ name ++ value_count vs ∷ a ++ b)
      × SpellsValues kind a vs × SpellsFields b fs

  -- values of one type
  pub SpellsValues : Kind → List ℕ → Values → Type 0
  SpellsValues kind bytes no_values = bytes ≡ []
  SpellsValues kind bytes (value d vs) =
      (kind_of d ≡ kind) × (a b : List ℕ) × (bytes ≡ a ++ b) × SpellsDatum a d
      × SpellsValues kind b vs

-- the bytes spell the message, in which no message lies deeper than 16
pub record Spells (bytes : List ℕ) (m : Message) : Type 0 where
  pub depth : depth_of m ≤ most_depth
  pub parts : SpellsDatum bytes (packed m)
