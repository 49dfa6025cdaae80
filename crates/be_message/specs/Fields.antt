-- What a message has under a name, and what each change makes of its fields (The Be Book: BMessage,
-- Add, Find, Replace, RemoveName; the reasons of a refusal are this project's own).
use Rattle.std.specs.Prelude.{ℕ, suc, Bool, true, not, nat_le, if◌then◌else◌, List, [], ◌∷◌, ◌++◌}
use Rattle.std.specs.Prelude.{length, map, filter, find, slice_get, slice_set, Option, Some, None}
use Rattle.std.specs.Prelude.{Result, Ok, Err}
use Rattle.std.specs.List.{list_any}
use Rattle.std.specs.Str.{bytes_eq}
use Rattle.be_message.specs.declared.kind.Kind.{Kind}
use Rattle.be_message.specs.declared.fault.FindFault.{FindFault}
use Rattle.be_message.specs.declared.fault.FindFault.TheVariants as missing
use Rattle.be_message.specs.Messages.{Datum, text, message, Field, Message}
use Rattle.be_message.specs.Depths.{datum_depth}
use Rattle.be_message.specs.Kinds.{is_kind}
use Rattle.be_message.specs.Limits.{most_fields, most_values, most_depth}
use Rattle.be_message.specs.Names.{is_name, is_text}
use Rattle.be_message.specs.Sound.{kind_of}

-- ---- what is found

abbrev pub has_name : List ℕ → Field → Bool
has_name name f = bytes_eq f.name name

-- the field of the name
abbrev pub field_named : List ℕ → List Field → Option Field
field_named name fs = find (has_name name) fs

-- how many values stand under the name
abbrev pub count_of : Option Field → ℕ
count_of (Some f) = length f.values
count_of None = 0

abbrev pub value_or_missing : Option Datum → Result Datum FindFault
value_or_missing (Some d) = Ok d
value_or_missing None = Err missing.BadIndex

abbrev pub found_in : Option Field → Kind → ℕ → Result Datum FindFault
found_in (Some f) kind index =
    if is_kind f.kind kind then value_or_missing (slice_get f.values index) else Err missing.BadType
found_in None kind index = Err missing.NameNotFound

-- the value of this type and number under the name: the name is looked for first, then the type,
-- then the number
abbrev pub found : Message → List ℕ → Kind → ℕ → Result Datum FindFault
found m name kind index = found_in (field_named name m.fields) kind index

-- ---- what a message refuses

-- a text within its limits, a message that lies no deeper than 16, or any other value
abbrev pub is_allowed : Datum → Bool
is_allowed (text t) = is_text t
is_allowed (message what fs) = nat_le (suc (datum_depth (message what fs))) most_depth
is_allowed _ = true

-- why a value isn't added, or doesn't take another one's place
pub data Refusal : Type 0 where
  bad_name : Refusal
  bad_value : Refusal
  bad_type : Refusal
  too_many : Refusal
  not_found : Refusal
  bad_index : Refusal

abbrev pub refused_by : ℕ → Option Field → Datum → Option Refusal
refused_by count (Some f) d =
    if is_kind f.kind (kind_of d)
    then (if nat_le most_values (length f.values) then Some too_many else None) else Some bad_type
refused_by count None d = if nat_le most_fields count then Some too_many else None

-- the first reason against adding the value
abbrev pub add_refusal : Message → List ℕ → Datum → Option Refusal
add_refusal m name d =
    if not (is_name name) then Some bad_name
    else if not (is_allowed d) then Some bad_value
    else refused_by (length m.fields) (field_named name m.fields) d

abbrev pub unless_allowed : Datum → Option Refusal
unless_allowed d = if is_allowed d then None else Some bad_value

abbrev pub unless_found : Result Datum FindFault → Datum → Option Refusal
unless_found (Ok old) d = unless_allowed d
unless_found (Err missing.NameNotFound) d = Some not_found
unless_found (Err missing.BadType) d = Some bad_type
unless_found (Err missing.BadIndex) d = Some bad_index

-- the first reason against the value in the place of the one of this number
abbrev pub replace_refusal : Message → List ℕ → ℕ → Datum → Option Refusal
replace_refusal m name index d = unless_found (found m name (kind_of d) index) d

-- ---- what a message becomes

abbrev pub with_one_more : Datum → Field → Field
with_one_more d f = record f { values = f.values ++ d ∷ [] }

abbrev pub with_other : ℕ → Datum → Field → Field
with_other index d f = record f { values = slice_set f.values index d }

-- the field of the name is changed, all others stay
abbrev pub changed_at : List ℕ → (Field → Field) → List Field → List Field
changed_at name change fs = map (λ f. if has_name name f then change f else f) fs

abbrev pub new_field : List ℕ → Datum → Field
new_field name d = record { name = name; kind = kind_of d; values = d ∷ [] }

-- a value more under the name; a new name comes last
abbrev pub with_value_in : List Field → List ℕ → Datum → List Field
with_value_in fs name d =
    if list_any (has_name name) fs then changed_at name (with_one_more d) fs
    else fs ++ new_field name d ∷ []

abbrev pub with_value : Message → List ℕ → Datum → Message
with_value m name d = record m { fields = with_value_in m.fields name d }

-- the value in the place of the one of this number
abbrev pub with_replaced : Message → List ℕ → ℕ → Datum → Message
with_replaced m name index d = record m { fields = changed_at name (with_other index d) m.fields }

-- no field of the name
abbrev pub without : Message → List ℕ → Message
without m name = record m { fields = filter (λ f. not (has_name name f)) m.fields }
