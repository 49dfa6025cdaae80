-- Whether a message has room for values that are to be added under a name, so that only memory can
-- be missing.
use Rattle.std.specs.Prelude.{◌≡◌, ◌+◌, ◌<◌, ◌≤◌, ℕ, true, List, length, Option, Some, None}
use Rattle.be_message.specs.declared.kind.Kind.{Kind}
use Rattle.be_message.specs.Fields.{field_named}
use Rattle.be_message.specs.Limits.{most_fields, most_values}
use Rattle.be_message.specs.Messages.{Field, Message}
use Rattle.be_message.specs.Names.{is_name}

-- so many values of the type fit behind those of the field, or into a new one
abbrev pub Fit : ℕ → Kind → ℕ → Option Field → Type 0
Fit count k n (Some f) = (f.kind ≡ k) × (length f.values + n ≤ most_values)
Fit count k n None = (count < most_fields) × (n ≤ most_values)

-- the name may stand in a message, and so many values of the type have room under it
pub record HasRoom (m : Message) (name : List ℕ) (k : Kind) (n : ℕ) : Type 0 where
  pub allowed : is_name name ≡ true
  pub fit : Fit (length m.fields) k n (field_named name m.fields)
