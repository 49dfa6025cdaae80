-- Messages that are written from the bytes that spell them (this project's own).
use Rattle.std.specs.Prelude.{◌≡◌, ℕ, ◌≤◌, List, ◌∷◌, ◌++◌, length}
use Rattle.be_message.specs.declared.kind.Kind.{Kind}
use Rattle.be_message.specs.Depths.{datum_depth, fields_depth, values_depth}
use Rattle.be_message.specs.Messages.{Datum, Fields, Message, Values}
use Rattle.be_message.specs.Sound.{kind_of, field_count, value_count}
use Rattle.be_flat.specs.Codes.{code_of}
use Rattle.be_flat.specs.Grammar.{Spells, SpellsDatum, SpellsFields, SpellsValues}
use Rattle.be_written.specs.declared.said.Said.{Said}
use Rattle.be_written.specs.declared.said.Said.TheVariants as said

-- the code has this message
abbrev pub IsSaid : Said → Message → Type 0
IsSaid (said.Whole message) body = message.now ≡ body
IsSaid (said.Spelt bytes) body = Spells bytes.now body

-- ---- what bytes begin with, messages in it being at most so many deep

pub record StartsDatum (bytes : List ℕ) (levels : ℕ) (kind : Kind) (d : Datum) (behind : List ℕ)
    : Type 0 where
  pub front : List ℕ
  pub parts : bytes ≡ front ++ behind
  pub spells : SpellsDatum front d
  pub same : kind_of d ≡ kind
  pub deep : datum_depth d ≤ levels

-- so many values of one type
pub record StartsValues (bytes : List ℕ) (levels : ℕ) (kind : Kind) (count : ℕ) (vs : Values)
    (behind : List ℕ) : Type 0 where
  pub front : List ℕ
  pub parts : bytes ≡ front ++ behind
  pub spells : SpellsValues kind front vs
  pub many : value_count vs ≡ count
  pub deep : values_depth vs ≤ levels

-- a field with its values
pub record StartsField (bytes : List ℕ) (levels : ℕ) (name : List ℕ) (kind : Kind) (vs : Values)
    (behind : List ℕ) : Type 0 where
  pub values : List ℕ
  pub parts : bytes
      ≡ code_of kind ++ (length name ∷ (name ++ (value_count vs ∷ (values ++ behind))))
  pub spells : SpellsValues kind values vs
  pub deep : values_depth vs ≤ levels

-- so many fields
pub record StartsFields (bytes : List ℕ) (levels count : ℕ) (fs : Fields) (behind : List ℕ)
    : Type 0 where
  pub front : List ℕ
  pub parts : bytes ≡ front ++ behind
  pub spells : SpellsFields front fs
  pub many : field_count fs ≡ count
  pub deep : fields_depth fs ≤ levels

-- ---- what is written of it

-- a text was added, and these bytes are left
abbrev pub Leaves : List ℕ → List ℕ → List ℕ → List ℕ → List ℕ → Type 0
Leaves page text behind new rest = (new ≡ page ++ text) × (rest ≡ behind)
