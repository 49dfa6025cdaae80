-- What kind of part a slice is of.
use Rattle.std.specs.Prelude.{◌≡◌, ℕ, List, Option, Some, None}
use Rattle.be_hall.specs.Hands.{part_at}
use Rattle.be_parts.specs.declared.part.Part.{Part}
use Rattle.be_parts.specs.declared.part.Part.TheVariants as parts
use Rattle.be_parts.specs.Parts.{meaning_of}
use Rattle.be_rules.specs.Slices.{Slice, desk, input, cell, looper, port, link, pane}

pub data Kind : Type 0 where
  of_desk : Kind
  of_input : Kind
  of_cell : Kind
  of_looper : Kind
  of_port : Kind
  of_link : Kind
  of_pane : Kind

abbrev pub kind_of : Slice → Kind
kind_of (desk x) = of_desk
kind_of (input k b) = of_input
kind_of (cell m a) = of_cell
kind_of (looper w l b) = of_looper
kind_of (port w p) = of_port
kind_of (link w l) = of_link
kind_of (pane w p) = of_pane

-- the kind as which it is stored
abbrev pub stored_as : Part → Kind
stored_as (parts.Desk slice) = of_desk
stored_as (parts.Input p) = of_input
stored_as (parts.Cell p) = of_cell
stored_as (parts.Looper p) = of_looper
stored_as (parts.Port slice) = of_port
stored_as (parts.Link slice) = of_link
stored_as (parts.Pane p) = of_pane

abbrev pub HasKind : Kind → Option Part → Type 0
HasKind kind (Some part) = kind_of (meaning_of part) ≡ kind
HasKind kind None = Unit {0}

-- the part at this place, if it is in hand, means a slice of this kind
abbrev pub IsOfKind : Kind → List (ℕ × Part) → ℕ → Type 0
IsOfKind kind parts place = HasKind kind (part_at parts place)
