-- The names of windows, views and bitmaps that a command may use (this project's own).
use Rattle.std.specs.Prelude.{◌≡◌, ℕ, ◌+◌, Bool, true, not, ◌&&◌, ◌||◌, nat_le, if◌then◌else◌, List}
use Rattle.std.specs.Prelude.{[], ◌∷◌, length, Option, Some, None, Result, Ok, Err}
use Rattle.std.specs.List.{list_all, list_any, position_from}
use Rattle.std.specs.Str.{bytes_eq}
use Rattle.be_lex.specs.Names.{is_name, is_reserved_name}
use Rattle.be_command.specs.declared.fault.NameFault.{NameFault}
use Rattle.be_command.specs.declared.fault.NameFault.TheVariants.{BadName, NameTaken, TooMany}
use Rattle.be_command.specs.declared.fault.NameFault.TheVariants.{NoMemory}

-- the windows, the views of one of them, the root view first, and the bitmaps; each has its place
-- in its list as number
pub record Known : Type 0 where
  pub windows : List (List ℕ)
  pub views : List (List ℕ)
  pub bitmaps : List (List ℕ)

-- the number of a name
abbrev pub number_in : List (List ℕ) → List ℕ → Option ℕ
number_in names name = position_from (λ other. bytes_eq other name) 0 names

-- why a name isn't added to those that stand beside it, of which there may be so many
abbrev pub name_fault : ℕ → List (List ℕ) → List ℕ → Option NameFault
name_fault most names name =
    if not (is_name name) then Some BadName
    else if is_reserved_name name || list_any (λ other. bytes_eq other name) names
    then Some NameTaken
    else if nat_le most (length names) then Some TooMany
    else None

-- a fault is this one, but for memory
abbrev pub IsNameFault : NameFault → Option NameFault → Type 0
IsNameFault BadName due = due ≡ Some BadName
IsNameFault NameTaken due = due ≡ Some NameTaken
IsNameFault TooMany due = due ≡ Some TooMany
IsNameFault NoMemory due = Unit {0}

-- a name is refused where a fault is due, with that fault, and else has the next number, where the
-- first is this one
abbrev pub IsNumberedFrom : ℕ → Result ℕ NameFault → Option NameFault → List (List ℕ) → Type 0
IsNumberedFrom first (Ok number) due names = (due ≡ None) × (number ≡ first + length names)
IsNumberedFrom first (Err fault) due names = IsNameFault fault due

abbrev pub IsNumbered : Result ℕ NameFault → Option NameFault → List (List ℕ) → Type 0
IsNumbered result due names = IsNumberedFrom 0 result due names

-- ---- what holds of all names that were added

-- no two are the same
abbrev pub are_different : List (List ℕ) → Bool
are_different [] = true
are_different (name ∷ names) =
    not (list_any (λ other. bytes_eq name other) names) && are_different names

-- each may be declared, and no two are the same
pub record AreNames (names : List (List ℕ)) : Type 0 where
  pub each : list_all (λ name. is_name name && not (is_reserved_name name)) names ≡ true
  pub differ : are_different names ≡ true
