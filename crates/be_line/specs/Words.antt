-- The words of FIELDS, one after the other: what stands under a name, and what goes with it (this
-- project's own).
use Rattle.std.specs.Prelude.{ℕ, Bool, true, false, ◌&&◌, not, if◌then◌else◌, List, [], ◌∷◌, ◌++◌}
use Rattle.std.specs.Prelude.{Option, Some, None, Result, Err}
use Rattle.std.specs.List.{list_all}
use Rattle.std.specs.Str.{bytes_eq}
use Rattle.be_actor.specs.Drafts.{Word, value, current, copied}
use Rattle.be_actor.specs.Limits.{go_together}
use Rattle.be_command.specs.declared.fault.Reason.{Reason}
use Rattle.be_command.specs.declared.fault.Reason.TheVariants.{Shape}
use Rattle.be_message.specs.declared.kind.Kind.{Kind}
use Rattle.be_message.specs.Kinds.{is_kind}
use Rattle.be_message.specs.Sound.{kind_of}
use Rattle.be_line.specs.Fields.{ranged}

-- ---- what stands under a name

abbrev pub name_of : Word → List ℕ
name_of (value name datum) = name
name_of (current name) = name
name_of (copied name) = name

-- values of a type, or what stands alone
abbrev pub sort_of : Word → Option Kind
sort_of (value name datum) = Some (kind_of datum)
sort_of (current name) = None
sort_of (copied name) = None

abbrev pub is_current : Word → Bool
is_current (value name datum) = false
is_current (current name) = true
is_current (copied name) = false

abbrev pub is_copied : Word → Bool
is_copied (value name datum) = false
is_copied (current name) = false
is_copied (copied name) = true

-- the sort of the first word with this name
abbrev pub standing : List Word → List ℕ → Option (Option Kind)
standing [] name = None
standing (w ∷ ws) name = if bytes_eq (name_of w) name then Some (sort_of w) else standing ws name

-- a value of this type may stand beside it
abbrev pub fits_kind : Option Kind → Kind → Bool
fits_kind (Some kind) other = is_kind kind other
fits_kind None other = false

abbrev pub fits : Option (Option Kind) → Kind → Bool
fits None kind = true
fits (Some sort) kind = fits_kind sort kind

abbrev pub is_free : Option (Option Kind) → Bool
is_free None = true
is_free (Some sort) = false

-- a word goes with others of which this much is known
abbrev pub goes_with : Option (Option Kind) → Bool → Bool → Word → Bool
goes_with there has_current has_copy (value name datum) = fits there (kind_of datum)
goes_with there has_current has_copy (current name) =
    not has_current && (not has_copy && is_free there)
goes_with there has_current has_copy (copied name) = not has_current && is_free there

-- ---- words that go together

-- the words so far, or none once something was wrong with their form
abbrev pub next : Option (List Word) → Option Word → Option (List Word)
next None w = None
next (Some ws) None = None
next (Some ws) (Some w) =
    if list_all (λ other. go_together other w) ws then Some (ws ++ w ∷ []) else None

abbrev pub ended : Option (List Word) → Result (List Word) Reason
ended (Some ws) = ranged ws
ended None = Err Shape
