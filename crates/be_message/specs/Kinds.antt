-- The types of values, each with a number of its own (six of The Be Book's types; the numbers are
-- this project's own).
use Rattle.std.specs.Prelude.{ℕ, Bool, ◌==◌}
use Rattle.be_message.specs.declared.kind.Kind.{Kind}
use Rattle.be_message.specs.declared.kind.Kind.TheVariants as kind

abbrev pub kind_number : Kind → ℕ
kind_number kind.Bool = 0
kind_number kind.Int = 1
kind_number kind.Text = 2
kind_number kind.Point = 3
kind_number kind.Rect = 4
kind_number kind.Message = 5

-- the two are one type
abbrev pub is_kind : Kind → Kind → Bool
is_kind a b = kind_number a == kind_number b
