-- The names that a line may declare beside those that were declared (the language is this project's
-- own).
use Rattle.std.specs.Prelude.{ℕ, List, ◌++◌, Option, Result}
use Rattle.std.specs.List.{list_any}
use Rattle.std.specs.Str.{bytes_eq}
use Rattle.be_command.specs.declared.fault.Reason.{Reason}
use Rattle.be_line.specs.Kinds.{new_named}
use Rattle.be_said.specs.SoFar.{SoFar, plain_names, view_names}

-- a name beside these
abbrev pub new_name : List (List ℕ) → List ℕ → Result (List ℕ) Reason
new_name names word = new_named (list_any (λ other. bytes_eq other word) names) word

-- the names of a window's handlers
abbrev pub handler_names : SoFar → Option ℕ → List (List ℕ)
handler_names said w = view_names said w ++ plain_names said w
