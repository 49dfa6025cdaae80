-- Which bytes are the line of a view tree's archive (this project's own).
use Rattle.std.specs.Prelude.{ℕ, ◌/◌, nat_lt, if◌then◌else◌, List, [], ◌∷◌, length}
use Rattle.std.specs.Prelude.{Option, Some, None, Result, Ok, option_and_then}
use Rattle.std.specs.Result.{result_ok}
use Rattle.be_archive.specs.Reading.{tree_in}
use Rattle.be_command.specs.declared.fault.Reason.TheVariants.{TooLong, Shape}
use Rattle.be_flat.specs.Reading.{reading}
use Rattle.be_lex.specs.Hex.{hex_bytes}
use Rattle.be_lex.specs.Lines.{Line, lines_of}
use Rattle.be_reader.specs.Grammar.{Fault, fault}
use Rattle.be_views.specs.Trees.{Tree}

-- one line and no other, with its line feed; a carriage return before it belongs to the line
abbrev pub one_line : List Line → Option (List ℕ)
one_line [] = None
one_line (line ∷ []) = if line.ended then Some line.bytes else None
one_line (line ∷ next ∷ lines) = None

-- the bytes that digits write, two of each
abbrev pub bytes_in : List ℕ → Option (List ℕ)
bytes_in digits = hex_bytes (length digits / 2) digits

-- the tree of which bytes spell the archive
abbrev pub tree_of_bytes : List ℕ → Option Tree
tree_of_bytes bytes = option_and_then (λ m. result_ok (tree_in m)) (result_ok (reading bytes))

-- the tree of whose archive a text is the line
abbrev pub tree_of_text : List ℕ → Option Tree
tree_of_text text =
    option_and_then tree_of_bytes (option_and_then bytes_in (one_line (lines_of text)))

abbrev pub or_shape : Option Tree → Result Tree Fault
or_shape (Some tree) = Ok tree
or_shape None = fault 1 Shape

-- the same, or the text's fault; it has 1,048,576 bytes at most
unfoldable pub tree_of_line : List ℕ → Result Tree Fault
tree_of_line text =
    if nat_lt 1048576 (length text) then fault 0 TooLong else or_shape (tree_of_text text)
