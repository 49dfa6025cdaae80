-- The words of FIELDS: what a message that a line makes has in it (the language is this project's
-- own).
use Rattle.std.specs.Prelude.{ℕ, pos, negsuc, ◌==◌, Bool, true, false, ◌&&◌, nat_le, if◌then◌else◌}
use Rattle.std.specs.Prelude.{List, [], ◌∷◌, map, drop, take, length, Option, Some, None, Result}
use Rattle.std.specs.Prelude.{Ok, Err, codes}
use Rattle.std.specs.List.{list_all, slice_split}
use Rattle.std.specs.Option.{option_map, option_and_then}
use Rattle.std.specs.Str.{bytes_eq}
use Rattle.be_actor.specs.Drafts.{Word, value, current, copied}
use Rattle.be_actor.specs.Limits.{all_go_together}
use Rattle.be_command.specs.declared.fault.Reason.{Reason}
use Rattle.be_command.specs.declared.fault.Reason.TheVariants.{Shape, Range}
use Rattle.be_geom.specs.Points.{between, in_range}
use Rattle.be_lex.specs.Names.{is_field_name}
use Rattle.be_lex.specs.Numbers.{is_number, number_of}
use Rattle.be_lex.specs.Words.{cut_at}
use Rattle.be_message.specs.Messages.{Datum, bool, int, text, point, rect, message}

-- ---- a value, with numbers of any size

-- the two or four numbers between commas
abbrev pub point_in : List (List ℕ) → Option Datum
point_in [] = None
point_in (x ∷ []) = None
point_in (x ∷ y ∷ []) = Some (point (record { x = number_of x; y = number_of y }))
point_in (x ∷ y ∷ z ∷ more) = None

abbrev pub rect_in : List (List ℕ) → Option Datum
rect_in [] = None
rect_in (l ∷ []) = None
rect_in (l ∷ t ∷ []) = None
rect_in (l ∷ t ∷ r ∷ []) = None
rect_in (l ∷ t ∷ r ∷ b ∷ []) =
    Some (rect (record {
      left = number_of l;
      top = number_of t;
      right = number_of r;
      bottom = number_of b;
    }))
rect_in (l ∷ t ∷ r ∷ b ∷ c ∷ more) = None

-- what stands between the commas, where each is a number
abbrev pub numbers_in : List ℕ → List (List ℕ)
numbers_in bytes = slice_split (λ b. b == 44) bytes

abbrev pub of_numbers : (List (List ℕ) → Option Datum) → List ℕ → Option Datum
of_numbers read bytes =
    if list_all is_number (numbers_in bytes) then read (numbers_in bytes) else None

-- a text has at most 1,024 bytes
abbrev pub text_in : List ℕ → Option Datum
text_in bytes = if nat_le (length bytes) 1024 then Some (text bytes) else None

abbrev pub int_in : List ℕ → Option Datum
int_in bytes = if is_number bytes then Some (int (number_of bytes)) else None

abbrev pub truth_in : List ℕ → Option Datum
truth_in bytes =
    if bytes_eq bytes (codes "true") then Some (bool true) else if bytes_eq bytes (codes "false")
    then Some (bool false) else None

-- by the letter in front and the colon behind it
abbrev pub datum_of : List ℕ → Option Datum
datum_of bytes =
    if bytes_eq (take 2 bytes) (codes "b:") then truth_in (drop 2 bytes)
    else if bytes_eq (take 2 bytes) (codes "i:") then int_in (drop 2 bytes)
    else if bytes_eq (take 2 bytes) (codes "s:") then text_in (drop 2 bytes)
    else if bytes_eq (take 2 bytes) (codes "p:") then of_numbers point_in (drop 2 bytes)
    else if bytes_eq (take 2 bytes) (codes "r:") then of_numbers rect_in (drop 2 bytes)
    else None

-- ---- a word

-- a word with a name: `cur`, or a value
abbrev pub named_word : Bool → List ℕ → List ℕ → Option Word
named_word has_message name bytes =
    if bytes_eq bytes (codes "cur") then (if has_message then Some (current name) else None)
    else option_map (value name) (datum_of bytes)

abbrev pub with_name : Bool → List ℕ × List ℕ → Option Word
with_name has_message cut = if is_field_name cut.0 then named_word has_message cut.0 cut.1 else None

-- all values of a field of the current message
abbrev pub copied_word : Bool → List ℕ → Option Word
copied_word has_message name =
    if has_message && is_field_name name then Some (copied name) else None

-- the word of a draft that a word of the line is; the current message is there in the body of a
-- handler alone
unfoldable pub field_of : Bool → List ℕ → Option Word
field_of has_message word =
    if bytes_eq (take 5 word) (codes "copy:") then copied_word has_message (drop 5 word)
    else option_and_then (with_name has_message) (cut_at 61 word)

-- ---- all of them

-- all of a list, where none is missing
abbrev pub all_there : {A : Type 0} → List (Option A) → Option (List A)
all_there [] = Some []
all_there (None ∷ more) = None
all_there (Some x ∷ more) = option_map (λ xs. x ∷ xs) (all_there more)

-- the numbers of a value are in their ranges
abbrev pub is_datum_in_range : Datum → Bool
is_datum_in_range (bool b) = true
is_datum_in_range (int z) = between (negsuc 2147483647) z (pos 2147483647)
is_datum_in_range (text t) = true
is_datum_in_range (point p) = in_range p.x && in_range p.y
is_datum_in_range (rect r) =
    in_range r.left && in_range r.top && in_range r.right && in_range r.bottom
is_datum_in_range (message what fs) = true

abbrev pub is_in_range : Word → Bool
is_in_range (value name datum) = is_datum_in_range datum
is_in_range (current name) = true
is_in_range (copied name) = true

abbrev pub ranged : List Word → Result (List Word) Reason
ranged words = if list_all is_in_range words then Ok words else Err Range

-- words that go together, and then numbers in their ranges
abbrev pub together : Option (List Word) → Result (List Word) Reason
together (Some words) = if all_go_together words then ranged words else Err Shape
together None = Err Shape

-- what the words of FIELDS say
unfoldable pub fields_said : Bool → List (List ℕ) → Result (List Word) Reason
fields_said has_message words = together (all_there (map (field_of has_message) words))
