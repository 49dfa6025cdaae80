-- A name of a script's things is text.
use Rattle.std.proofs.Common.{◌≡◌, ℕ, zero, suc, true, ◌&&◌, List, [], ◌∷◌, length}
use Rattle.std.specs.Char.{is_ascii_lowercase}
use Rattle.std.specs.List.{list_all}
use Rattle.std.specs.Prelude.{nat_le}
use Rattle.std.specs.Str.{IsAscii, IsUtf8}
use Rattle.std.proofs.lemmas.Bool.{and_parts}
use Rattle.std.proofs.lemmas.Str.{IsUtf8-from_ascii}
use Rattle.be_facts.specs.Names.{is_name_byte}
use Rattle.be_facts.proofs.Bytes.{letter_is_ascii}
use Rattle.be_lex.specs.Names.{is_name, is_name_within}
use Rattle.be_message.proofs.NameLemmas.{bytes_are_ascii}

name_is_ascii : (name : List ℕ) → is_name name ≡ true → IsAscii name
unfolding is_name_within
name_is_ascii [] h i = absurd (cc)
name_is_ascii (b ∷ bytes) h zero =
    let p = and_parts (is_ascii_lowercase b && list_all is_name_byte bytes) (nat_le (length (b ∷ bytes)) 16) h in
    letter_is_ascii b (and_parts (is_ascii_lowercase b) (list_all is_name_byte bytes) p.0).0
name_is_ascii (b ∷ bytes) h (suc i) =
    let p = and_parts (is_ascii_lowercase b && list_all is_name_byte bytes) (nat_le (length (b ∷ bytes)) 16) h in
    bytes_are_ascii bytes (and_parts (is_ascii_lowercase b) (list_all is_name_byte bytes) p.0).1 i

pub name_is_text : (name : List ℕ) → is_name name ≡ true → IsUtf8 name
name_is_text name h = IsUtf8-from_ascii name (name_is_ascii name h)
