-- The line of a tree's archive is read as that tree.
use Rattle.std.proofs.Common.{◌≡◌, ℕ, ◌/◌, ◌≤◌, Bool, false, cond, List, [], ◌∷◌}
use Rattle.std.proofs.Common.{length, Option, Some, Ok, refl, ap, ◌∙◌, arith}
use Rattle.std.specs.Prelude.{nat_lt, option_and_then}
use Rattle.std.specs.Result.{result_ok}
use Rattle.std.proofs.lemmas.Bool.Decides.{nat_tests}
use Rattle.std.proofs.lemmas.List.{length-append}
use Rattle.be_archive.specs.Archives.{archived}
use Rattle.be_archive.specs.Laws.{IsWindowTree}
use Rattle.be_archive.specs.Reading.{tree_in}
use Rattle.be_archive.proofs.Back.{comes_back}
use Rattle.be_command.specs.declared.fault.Reason.TheVariants.{TooLong}
use Rattle.be_flat.specs.Reading.{reading}
use Rattle.be_flat.proofs.Again.{is_read}
use Rattle.be_lex.specs.Hex.{hex_text}
use Rattle.be_lex.specs.Lines.{lines_of}
use Rattle.be_lex.proofs.HexSpelling.{hex_bytes-hex_text, hex_text_digits, length-hex_text}
use Rattle.be_message.specs.Messages.{Message}
use Rattle.be_reader.specs.Grammar.{fault}
use Rattle.be_views.specs.Trees.{Tree}
use Rattle.be_written.specs.Lines.{line_of}
use Rattle.be_trees.specs.ArchiveLine.{IsArchiveLine}
use Rattle.be_trees.specs.Laws.{ComesBack}
use Rattle.be_trees.specs.Reading.{bytes_in, one_line, or_shape, tree_of_bytes, tree_of_line}
use Rattle.be_trees.specs.Reading.{tree_of_text}
use Rattle.be_trees.proofs.FewBytes.{archive_few}
use Rattle.be_trees.proofs.OneLine.{line_of_digits}

short_enough : (n : ℕ) → n ≤ 20791 → nat_lt 1048576 n ≡ false
short_enough n le = grind (arith, nat_tests)

unless_long : (b : Bool) (o : Option Tree) (tree : Tree) → b ≡ false → o ≡ Some tree
    → cond b (fault 0 TooLong) (or_shape o) ≡ Ok tree
unless_long b o tree short is = rw (short, is) refl

is_read_back : (tree : Tree) (text : List ℕ) → IsWindowTree tree → IsArchiveLine tree text
    → tree_of_text text ≡ Some tree
unfolding line_of
is_read_back tree text window line =
    let bytes = line.bytes in
    let digits = hex_text bytes in
    let few = archive_few tree bytes line.spelt in
    let twice = length-hex_text bytes in
    let one : one_line (lines_of text) ≡ Some digits =
    ap (λ (l : List ℕ). one_line (lines_of l)) line.digits
    ∙ line_of_digits digits (hex_text_digits bytes few.fit) in
    let written : bytes_in digits ≡ Some bytes =
    hex_bytes-hex_text (length digits / 2) bytes (omega arith) few.fit in
    let spelt : result_ok (reading bytes) ≡ Some (archived tree) =
    ap result_ok (is_read bytes (archived tree) line.spelt) in
    let whole : result_ok (tree_in (archived tree)) ≡ Some tree =
    ap result_ok (comes_back tree window) in
    ap (λ (o : Option (List ℕ)). option_and_then tree_of_bytes (option_and_then bytes_in o)) one
    ∙ ap (option_and_then tree_of_bytes) written
    ∙ ap (option_and_then (λ (m : Message). result_ok (tree_in m))) spelt
    ∙ whole

line_short : (tree : Tree) (text : List ℕ) → IsArchiveLine tree text → length text ≤ 20791
unfolding line_of
line_short tree text line =
    let few = (archive_few tree line.bytes line.spelt).few in
    let twice = length-hex_text line.bytes in
    let long = ap (λ (l : List ℕ). length l) line.digits in
    let more = length-append (hex_text line.bytes) (10 ∷ []) in
    omega arith

pub line_comes_back : ComesBack
unfolding tree_of_line
line_comes_back tree text window line =
    unless_long (nat_lt 1048576 (length text)) (tree_of_text text) tree
    (short_enough (length text) (line_short tree text line)) (is_read_back tree text window line)
