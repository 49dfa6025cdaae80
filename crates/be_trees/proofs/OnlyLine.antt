-- A text that is read as a tree is the line of its archive.
use Rattle.std.proofs.Common.{◌≡◌, ℕ, ◌/◌, Bool, true, false, cond, List, [], ◌∷◌, ◌++◌, length}
use Rattle.std.proofs.Common.{Option, Some, None, Result, Ok, Err, sym, ap, subst, ◌∙◌}
use Rattle.std.specs.Prelude.{nat_lt, option_and_then}
use Rattle.std.specs.Result.{result_ok, result_unwrap_or}
use Rattle.std.proofs.lemmas.Option.{same_Some}
use Rattle.be_facts.proofs.Lists.{some_inner}
use Rattle.be_archive.specs.Reading.{tree_in}
use Rattle.be_archive.proofs.Only.{only_its_archive}
use Rattle.be_command.specs.declared.fault.Reason.TheVariants.{TooLong}
use Rattle.be_flat.specs.Grammar.{Spells}
use Rattle.be_flat.specs.Reading.{reading}
use Rattle.be_flat.proofs.Found.{is_spelt}
use Rattle.be_lex.specs.Lines.{lines_of}
use Rattle.be_lex.proofs.HexSpelling.{hex_text-hex_bytes}
use Rattle.be_message.specs.Messages.{Message}
use Rattle.be_reader.specs.Grammar.{Fault, fault}
use Rattle.be_views.specs.Trees.{Tree}
use Rattle.be_written.specs.Lines.{line_of}
use Rattle.be_trees.specs.ArchiveLine.{IsArchiveLine}
use Rattle.be_trees.specs.Laws.{OnlyItsLine}
use Rattle.be_trees.specs.Reading.{bytes_in, one_line, or_shape, tree_of_bytes, tree_of_line}
use Rattle.be_trees.specs.Reading.{tree_of_text}
use Rattle.be_trees.proofs.OneLine.{only_line}

ok_of : {X E : Type 0} (r : Result X E) (x : X) → result_ok r ≡ Some x → r ≡ Ok x
ok_of (Ok y) x e = ap Ok (same_Some y x e)
ok_of (Err why) x e = absurd cc

some_of : (b : Bool) (o : Option Tree) (tree : Tree)
    → cond b (fault 0 TooLong) (or_shape o) ≡ Ok tree → o ≡ Some tree
some_of true o tree e = absurd cc
some_of false (Some read) tree e =
    ap Some (ap (λ (r : Result Tree Fault). result_unwrap_or r read) e)
some_of false None tree e = absurd cc

is_its_line : (tree : Tree) (text : List ℕ) → tree_of_text text ≡ Some tree → IsArchiveLine tree text
unfolding line_of
is_its_line tree text e =
    let line = one_line (lines_of text) in
    let bytes = some_inner tree_of_bytes (option_and_then bytes_in line) tree e in
    let digits = some_inner bytes_in line bytes.0 bytes.1 in
    let message =
    some_inner (λ (m : Message). result_ok (tree_in m)) (result_ok (reading bytes.0)) tree bytes.2 in
    let written = hex_text-hex_bytes (length digits.0 / 2) digits.0 bytes.0 digits.2 in
    let spelt : Spells bytes.0 message.0 =
    is_spelt bytes.0 message.0 written.1 (ok_of (reading bytes.0) message.0 message.1) in
    let archive = only_its_archive message.0 tree (ok_of (tree_in message.0) tree message.2) in
    record {
      bytes = bytes.0;
      spelt = subst (λ (m : Message). Spells bytes.0 m) archive spelt;
      digits = only_line text digits.0 digits.1 ∙ ap (λ (l : List ℕ). l ++ 10 ∷ []) (sym written.2);
    }

pub only_its_line : OnlyItsLine
unfolding tree_of_line
only_its_line tree text e =
    is_its_line tree text (some_of (nat_lt 1048576 (length text)) (tree_of_text text) tree e)
