-- What bytes are read as a tree.
use Rattle.std.proofs.Common.{◌≡◌, ℕ, List, Option, Some, None, Result, Ok, refl, sym, ap, ◌∙◌}
use Rattle.std.specs.Prelude.{option_and_then}
use Rattle.std.specs.Result.{result_ok}
use Rattle.be_archive.specs.declared.fault.ArchiveFault.{ArchiveFault}
use Rattle.be_archive.specs.declared.fault.ArchiveFault.TheVariants as archive
use Rattle.be_archive.specs.Faults.{IsFault}
use Rattle.be_archive.specs.Reading.{Refusal, tree_in}
use Rattle.be_flat.specs.declared.fault.FlatError.{FlatError}
use Rattle.be_flat.specs.declared.fault.FlatError.TheVariants as flat
use Rattle.be_flat.specs.Reading.{FailsAs, reading}
use Rattle.be_message.specs.Messages.{Message}
use Rattle.be_views.specs.Trees.{Tree}
use Rattle.be_trees.specs.Reading.{tree_of_bytes}

no_message : (why : FlatError) (read : Result Message FlatError) → (why ≡ flat.NoMemory → ⊥)
    → FailsAs why read → result_ok read ≡ None
no_message flat.NoMemory read other h = absurd (other refl)
no_message (flat.Truncated at) read other h = ap result_ok h
no_message (flat.BadByte at) read other h = ap result_ok h
no_message (flat.Extra at) read other h = ap result_ok h

no_tree : (why : ArchiveFault) (read : Result Tree Refusal) → (why ≡ archive.NoMemory → ⊥)
    → IsFault why read → result_ok read ≡ None
no_tree archive.NoMemory read other h = absurd (other refl)
no_tree archive.NotArchive read other h = ap result_ok h
no_tree archive.BadSize read other h = ap result_ok h
no_tree archive.TooMany read other h = ap result_ok h
no_tree (archive.BadView view) read other h = ap result_ok h

of_message : (bytes : List ℕ) (o : Option Message) → result_ok (reading bytes) ≡ o
    → tree_of_bytes bytes ≡ option_and_then (λ m. result_ok (tree_in m)) o
of_message bytes o e = ap (option_and_then (λ (m : Message). result_ok (tree_in m))) e

pub tree_read : (bytes : List ℕ) (message : Message) (tree : Tree) → reading bytes ≡ Ok message
    → tree_in message ≡ Ok tree → Some tree ≡ tree_of_bytes bytes
tree_read bytes message tree e f =
    sym (of_message bytes (Some message) (ap result_ok e) ∙ ap result_ok f)

pub none_read : (bytes : List ℕ) (why : FlatError) → (why ≡ flat.NoMemory → ⊥)
    → FailsAs why (reading bytes) → None ≡ tree_of_bytes bytes
none_read bytes why other h = sym (of_message bytes None (no_message why (reading bytes) other h))
