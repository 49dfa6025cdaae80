-- The line of an archive, as it is put together.
use Rattle.std.proofs.Common.{◌≡◌, ℕ, List, [], ◌∷◌, ◌++◌, codes, Option, Some, None, refl, ap, subst}
use Rattle.std.proofs.Common.{◌∙◌}
use Rattle.be_archive.specs.Archives.{archived}
use Rattle.be_flat.specs.Grammar.{Spells}
use Rattle.be_lex.specs.Hex.{hex_text}
use Rattle.be_message.specs.Messages.{Message}
use Rattle.be_views.specs.Trees.{Tree}
use Rattle.be_written.specs.Lines.{line_of}
use Rattle.be_trees.specs.ArchiveLine.{IsTreeLine}

pub tree_line : (due : Option Tree) (tree : Tree) (message : Message) (bytes digits line : List ℕ)
    → Some tree ≡ due → message ≡ archived tree → Spells bytes message → digits ≡ hex_text bytes
    → line ≡ digits ++ 10 ∷ [] → IsTreeLine due line
unfolding line_of
tree_line due tree message bytes digits line found is spelt written ended =
    subst (λ (o : Option Tree). IsTreeLine o line) found (record {
      bytes = bytes;
      spelt = subst (λ (m : Message). Spells bytes m) is spelt;
      digits = ended ∙ ap (λ (text : List ℕ). text ++ 10 ∷ []) written;
    })

pub no_some : {X : Type 0} (o : Option X) → ((x : X) → o ≡ Some x → ⊥) → None ≡ o
no_some None never = refl
no_some (Some x) never = absurd (never x refl)

pub none_line : (due : Option Tree) (line : List ℕ) → None ≡ due → line ≡ codes "none" ++ 10 ∷ []
    → IsTreeLine due line
unfolding line_of
none_line due line missing is = subst (λ (o : Option Tree). IsTreeLine o line) missing is
