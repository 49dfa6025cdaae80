use Rattle.std.proofs.Common.{◌≡◌, [], List, Option, Some, length, map}
use Rattle.std.specs.Prelude.{fold}
use Rattle.be_actor.specs.Drafts.{Word}
use Rattle.be_lex.specs.Words.{words_of}
use Rattle.be_line.specs.Fields.{field_of}
use Rattle.be_line.specs.Standing.{IsGiven}
use Rattle.be_line.specs.Words.{next}
use Rattle.be_line.proofs.fields.read_fields.Given as goal

abbrev pub invariant-loop-word : goal.invariant-loop-word
invariant-loop-word l =
    (state : Option (List Word)) × IsGiven state l.given
    × (fold next state (map (field_of l.has_message) (words_of l.words)) ≡ fold next (Some []) (map (field_of l.has_message) (words_of l.initial.words)))

abbrev pub decreases-loop-word : goal.decreases-loop-word
decreases-loop-word l = length l.words
