-- The laws of reading and writing.
use Rattle.std.proofs.Common.{◌≡◌, ℕ, refl, List, Option, Some, None, Ok, ap, ◌∙◌, sym}
use Rattle.std.specs.Option.{option_and_then}
use Rattle.be_command.specs.declared.Command.{Command}
use Rattle.be_command.specs.declared.first_word.FirstWord.{FirstWord}
use Rattle.be_command.specs.Names.{Known}
use Rattle.be_command.specs.Faults.{both}
use Rattle.be_command.specs.Places.{At, word_at, after_word, ended}
use Rattle.be_command.specs.Kinds.{SaidAll, said_all, after_all}
use Rattle.be_command.specs.Forms.{form_of, first_word_of}
use Rattle.be_command.specs.Reading.{read_after, line_start, command_of}
use Rattle.be_command.specs.Spelling.{spelling}
use Rattle.be_command.specs.Laws.{AreKnown, IsSpoken, IsCanonical}
use Rattle.be_command.proofs.FaultLemmas.{ok-both, ok-said_as}
use Rattle.be_command.proofs.LinesBack.{line_back}
use Rattle.be_command.proofs.Spelt.{spelt}
use Rattle.be_command.proofs.WithinLemmas.{all_within}

-- what is written is read
pub command_of-spelling : (known : Known) (c : Command) → AreKnown known → IsSpoken known c → command_of known (spelling known c) ≡ Ok c
command_of-spelling known c k s =
    ap (λ (d : Command). command_of known (spelling known d)) (sym s.made)
    ∙ ap (λ (line : List ℕ). command_of known line) (spelt known s.word s.said)
    ∙ line_back known k s.word s.said s.within
    ∙ ap Ok s.made

-- what is read can be written
read_after_spoken : (known : Known) (word : Option FirstWord) (at : At) (c : Command) → read_after known word at ≡ Ok c → IsSpoken known c
read_after_spoken known None at c e = (cc)
read_after_spoken known (Some word) at c e =
    let form = form_of word in
    let x = ok-said_as (λ (x : SaidAll form.kinds × Unit {0}). form.makes x.0) (both (said_all known form.kinds at) (ended (after_all form.kinds at))) c e in
    let parts = ok-both (said_all known form.kinds at) (ended (after_all form.kinds at)) x.0 x.1.0 in
    record { word = word; said = x.0.0; within = all_within known form.kinds at x.0.0 parts.0; made = x.1.1 }

pub spoken-command_of : (known : Known) (line : List ℕ) (c : Command) → command_of known line ≡ Ok c → IsSpoken known c
unfolding command_of
spoken-command_of known line c e = read_after_spoken known (option_and_then first_word_of (word_at (line_start line))) (after_word (line_start line)) c e

-- a line that was read is written as a line that is written as itself
pub spelling_is_canonical : (known : Known) (line : List ℕ) (c : Command) → AreKnown known → command_of known line ≡ Ok c → IsCanonical known (spelling known c)
spelling_is_canonical known line c k e = record { command = c; read = command_of-spelling known c k (spoken-command_of known line c e); written = refl }

-- commands with one spelling are one
pub same_spelling : (known : Known) (c d : Command) → AreKnown known → IsSpoken known c → IsSpoken known d → spelling known c ≡ spelling known d → c ≡ d
same_spelling known c d k sc sd e =
    let first = command_of-spelling known c k sc in
    let second = command_of-spelling known d k sd in
    let same : Ok c ≡ Ok d = sym first ∙ ap (λ (line : List ℕ). command_of known line) e ∙ second in
    (cc)
