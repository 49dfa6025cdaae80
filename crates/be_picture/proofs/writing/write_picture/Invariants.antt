use Rattle.std.proofs.Common.{◌≡◌, [], ◌∷◌, ◌++◌, drop, flat_map}
use Rattle.be_command.specs.Spelling.{spelling}
use Rattle.be_picture.proofs.writing.write_picture.Given as goal

-- with the lines of the commands that are left it is all of the text
abbrev pub invariant-loop-command : goal.invariant-loop-command
invariant-loop-command l =
    l.text.items ++ flat_map (λ c. spelling l.names c ++ 10 ∷ []) (drop l.command-index l.command-items)
    ≡ flat_map (λ c. spelling l.names c ++ 10 ∷ []) l.command-items
