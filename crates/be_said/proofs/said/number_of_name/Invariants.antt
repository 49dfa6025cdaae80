use Rattle.std.proofs.Common.{◌≡◌, drop}
use Rattle.std.specs.List.{position_from}
use Rattle.std.specs.Str.{bytes_eq}
use Rattle.be_said.proofs.said.number_of_name.Given as goal

abbrev pub invariant-loop-place : goal.invariant-loop-place
invariant-loop-place l =
    position_from (λ name. bytes_eq name l.word) l.place (drop l.place l.names) ≡ position_from (λ name. bytes_eq name l.word) 0 l.names
