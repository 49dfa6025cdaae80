use Rattle.std.proofs.Common.{◌≡◌, ◌+◌, drop}
use Rattle.std.specs.List.{position_from}
use Rattle.std.specs.Str.{bytes_eq}
use Rattle.be_command.proofs.name.NameList.number.Given as goal

abbrev pub invariant-loop-place : goal.invariant-loop-place
invariant-loop-place l =
    position_from (λ other. bytes_eq other l.name) (l.first + l.place) (drop l.place l.other-items) ≡ position_from (λ other. bytes_eq other l.name) l.first l.other-items
