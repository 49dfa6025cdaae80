use Rattle.std.proofs.Common.{◌≡◌, drop, map}
use Rattle.std.specs.List.{list_any}
use Rattle.std.specs.Str.{bytes_eq}
use Rattle.be_said.proofs.said.has_bitmap.Given as goal

abbrev pub invariant-loop-line : goal.invariant-loop-line
invariant-loop-line l =
    list_any (λ line. bytes_eq line.name l.word) (drop l.line-index l.lines) ≡ list_any (λ other. bytes_eq other l.word) (map (λ line. line.name) l.lines)
