use Rattle.std.proofs.Common.{◌≡◌, ◌++◌, map, take, drop}
use Rattle.be_said.specs.Everywhere.{with_bitmap}
use Rattle.be_said.proofs.said.everywhere.add_bitmap.Given as goal

abbrev pub invariant-loop-inside : goal.invariant-loop-inside
invariant-loop-inside l = l.insides ≡ map (with_bitmap l.name) (take l.inside-index l.initial.insides) ++ drop l.inside-index l.initial.insides
