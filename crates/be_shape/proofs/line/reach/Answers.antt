use Rattle.std.proofs.Common.{pos, ◌-◌, ◌/◌, ◌+ℤ◌, ◌-ℤ◌, ◌∙◌, arith}
use Rattle.std.proofs.lemmas.Int.{ints}
use Rattle.be_shape.proofs.BetweenLemmas.{same_ends}
use Rattle.be_shape.proofs.WayLemmas.{covers_up, covers_down, same_order}
use Rattle.be_shape.proofs.line.reach.Goals as goal

pub returns-then-from-to-clause-in_order : goal.returns-then-from-to-clause-in_order
returns-then-from-to-clause-in_order c =
    let way = c.args.z -ℤ c.args.from in
    let size = c.args.pen in
    same_order _ (way -ℤ pos (size - 1 - (size - 1) / 2)) _ (way +ℤ pos ((size - 1) / 2)) (omega (arith, ints)) (omega (arith, ints)) (omega (arith, ints))

pub returns-then-from-to-clause-covers : goal.returns-then-from-to-clause-covers
returns-then-from-to-clause-covers c t k =
    covers_up c.args.pen c.args.from c.args.to c.args.z t (omega (arith, ints)) k ∙ same_ends _ _ _ _ _ (omega (arith, ints)) (omega (arith, ints))

pub returns-else-from-to-clause-in_order : goal.returns-else-from-to-clause-in_order
returns-else-from-to-clause-in_order c =
    let way = c.args.from -ℤ c.args.z in
    let size = c.args.pen in
    same_order _ (way -ℤ pos ((size - 1) / 2)) _ (way +ℤ pos (size - 1 - (size - 1) / 2)) (omega (arith, ints)) (omega (arith, ints)) (omega (arith, ints))

pub returns-else-from-to-clause-covers : goal.returns-else-from-to-clause-covers
returns-else-from-to-clause-covers c t k =
    covers_down c.args.pen c.args.from c.args.to c.args.z t (omega (arith, ints)) ∙ same_ends _ _ _ _ _ (omega (arith, ints)) (omega (arith, ints))
