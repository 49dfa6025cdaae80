use Rattle.std.proofs.Common.{arith}
use Rattle.std.proofs.lemmas.Int.{ints, to_z-of_z}
use Rattle.be_stack.proofs.VisibleLemmas.{cut}
use Rattle.be_stack.proofs.visible.on_screen.Goals as goal

pub returns : goal.returns
returns c =
    cut c.args.frame _ c.args.width c.args.height (λ z. grind (arith, ints, to_z-of_z, c.first_on_screen.ensures z)) (λ z. grind (arith, ints, to_z-of_z, c.first_on_screen-2.ensures z)) (λ z. grind (arith, ints, to_z-of_z, c.last_on_screen.ensures z)) (λ z. grind (arith, ints, to_z-of_z, c.last_on_screen-2.ensures z))
