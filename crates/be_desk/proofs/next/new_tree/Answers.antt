use Rattle.std.proofs.Common.{SFits, w16, rules, sym, ap, ◌∙◌}
use Rattle.std.proofs.lemmas.Int.{to_z-of_z}
use Rattle.be_stack.specs.Limits.{is_within_limits}
use Rattle.be_desk.proofs.SizeLemmas.{sized}
use Rattle.be_desk.proofs.next.new_tree.Goals as goal

pub resized-requires-clause-across : goal.resized-requires-clause-across
resized-requires-clause-across c =
    let x : SFits w16 c.in-ResizeTo.width = search rules in
    simp to_z-of_z (sized c.in-ResizeTo.width c.in-ResizeTo.height (ap is_within_limits (sym c.in-ResizeTo.is) ∙ c.requires.within_limits)).0

pub resized-requires-clause-down : goal.resized-requires-clause-down
resized-requires-clause-down c =
    let x : SFits w16 c.in-ResizeTo.height = search rules in
    simp to_z-of_z (sized c.in-ResizeTo.width c.in-ResizeTo.height (ap is_within_limits (sym c.in-ResizeTo.is) ∙ c.requires.within_limits)).1
