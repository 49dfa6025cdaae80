use Rattle.std.proofs.Common.{SFits, w16, rules, sym, ap, ◌∙◌}
use Rattle.std.proofs.lemmas.Int.{to_z-of_z}
use Rattle.be_stack.specs.Limits.{is_within_limits}
use Rattle.be_desk.proofs.SizeLemmas.{sized}
use Rattle.be_desk.proofs.carrying.follow.Goals as goal

pub resize-refused-requires-clause-across : goal.resize-refused-requires-clause-across
resize-refused-requires-clause-across c =
    let x : SFits w16 c.in-ResizeTo.width = search rules in
    simp to_z-of_z (sized c.in-ResizeTo.width c.in-ResizeTo.height (ap is_within_limits (sym c.in-ResizeTo.is) ∙ c.requires)).0

pub resize-refused-requires-clause-down : goal.resize-refused-requires-clause-down
resize-refused-requires-clause-down c =
    let x : SFits w16 c.in-ResizeTo.height = search rules in
    simp to_z-of_z (sized c.in-ResizeTo.width c.in-ResizeTo.height (ap is_within_limits (sym c.in-ResizeTo.is) ∙ c.requires)).1
