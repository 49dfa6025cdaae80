use Rattle.std.proofs.Common.{◌∙◌, sym}
use Rattle.be_stack.proofs.VisibleLemmas.{unlisted_owns_none, hidden_owns_none, owns_its_part}
use Rattle.be_stack.proofs.stack.Stack.visible.Goals as goal

pub returns-in_default : goal.returns-in_default
returns-in_default c =
    λ x y. c.empty.ensures x y ∙ rw (← c.self.view_is) (sym (unlisted_owns_none _ c.args.w (rw c.deref.ensures.value at c.in_default.ensures) x y))

pub returns-in_default-shown_frame : goal.returns-in_default-shown_frame
returns-in_default-shown_frame c =
    λ x y. c.empty-in_default-shown_frame.ensures x y ∙ rw (← c.self.view_is) (sym (hidden_owns_none _ c.args.w (rw c.deref-2.ensures.value at c.in_default-shown_frame.ensures) x y))

pub returns : goal.returns
returns c =
    rw (← c.self.view_is) (owns_its_part _ c.args.w c.in-Some.place c.in-Some-shown_frame.frame c.on_screen.result c.in_ok-region.region c.uncover.new.region (rw c.deref.ensures.value at c.in-Some.ensures) (rw c.deref-2.ensures.value at c.in-Some-shown_frame.ensures) c.on_screen.ensures c.in_ok-region.ensures (rw (c.deref-3.ensures.value, c.deref-4.ensures.value) at c.in_ok-uncover.ensures))
