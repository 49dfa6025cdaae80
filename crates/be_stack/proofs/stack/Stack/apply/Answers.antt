use Rattle.std.proofs.Common.{rules, sym}
use Rattle.be_stack.specs.Changes.{windows_after}
use Rattle.be_stack.proofs.ReadLemmas.{window_read, change_read}
use Rattle.be_stack.proofs.stack.Stack.apply.Goals as goal

pub returns-then-is_gone-clause-changed : goal.returns-then-is_gone-clause-changed
unfolding windows_after
returns-then-is_gone-clause-changed c = search rules

pub change-requires-clause-there : goal.change-requires-clause-there
change-requires-clause-there c =
    rw (← c.self.view_is) (window_read c.self.inside.windows.items c.index-window.result.now c.from.result c.args.w c.from.ensures (rw (← c.self.view_is) at c.requires.there) c.index-window.ensures)

pub returns-clause-changed : goal.returns-clause-changed
returns-clause-changed c =
    rw (change_read c.args.self.now c.args.w c.index-window.result.now c.args.change.now (sym c.if-is_gone.ensures) (rw (← c.self.view_is) (window_read c.self.inside.windows.items c.index-window.result.now c.from.result c.args.w c.from.ensures (rw (← c.self.view_is) at c.requires.there) c.index-window.ensures))) c.change.ensures.changed
