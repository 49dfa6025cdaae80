use Rattle.std.proofs.Common.{◌&&◌, FitsSigned, w32, sym, ap, ◌∙◌}
use Rattle.std.specs.List.{list_all}
use Rattle.std.proofs.lemmas.Bool.{and_left}
use Rattle.std.proofs.lemmas.Int.{to_z-of_z}
use Rattle.be_state.specs.Stacks.{clip_has}
use Rattle.be_state.proofs.StackLemmas.{allows_is, viewed}
use Rattle.be_state.proofs.stack.StateStack.allows.Goals as goal

pub returns-then-allows : goal.returns-then-allows
returns-then-allows c =
    let x : FitsSigned w32 c.args.x = c.ranges.x in
    let y : FitsSigned w32 c.args.y = c.ranges.y in
    let first = simp to_z-of_z at c.allows.ensures in
    let others = simp to_z-of_z at c.all_allow.ensures in
    let all = allows_is c.args.self.now c.self.inside.top c.deref.result.now c.args.x c.args.y (viewed c.args.self.now c.self.inside.top c.deref.result.now c.self.inside.saved.items c.deref.ensures.value c.self.view_is) in
    others ∙ ap (λ t. t && list_all (λ l. clip_has l.clip c.args.x c.args.y) c.deref.result.now) (sym c.if-allows.true ∙ first) ∙ all

pub returns-else-allows : goal.returns-else-allows
returns-else-allows c =
    let x : FitsSigned w32 c.args.x = c.ranges.x in
    let y : FitsSigned w32 c.args.y = c.ranges.y in
    let first = simp to_z-of_z at c.allows.ensures in
    c.if-allows.false ∙ sym (and_left (clip_has c.self.inside.top.clip c.args.x c.args.y) (list_all (λ l. clip_has l.clip c.args.x c.args.y) c.self.inside.saved.items) (sym first ∙ c.if-allows.false)) ∙ allows_is c.args.self.now c.self.inside.top c.self.inside.saved.items c.args.x c.args.y c.self.view_is
