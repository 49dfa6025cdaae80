use Rattle.std.proofs.Common.{List, arith, sym, subst}
use Rattle.be_pane.specs.declared.pane.Pane.{Pane}
use Rattle.be_desk.specs.Desks.{desk_of}
use Rattle.desk_screen.specs.Screens.{IsScreen}
use Rattle.desk_screen.proofs.ScreenLemmas.{written_back}
use Rattle.desk_screen.proofs.screen.Screen.clear_marks.Goals as goal

pub invariant_of-self : goal.invariant_of-self
invariant_of-self c =
    let desk = desk_of c.self.inside.desk in
    let panes = c.self.inside.panes.items in
    let before = subst (λ (l : List Pane). IsScreen desk l) (sym c.deref_mut.ensures.value) c.self.invariant in
    written_back desk panes c.clear_all.new.panes c.self.inside.panes.len c.self.invariant (omega (arith, c.self.inside.panes.ok.0)) (c.clear_all.ensures desk before)
