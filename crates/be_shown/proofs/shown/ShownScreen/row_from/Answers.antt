use Rattle.std.proofs.Common.{◌≤◌, ◌+◌, sym, ap, ◌∙◌, subst}
use Rattle.be_script.specs.Script.{declared_by}
use Rattle.be_shown.specs.Standing.{IsTold}
use Rattle.be_shown.proofs.Told.{part_within, part_cells, desktop_cells}
use Rattle.be_shown.proofs.shown.ShownScreen.row_from.Goals as goal

pub returns-in-Owned-clause-within : goal.returns-in-Owned-clause-within
returns-in-Owned-clause-within c =
    part_within (declared_by c.self.inside.script.now) c.self.inside.parts.now c.self.inside.desktop.items c.self.invariant c.args.self.now (sym c.self.view_is) c.in-Owned.ensures.place c.in-Owned.part.now c.args.column c.args.row c.cells_from.result.now c.in-Owned.ensures.there c.requires.column c.cells_from.ensures.cells

pub returns-in-Owned-clause-cells : goal.returns-in-Owned-clause-cells
returns-in-Owned-clause-cells c =
    part_cells (declared_by c.self.inside.script.now) c.self.inside.parts.now c.self.inside.desktop.items c.self.invariant c.args.self.now (sym c.self.view_is) c.in-Owned.ensures.place c.in-Owned.part.now c.args.column c.args.row c.cells_from.result.now c.in-Owned.ensures.there c.cells_from.ensures.cells

pub returns-in-Desktop-clause-cells : goal.returns-in-Desktop-clause-cells
returns-in-Desktop-clause-cells c =
    let d = declared_by c.self.inside.script.now in
    let told : IsTold d c.self.inside.parts.now c.deref.result.now = record { sound = c.self.invariant.sound; desktop_is = c.deref.ensures.value ∙ c.self.invariant.desktop_is } in
    let few : c.args.column + c.in-Desktop.count ≤ c.args.self.now.across = subst (λ n. c.args.column + c.in-Desktop.count ≤ n) (ap (λ v. v.across) c.self.view_is) c.in-Desktop.ensures.within in
    desktop_cells d c.self.inside.parts.now c.deref.result.now told c.args.self.now (sym c.self.view_is) c.args.column c.args.row c.in-Desktop.count c.requires.row few (λ k part lt. c.in-Desktop.ensures.none k part)
