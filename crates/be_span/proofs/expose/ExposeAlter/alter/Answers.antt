-- All cells exposed.
use Rattle.std.proofs.Common.{arith, ap, ◌∙◌, length, count_by, slice_get}
use Rattle.std.proofs.lemmas.List.{length-map}
use Rattle.std.proofs.lemmas.Option.{slice_get-map}
use Rattle.be_span.specs.declared.Cell.{Cell}
use Rattle.be_span.specs.Cells.{exposed_cell}
use Rattle.be_span.proofs.ExposeLemmas.{all_marked}
use Rattle.be_span.proofs.expose.ExposeAlter.alter.Goals as goal

pub returns-clause-cells : goal.returns-clause-cells
returns-clause-cells c k =
    ap (λ l. slice_get l k) c.expose_all.ensures
    ∙ slice_get-map (exposed_cell c.args.self.now.color) c.args.cells.now k

pub returns-clause-counted : goal.returns-clause-counted
returns-clause-counted c =
    let made = ap (count_by (λ (x : Cell). x.dirty)) c.expose_all.ensures ∙ all_marked c.args.self.now.color c.args.cells.now in
    let long = ap length c.expose_all.ensures ∙ length-map c.args.cells.now (exposed_cell c.args.self.now.color) in
    let lost = c.dirty_of-lost.ensures in
    let among = c.requires.among in
    omega arith
