use Rattle.std.proofs.Common.{Some, None, sym}
use Rattle.be_machine.specs.Touched as part
use Rattle.be_script.specs.Script.{declared_by}
use Rattle.be_steps.proofs.Owned.{not_missing}
use Rattle.be_noted.proofs.Claims.{cell_there, is_claimed}
use Rattle.be_noted.proofs.Makers.{claim_noted, no_claim_noted}
use Rattle.be_noted.proofs.claiming.note_claim.Goals as goal

pub find_cell-requires : goal.find_cell-requires
find_cell-requires c =
    (cell_there (declared_by c.args.script.now) c.args.held.now.parts c.args.m c.requires).reachable

pub unreachable-requires : goal.unreachable-requires
unreachable-requires c =
    let d = declared_by c.args.script.now in
    let parts = c.args.held.now.parts in
    not_missing d parts (part.cell c.args.m) c.in_default.field-0
    (cell_there d parts c.args.m c.requires) c.in_default.ensures.missing

pub returns-in_ok-text_of-in-Some : goal.returns-in_ok-text_of-in-Some
returns-in_ok-text_of-in-Some c =
    let d = declared_by c.args.script.now in
    let parts = c.args.held.now.parts in
    claim_noted d parts c.args.m c.in-Some.reply c.in_ok-text_of-in-Some.field-0.items
    c.in_ok-text_of-in-Some.ensures c.requires
    (is_claimed d parts c.args.m c.requires c.in-Ok.part.now c.in-Ok.ensures.there
    c.cell.result.now c.cell.ensures (Some c.in-Some.reply.now) (sym c.in-Some.ensures))

pub returns-in-None : goal.returns-in-None
returns-in-None c =
    let d = declared_by c.args.script.now in
    let parts = c.args.held.now.parts in
    no_claim_noted d parts c.args.m c.requires
    (is_claimed d parts c.args.m c.requires c.in-Ok.part.now c.in-Ok.ensures.there
    c.cell.result.now c.cell.ensures None (sym c.in-None.ensures))
