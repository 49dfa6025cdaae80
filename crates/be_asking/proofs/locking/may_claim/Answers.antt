use Rattle.std.proofs.Common.{sym, subst}
use Rattle.be_hall.specs.Hands.{meant}
use Rattle.be_machine.specs.declared.Act.TheVariants as act
use Rattle.be_parts.specs.Parts.{meaning_of}
use Rattle.be_script.specs.Script.{declared_by}
use Rattle.be_asking.specs.Deeds.{MayAct}
use Rattle.be_asking.proofs.LocksAnswered.{claim_waits, claims_it, needs_cell, reach_cell}
use Rattle.be_asking.proofs.locking.may_claim.Goals as goal

pub find_cell-requires : goal.find_cell-requires
find_cell-requires c = reach_cell (declared_by c.args.script.now) c.args.held.now.parts c.args.number c.args.m c.requires

pub returns-in-Err : goal.returns-in-Err
returns-in-Err c = needs_cell (declared_by c.args.script.now) c.args.held.now.parts c.args.number c.args.m c.requires c.in-Err.place c.in-Err.ensures.missing

pub returns-in-None : goal.returns-in-None
returns-in-None c =
    claim_waits (declared_by c.args.script.now) c.args.held.now.parts c.args.number c.args.m c.requires c.in-Ok.cell.now c.in-Ok.ensures.there c.cell.result.now c.cell.ensures (sym c.in-None.ensures)

pub returns-in-Some : goal.returns-in-Some
returns-in-Some c =
    subst (λ n. MayAct (declared_by c.args.script.now) (meant meaning_of c.args.held.now.parts) c.args.number (act.Claim n)) (sym c.answered_by.ensures)
    (claims_it (declared_by c.args.script.now) c.args.held.now.parts c.args.number c.args.m c.requires c.in-Ok.cell.now c.in-Ok.ensures.there c.cell.result.now c.cell.ensures c.in-Some.reply.now
    (sym c.in-Some.ensures))
