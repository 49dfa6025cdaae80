use Rattle.std.proofs.Common.{sym}
use Rattle.be_script.specs.Script.{declared_by}
use Rattle.be_asking.proofs.AllHeld.{cell_missing, ends_now, happens_now, reach_cell}
use Rattle.be_asking.proofs.having.has_event.Goals as goal

pub returns-in-None : goal.returns-in-None
returns-in-None c = happens_now (declared_by c.args.script.now) c.args.held.now.parts c.args.number c.args.line c.requires.asked c.in-None.ensures c.requires.all

pub has_ended-requires : goal.has_ended-requires
has_ended-requires c = reach_cell (declared_by c.args.script.now) c.args.held.now.parts c.args.number c.args.line c.requires.asked c.in-Some.app c.in-Some.ensures

pub returns-in-Ok : goal.returns-in-Ok
returns-in-Ok c = ends_now (declared_by c.args.script.now) c.args.held.now.parts c.args.number c.args.line c.requires.asked c.in-Some.app c.in-Some.ensures c.in-Ok.ended (λ all sound fits. sym (c.in-Ok.ensures.told all sound fits)) c.requires.all

pub returns-in-Err : goal.returns-in-Err
returns-in-Err c = absurd (cell_missing (declared_by c.args.script.now) c.args.held.now.parts c.args.number c.args.line c.requires.asked c.in-Some.app c.in-Some.ensures c.in-Err.field-0 c.in-Err.ensures.missing c.requires.all)
