use Rattle.be_script.specs.Script.{declared_by}
use Rattle.be_steps.proofs.Gone.{own_there}
use Rattle.be_steps.proofs.OwnWindow.{has_window, own_found}
use Rattle.be_steps.proofs.own_window.own_window.Goals as goal

pub owned_window-requires : goal.owned_window-requires
owned_window-requires c = (own_there (declared_by c.args.script.now) c.args.held.now.parts c.args.runner c.args.request c.requires.allowed).reachable

pub unwrap-requires : goal.unwrap-requires
unwrap-requires c = has_window (declared_by c.args.script.now) c.args.held.now.parts c.args.runner c.args.request c.requires.allowed c.requires.own c.in-Ok.owned c.in-Ok.ensures.owns

pub unreachable-requires : goal.unreachable-requires
unreachable-requires c = own_found (declared_by c.args.script.now) c.args.held.now.parts c.args.runner c.args.request c.requires.allowed c.in-Err.field-0 c.in-Err.ensures.missing
