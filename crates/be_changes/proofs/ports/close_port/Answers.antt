use Rattle.be_changes.proofs.PortClosed.{close_leads, close_port_is, close_there, port_closed}
use Rattle.be_changes.proofs.ports.close_port.Goals as goal
use Rattle.be_script.specs.Script.{declared_by}

pub left_at-closed-requires-clause-there : goal.left_at-closed-requires-clause-there
left_at-closed-requires-clause-there c =
    close_there (declared_by c.args.script.now) c.args.before.now.value.parts c.args.held.now c.args.who c.args.w c.args.change.now c.requires.ports c.in-Close.is c.port_place-port.result c.port_place-port.ensures

pub port_is_held-requires : goal.port_is_held-requires
port_is_held-requires c =
    close_port_is (declared_by c.args.script.now) c.args.before.now.value.parts c.args.held.now c.args.who c.args.w c.args.change.now c.requires.ports c.in-Close.is c.port_place-port.result c.port_place-port.ensures

pub close-requires : goal.close-requires
close-requires c =
    close_leads (declared_by c.args.script.now) c.args.before.now.value.parts c.args.held.now c.args.who c.args.w c.args.change.now c.requires.ports c.in-Close.is c.port_place-port.result c.port_place-port.ensures
    c.port_to_change.result.now c.left_at-closed.result.value c.port_to_change.ensures.value c.left_at-closed.ensures

pub returns-in-Close : goal.returns-in-Close
returns-in-Close c =
    port_closed (declared_by c.args.script.now) c.args.before.now.value.parts c.args.held.now c.args.who c.args.w c.args.change.now c.requires.ports c.in-Close.is c.port_place-port.result c.port_place-port.ensures
    c.port_to_change.result.now c.close.new.self c.left_at-closed.result.value c.port_to_change.ensures.value c.left_at-closed.ensures c.close.ensures.slice
