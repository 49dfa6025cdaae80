use Rattle.std.proofs.Common.{sym, ap, ◌∙◌}
use Rattle.std.specs.Prelude.{option_copied, if◌then◌else◌}
use Rattle.be_handler.specs.Routes.{route_of}
use Rattle.be_handler.specs.declared.Route.TheVariants.{Handler}
use Rattle.be_message.specs.declared.target.Target.TheVariants.{Window}
use Rattle.be_script.specs.Script.{declared_by}
use Rattle.be_ready.proofs.Fronts.{chain_is, chain_there, in_front, is_there, port_there, some_letter, spelled, window_there}
use Rattle.be_ready.proofs.front.message_in_front.Goals as goal

pub port_there-part-requires : goal.port_there-part-requires
port_there-part-requires c = port_there (declared_by c.args.script.now) c.args.held.now.parts c.args.w c.requires.allowed

pub unwrap-letter-requires : goal.unwrap-letter-requires
unwrap-letter-requires c =
    is_there c.front.result _ c.front.ensures
    (some_letter (declared_by c.args.script.now) c.args.held.now.parts c.args.w c.requires.allowed c.port_there-part.result.now c.port_there-part.ensures c.port.result.now c.port.ensures c.queues_are_ports.ensures.empty)

pub message_of-requires : goal.message_of-requires
message_of-requires c =
    spelled (declared_by c.args.script.now) c.args.held.now.parts c.args.w c.requires.allowed c.port_there-part.result.now c.port_there-part.ensures c.port.result.now c.port.ensures c.queues_are_ports.ensures.takes
    c.unwrap-letter.result.now (sym c.front.ensures ∙ ap option_copied c.unwrap-letter.ensures)

pub bounds-chains-w : goal.bounds-chains-w
bounds-chains-w c =
    chain_there (declared_by c.args.script.now) c.args.chains.now c.requires.chains c.args.w
    (window_there (declared_by c.args.script.now) c.args.held.now.parts c.args.w c.requires.allowed)

pub returns : goal.returns
returns c =
    in_front (declared_by c.args.script.now) c.args.held.now.parts c.args.w c.requires.allowed c.port_there-part.result.now c.port_there-part.ensures c.port.result.now c.port.ensures c.queues_are_ports.ensures.takes
    c.unwrap-letter.result.now (sym c.front.ensures ∙ ap option_copied c.unwrap-letter.ensures)
    c.in_ok-message.message c.what.result c.way_of-route.result c.in_ok-message.ensures c.what.ensures.what
    (c.way_of-route.ensures
    ∙ ap (λ chain. if c.unwrap-letter.result.now.notice then Handler Window else route_of chain c.what.result c.unwrap-letter.result.now.target)
    (chain_is (declared_by c.args.script.now) c.args.chains.now c.requires.chains c.args.w
    (window_there (declared_by c.args.script.now) c.args.held.now.parts c.args.w c.requires.allowed)
    c.index-chains-w.result c.index-chains-w.is))
