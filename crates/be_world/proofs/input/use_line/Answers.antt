use Rattle.be_script.specs.Script.{declared_by}
use Rattle.be_world.proofs.Suiting.{delivered_in, has_event}
use Rattle.be_world.proofs.input.use_line.Goals as goal

pub into_event-requires : goal.into_event-requires
into_event-requires c =
    has_event (declared_by c.args.script.now) c.args.held.now.parts c.args.line c.args.made
    c.requires.allowed c.requires.suits c.in-Press.is

pub deliver-requires : goal.deliver-requires
deliver-requires c = (
  c.args.line,
  c.requires.allowed,
  delivered_in (declared_by c.args.script.now) c.args.held.now.parts c.args.line c.args.made
      c.requires.allowed c.requires.suits c.in-Press.is c.into_event.result c.into_event.ensures,
)
