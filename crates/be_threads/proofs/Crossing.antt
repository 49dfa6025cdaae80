-- What a run hands to its threads, and what they look at together: a part may go from one thread to
-- another, and the rules may be looked at by all.
use denote.Param.Send.{IsSend, IsSync, sendable}
use denote.Param.SendFields.{declared_send, declared_sync}
use Rattle.std.proofs.Crossing.{crosses}
use Rattle.std.proofs.alloc.Global.TheSendSync as heap
use Rattle.std.proofs.boxed.Box.TheSendSync as boxed
use Rattle.std.proofs.option.Option.TheSendSync as option
use Rattle.std.proofs.rt.Memory.TheSendSync as memory
use Rattle.std.proofs.string.String.TheSendSync as string
use Rattle.std.proofs.vec.Vec.TheSendSync as vec
use Rattle.be_actor.proofs.Place.TheSendSync as place
use Rattle.be_actor.specs.contracts.Program as program
use Rattle.be_bitmap.proofs.bitmap.Bitmap.TheSendSync as bitmap
use Rattle.be_color.proofs.colors.Color.TheSendSync as color
use Rattle.be_color.proofs.colors.Rgb.TheSendSync as rgb
use Rattle.be_color.proofs.modes.Mode.TheSendSync as mode
use Rattle.be_color.proofs.patterns.Pattern.TheSendSync as pattern
use Rattle.be_command.proofs.Clip.TheSendSync as clip
use Rattle.be_command.proofs.Command.TheSendSync as command
use Rattle.be_command.proofs.CommandText.TheSendSync as command_text
use Rattle.be_flat.proofs.bytes.Bytes.TheSendSync as bytes
use Rattle.be_geom.proofs.change.Change.TheSendSync as change
use Rattle.be_geom.proofs.point.Point.TheSendSync as point
use Rattle.be_geom.proofs.rect.Rect.TheSendSync as rect
use Rattle.be_handler.proofs.chain.Chain.TheSendSync as chain
use Rattle.be_link.proofs.buffer.Buffer.TheSendSync as buffer
use Rattle.be_looper.proofs.Owner.TheSendSync as owner
use Rattle.be_message.proofs.message.Message.TheLaws.TheKnot as message
use Rattle.be_message.proofs.kind.Kind.TheSendSync as kind
use Rattle.be_message.proofs.target.Target.TheSendSync as target
use Rattle.be_message.proofs.text.Text.TheSendSync as text
use Rattle.be_noted.specs.contracts.noting.Noting as noting
use Rattle.be_noted.specs.contracts.noting.Noting.TheInside as noting_within
use Rattle.be_pane.proofs.pane.Pane.TheSendSync as pane
use Rattle.be_parts.proofs.desk.DeskPart.TheSendSync as desk_part
use Rattle.be_parts.proofs.input.InputPart.TheSendSync as input_part
use Rattle.be_parts.proofs.link.LinkPart.TheSendSync as link_part
use Rattle.be_parts.proofs.log.Log.TheSendSync as log
use Rattle.be_parts.proofs.looper.Handling.TheSendSync as handling
use Rattle.be_parts.proofs.meaning.Meaning.TheSendSync as meaning
use Rattle.be_parts.proofs.stage.Stage.TheSendSync as stage
use Rattle.be_parts.specs.contracts.cell.CellPart as cell_part
use Rattle.be_parts.specs.contracts.looper.LooperPart as looper_part
use Rattle.be_parts.specs.contracts.pane.PanePart as pane_part
use Rattle.be_parts.specs.contracts.pane.PanePart.TheInside as pane_within
use Rattle.be_parts.specs.contracts.part.Part as part
use Rattle.be_parts.specs.contracts.port.PortPart as port_part
use Rattle.be_port.proofs.Duty.TheSendSync as duty
use Rattle.be_port.proofs.port.Port.TheSendSync as port
use Rattle.be_region.proofs.region.Region.TheSendSync as region
use Rattle.be_script.specs.contracts.Script as script
use Rattle.be_world.specs.contracts.world.World as world
use Rattle.be_world.specs.contracts.world.World.TheInside as world_within

ruleset known = (
  sendable,
  crosses,
  message.crosses,
  heap.the_send,
  heap.the_field_send,
  vec.the_send,
  boxed.the_send,
  string.the_send,
  string.the_field_send,
  option.the_send,
  option.the_field_send,
  memory.the_send,
  color.the_send,
  color.the_field_send,
  rgb.the_send,
  rgb.the_field_send,
  place.the_send,
  bytes.the_send,
  log.the_send,
  stage.the_send,
  duty.the_send,
  handling.the_send,
  meaning.the_send,
  port.the_send,
  pane.the_send,
  buffer.the_send,
  owner.the_send,
  kind.the_send,
  target.the_send,
  target.the_field_send,
  text.the_send,
  rect.the_send,
  rect.the_field_send,
  point.the_send,
  command.the_send,
)

pub cell_send : IsSend cell_part.the_row
cell_send = search known depth 40 fits 30000

pub looper_send : IsSend looper_part.the_row
looper_send = search known depth 40 fits 30000

pub port_send : IsSend port_part.the_row
port_send = search known depth 40 fits 30000

pane_inside : IsSend pane_within.the_row
pane_inside =
    declared_send pane_within.the_type (
      search (sendable, pane.the_send) depth 10,
      (search sendable depth 10, (search (sendable, log.the_send) depth 10, tt)),
    )

pub pane_send : IsSend pane_part.the_row
pane_send = search (sendable, pane_inside)

pub part_send : IsSend part.the_row
part_send =
    search (
      sendable,
      desk_part.the_send,
      input_part.the_send,
      cell_send,
      looper_send,
      port_send,
      link_part.the_send,
      pane_send,
    ) depth 40 fits 30000

-- ---- the rules

ruleset shown = (
  sendable,
  crosses,
  message.crosses,
  heap.the_sync,
  heap.the_field_sync,
  vec.the_sync,
  string.the_sync,
  string.the_field_sync,
  option.the_sync,
  option.the_field_sync,
  memory.the_sync,
  color.the_sync,
  color.the_field_sync,
  rgb.the_sync,
  rgb.the_field_sync,
  mode.the_sync,
  mode.the_field_sync,
  pattern.the_sync,
  pattern.the_field_sync,
  clip.the_sync,
  command.the_sync,
  command.the_field_sync,
  command_text.the_sync,
  change.the_sync,
  change.the_field_sync,
  point.the_sync,
  point.the_field_sync,
  rect.the_sync,
  rect.the_field_sync,
  kind.the_sync,
  kind.the_field_sync,
  target.the_sync,
  target.the_field_sync,
  text.the_sync,
  region.the_sync,
)

program_sync : IsSync program.the_row
program_sync = search shown depth 40 fits 30000

script_sync : IsSync script.the_row
script_sync = search (shown, program_sync) depth 40 fits 30000

world_inside : IsSync world_within.the_row
world_inside =
    declared_sync world_within.the_type (
      search (sendable, heap.the_sync) depth 10,
      (
        search (sendable, script_sync) depth 10,
        (
          search (sendable, crosses, bitmap.the_sync) depth 10,
          (search (sendable, crosses, chain.the_sync) depth 10, tt),
        ),
      ),
    )

world_sync : IsSync world.the_row
world_sync = search (sendable, world_inside)

noting_inside : IsSync noting_within.the_row
noting_inside =
    declared_sync noting_within.the_type (search (sendable, world_sync) depth 10, tt)

pub noting_sync : IsSync noting.the_row
noting_sync = search (sendable, noting_inside)
