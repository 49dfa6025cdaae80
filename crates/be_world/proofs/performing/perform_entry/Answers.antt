use Rattle.std.proofs.Common.{◌∙◌, ap, sym}
use Rattle.std.specs.Prelude.{option_map}
use Rattle.be_asking.specs.Wants.{activity_in}
use Rattle.be_parts.specs.Kept.{note_in}
use Rattle.be_rules.specs.Slices.{state_of}
use Rattle.be_script.specs.Script.{declared_by}
use Rattle.be_world.proofs.Keeping.{nobody_acts}
use Rattle.be_world.proofs.Performed.{may_step, performed, room_is}
use Rattle.be_world.proofs.performing.perform_entry.Goals as goal

pub unreachable-requires : goal.unreachable-requires
unreachable-requires c =
    let d = declared_by c.args.script.now in
    let may = c.requires.may in
    nobody_acts d (state_of d may.fitting.0) c.args.entry
    (sym c.activity_of.ensures ∙ ap (option_map activity_in) c.in_default.is)
    (may.ready may.fitting.0 may.fitting.1 may.fitting.2).0

pub carry_out-requires-clause-may : goal.carry_out-requires-clause-may
carry_out-requires-clause-may c =
    may_step (declared_by c.args.script.now) c.args.entry c.args.made c.args.number c.args.held.now
    c.requires.may c.in-Some.who (sym c.in-Some.ensures) c.ascends.ensures

pub enter_at-requires : goal.enter_at-requires
enter_at-requires c =
    room_is (declared_by c.args.script.now) c.args.entry c.args.made c.args.number c.args.held.now
    c.requires.may c.in-Some.who (sym c.in-Some.ensures) c.ascends.ensures c.keeper-place.result
    c.keeper-place.ensures c.carry_out.new.held c.carry_out.ensures

pub returns : goal.returns
returns c =
    performed (declared_by c.args.script.now) c.args.entry c.args.made c.args.number
    c.args.held.now c.requires.may c.in-Some.who (sym c.in-Some.ensures) c.ascends.ensures
    c.keeper-place.result c.keeper-place.ensures c.carry_out.new.held c.carry_out.ensures
    c.enter_at.new.held c.enter_at.ensures.room (note_in c.args.note) c.enter_at.ensures.entered
