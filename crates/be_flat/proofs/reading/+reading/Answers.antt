use Rattle.std.proofs.Common.{rules, ◌≡◌, ◌+◌, ◌-◌, suc, nat_lt, arith}
use Rattle.std.proofs.lemmas.Result.{err_from_is_err_and}
use Rattle.be_flat.specs.Reading.{value_into, field_into, message_at}
use Rattle.be_message.specs.Views.{seen_value}
use Rattle.be_flat.specs.Room.{HasRoom}
use Rattle.be_flat.proofs.FieldNames.{name_allowed}
use Rattle.be_flat.proofs.Rooms.{field_widens, into_keeps, new_field_fits, not_refused, value_allowed, value_kind}
use Rattle.be_flat.proofs.Parts.{part_more, part_fails, parts_done}
use Rattle.be_flat.proofs.reading.+reading.Goals as goal

pub fields_into-returns-in_err-field_into : goal.fields_into-returns-in_err-field_into
fields_into-returns-in_err-field_into t c =
    let p = err_from_is_err_and c.from_residual.result c.from_residual.ensures.1 in
    rw (p.1, p.2) (part_fails (field_into (message_at c.args.levels) (nat_lt 0 c.args.levels)) c.args.count c.loop.counter c.loop.message c.loop.cursor c.in_err-field_into.field-0.0 _ c.loop-test.true c.in_err-field_into.ensures c.loop.invariant.read)

pub fields_into-loop-preserved : goal.fields_into-loop-preserved
fields_into-loop-preserved t c =
    record {
      read = part_more (field_into (message_at c.args.levels) (nat_lt 0 c.args.levels)) c.args.count c.loop.counter c.loop.message c.loop.cursor _ _ _ c.loop-test.true c.in_ok-field_into.ensures c.loop.invariant.read;
      fields = omega (arith, field_widens (message_at c.args.levels) (nat_lt 0 c.args.levels) c.loop.message c.loop.cursor _ c.in_ok-field_into.ensures, c.loop.invariant.fields, c.loop-test.true);
    }

pub fields_into-returns : goal.fields_into-returns
fields_into-returns t c = parts_done (field_into (message_at c.args.levels) (nat_lt 0 c.args.levels)) c.args.count c.loop.counter c.loop.message c.loop.cursor _ c.loop-test.false c.loop.invariant.read

pub values_into-returns-in_err-value_into : goal.values_into-returns-in_err-value_into
values_into-returns-in_err-value_into t c =
    let p = err_from_is_err_and c.from_residual.result c.from_residual.ensures.1 in
    rw (p.1, p.2) (part_fails (value_into (message_at c.args.levels) c.args.kind c.args.name.now) c.args.count c.loop.counter c.loop.message c.loop.cursor c.in_err-value_into.field-0.0 _ c.loop-test.true c.in_err-value_into.ensures c.loop.invariant.read)

pub values_into-loop-preserved : goal.values_into-loop-preserved
values_into-loop-preserved t c =
    let n = c.args.count - (c.loop.counter + 1) in
    let left : c.args.count - c.loop.counter ≡ suc n = omega (arith, c.loop-test.true) in
    let room : HasRoom c.loop.message c.args.name.now c.args.kind (suc n) = rw left at c.loop.invariant.room in
    record {
      read = part_more (value_into (message_at c.args.levels) c.args.kind c.args.name.now) c.args.count c.loop.counter c.loop.message c.loop.cursor _ _ _ c.loop-test.true c.in_ok-value_into.ensures c.loop.invariant.read;
      room = into_keeps (message_at c.args.levels) c.args.kind c.args.name.now n c.loop.message c.loop.cursor _ c.in_ok-value_into.ensures room;
    }

pub values_into-returns : goal.values_into-returns
values_into-returns t c = parts_done (value_into (message_at c.args.levels) c.args.kind c.args.name.now) c.args.count c.loop.counter c.loop.message c.loop.cursor _ c.loop-test.false c.loop.invariant.read

pub value_into-add-requires : goal.value_into-add-requires
value_into-add-requires t c =
    not_refused c.args.message.now c.args.name.now c.args.kind (seen_value c.in_ok-value.value) c.requires.1.1.1
    (value_kind (message_at c.args.levels) c.args.kind c.args.cursor.now _ c.in_ok-value.ensures) (value_allowed c.args.levels c.args.kind c.args.cursor.now _ c.requires.1.1.0 c.in_ok-value.ensures)

pub field_into-values_into-requires : goal.field_into-values_into-requires
field_into-values_into-requires t c =
    let name = name_allowed c.args.message.now _ _ c.in_ok-name.ensures in
    let room = new_field_fits c.args.message.now c.in_ok-name.name.now c.in_ok-kind.kind c.in_ok-count.count name.0 name.1 c.requires.fields c.in_ok-count.ensures.few in
    (search rules, (c.requires.levels, room))
