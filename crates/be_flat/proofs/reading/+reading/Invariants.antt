use Rattle.std.proofs.Common.{◌≡◌, ◌≤◌, nat_lt, length, ◌+◌, ◌-◌, ◌*◌}
use Rattle.be_message.specs.Limits.{most_fields}
use Rattle.be_flat.specs.Room.{HasRoom}
use Rattle.be_flat.specs.Reading.{value_into, so_many, field_into, message_at}
use Rattle.be_flat.proofs.reading.+reading.Given as goal

abbrev pub decreases-message_at : goal.decreases-message_at
decreases-message_at l = 6 * l.levels

abbrev pub decreases-value_at : goal.decreases-value_at
decreases-value_at l = 6 * l.levels + 1

abbrev pub decreases-value_into : goal.decreases-value_into
decreases-value_into l = 6 * l.levels + 2

abbrev pub decreases-values_into : goal.decreases-values_into
decreases-values_into l = 6 * l.levels + 3

abbrev pub decreases-field_into : goal.decreases-field_into
decreases-field_into l = 6 * l.levels + 4

abbrev pub decreases-fields_into : goal.decreases-fields_into
decreases-fields_into l = 6 * l.levels + 5

abbrev pub invariant-fields_into-loop : goal.invariant-fields_into-loop
invariant-fields_into-loop l =
    record {
      read : so_many (field_into (message_at l.levels) (nat_lt 0 l.levels)) (l.count - l.counter) l.message l.cursor
          ≡ so_many (field_into (message_at l.levels) (nat_lt 0 l.levels)) l.count l.fn.message l.fn.cursor;
      fields : length l.message.fields + (l.count - l.counter) ≤ most_fields;
    }

abbrev pub invariant-values_into-loop : goal.invariant-values_into-loop
invariant-values_into-loop l =
    record {
      read : so_many (value_into (message_at l.levels) l.kind l.name) (l.count - l.counter) l.message l.cursor
          ≡ so_many (value_into (message_at l.levels) l.kind l.name) l.count l.fn.message l.fn.cursor;
      room : HasRoom l.message l.name l.kind (l.count - l.counter);
    }
