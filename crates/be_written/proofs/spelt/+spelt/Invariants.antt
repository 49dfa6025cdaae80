use Rattle.std.proofs.Common.{ℕ, ◌+◌, ◌-◌, ◌*◌, ◌++◌, List}
use Rattle.be_message.specs.Messages.{Fields, Values}
use Rattle.be_written.specs.MessageText.{fields_text, more_text}
use Rattle.be_written.specs.Spelt.{StartsFields, StartsValues}
use Rattle.be_written.proofs.SpeltLemmas.{FieldsLeft, ValuesLeft}
use Rattle.be_written.proofs.spelt.+spelt.Given as goal

-- a message is deeper than its fields; among one depth, fields come before a field, its values, those
-- behind the first, a value and a message in brackets

abbrev pub decreases-write_spelt_inner : goal.decreases-write_spelt_inner
decreases-write_spelt_inner l = 6 * l.levels

abbrev pub decreases-write_spelt_value : goal.decreases-write_spelt_value
decreases-write_spelt_value l = 6 * l.levels + 1

abbrev pub decreases-write_spelt_more : goal.decreases-write_spelt_more
decreases-write_spelt_more l = 6 * l.levels + 2

abbrev pub decreases-write_spelt_values : goal.decreases-write_spelt_values
decreases-write_spelt_values l = 6 * l.levels + 3

abbrev pub decreases-write_spelt_field : goal.decreases-write_spelt_field
decreases-write_spelt_field l = 6 * l.levels + 4

abbrev pub decreases-write_spelt_fields : goal.decreases-write_spelt_fields
decreases-write_spelt_fields l = 6 * l.levels + 5

-- what is written and what is left to write are the whole

abbrev pub invariant-write_spelt_fields-loop-field : goal.invariant-write_spelt_fields-loop-field
invariant-write_spelt_fields-loop-field l =
    (fs : Fields) (behind : List ℕ) → StartsFields l.bytes l.levels l.count fs behind
    → FieldsLeft l.rest l.levels (l.count - l._field) behind l.page (l.fn.page ++ fields_text fs)

abbrev pub invariant-write_spelt_more-loop-value : goal.invariant-write_spelt_more-loop-value
invariant-write_spelt_more-loop-value l =
    (vs : Values) (behind : List ℕ) → StartsValues l.bytes l.levels l.kind l.count vs behind
    → ValuesLeft l.rest l.levels l.kind (l.count - l._value) behind l.page (l.fn.page ++ more_text vs)
