-- Each message within a message is less deep (this project's own).
use Rattle.std.specs.Prelude.{◌≤◌, ◌+◌, List, [], ◌∷◌}
use Rattle.std.proofs.Common.{arith}
use denote.Param.Weighed.{most}
use Rattle.be_message.specs.declared.field.Field.{Field}
use Rattle.be_message.specs.declared.value.Value.{Value}
use Rattle.be_message.specs.declared.value.Value.TheVariants as value
use Rattle.be_message.specs.declared.message.Message.TheDeep.{deep-Field, deep-Value}
use Rattle.be_message.specs.Messages.{all_values, all_fields}
use Rattle.be_message.specs.Depths.{datum_depth, values_depth, fields_depth}
use Rattle.be_message.specs.Views.{seen_value, seen_values, seen_fields}

value_falls : (v : Value) → deep-Value v ≤ datum_depth (seen_value v) + 1
value_falls (value.Bool b) = omega arith
value_falls (value.Int z) = omega arith
value_falls (value.Text t) = omega arith
value_falls (value.Point p) = omega arith
value_falls (value.Rect r) = omega arith
value_falls (value.Message m) = omega arith

values_fall : (vs : List Value)
    → most deep-Value vs ≤ values_depth (all_values (seen_values vs)) + 1
values_fall [] = omega arith
values_fall (v ∷ vs) = omega (arith, value_falls v, values_fall vs)

pub fields_fall : (fs : List Field)
    → most deep-Field fs ≤ fields_depth (all_fields (seen_fields fs)) + 1
fields_fall [] = omega arith
fields_fall (f ∷ fs) = omega (arith, values_fall f.values.items, fields_fall fs)
