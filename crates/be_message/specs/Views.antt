-- The message that a value of the code stands for (this project's own).
use Rattle.std.specs.Prelude.{◌≡◌, List, map, string_bytes, Result, Ok, Err}
use Rattle.be_message.specs.declared.fault.FindFault.{FindFault}
use Rattle.be_message.specs.declared.field.Field.{Field}
use Rattle.be_message.specs.declared.value.Value.{Value}
use Rattle.be_message.specs.declared.value.Value.TheVariants as value
use Rattle.be_message.specs.declared.message.Message.TheInside.{Inside}
use Rattle.be_message.specs.Messages as messages

abbrev pub seen_value : Value → messages.Datum
seen_value (value.Bool b) = messages.bool b
seen_value (value.Int z) = messages.int z
seen_value (value.Text t) = messages.text t
seen_value (value.Point p) = messages.point p
seen_value (value.Rect r) = messages.rect r
seen_value (value.Message m) = messages.packed m.value

abbrev pub seen_values : List Value → List messages.Datum
seen_values = map seen_value

abbrev pub seen_field : Field → messages.Field
seen_field f =
    record { name = string_bytes f.name; kind = f.kind; values = seen_values f.values.items }

abbrev pub seen_fields : List Field → List messages.Field
seen_fields = map seen_field

abbrev pub seen : Inside → messages.Message
seen a = record { what = a.what; fields = seen_fields a.fields.items }

-- a value that is found, or why it isn't, as the message has it
abbrev pub Gives : {X : Type 0} → (X → messages.Datum) → Result X FindFault
    → Result messages.Datum FindFault → Type 0
Gives view (Ok x) found = found ≡ Ok (view x)
Gives view (Err fault) found = found ≡ Err fault
