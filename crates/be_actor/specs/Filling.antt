-- What a word of a draft asks of the message that it is put into (this project's own).
use Rattle.std.specs.Prelude.{◌≡◌, ◌<◌, false, true, length, Option, None}
use Rattle.std.specs.List.{list_any}
use Rattle.std.specs.Option.{IsSomeAnd}
use Rattle.be_message.specs.Fields.{add_refusal, has_name}
use Rattle.be_message.specs.Messages.{Message, packed}
use Rattle.be_message.specs.Names.{is_name}
use Rattle.be_actor.specs.Drafts.{Word, value, current, copied}

-- a value is not refused, and a field that is copied is new and finds room
abbrev pub FitsInto : Option Message → Message → Word → Type 0
FitsInto now m (value name d) = (is_name name ≡ true) × (add_refusal m name d ≡ None)
FitsInto now m (current name) =
    (is_name name ≡ true) × IsSomeAnd now (λ c. add_refusal m name (packed c) ≡ None)
FitsInto now m (copied name) =
    (is_name name ≡ true) × IsSomeAnd now
    (λ c. (list_any (has_name name) m.fields ≡ false) × (length m.fields < 255))
