-- What an application's slice tells.
use Rattle.std.specs.Prelude.{Bool, false, Option, option_and_then}
use Rattle.std.specs.Option.{option_map_or}
use Rattle.be_message.specs.Messages.{Message}
use Rattle.be_reply.specs.Cells as reply
use Rattle.be_rules.specs.Slices.{Slice, app_in}

-- it waits for a reply, which may be there
abbrev pub is_waiting : Slice → Bool
is_waiting slice = option_map_or (λ a. reply.waits a.cell) (app_in slice) false

-- the reply that is there
abbrev pub reply_there : Slice → Option Message
reply_there slice = option_and_then (λ a. reply.reply_in a.cell) (app_in slice)
