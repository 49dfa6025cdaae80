-- What a link's slice tells.
use Rattle.std.specs.Prelude.{List, [], Option, slice_get, unwrap_or}
use Rattle.be_link.specs.Queues.{Numbered}
use Rattle.be_rules.specs.Slices.{Slice, link_in}

-- its commands
abbrev pub commands_of : Slice → List Numbered
commands_of slice = unwrap_or (link_in slice) []

-- the oldest command
abbrev pub front_of : Slice → Option Numbered
front_of slice = slice_get (commands_of slice) 0
