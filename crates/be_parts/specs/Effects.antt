-- What becomes of a slice where one of its values changes. Slices of other parts stay.
use Rattle.std.specs.Prelude.{◌+◌, true, List, option_map}
use Rattle.be_actor.specs.declared.Place.{Place}
use Rattle.be_desk.specs.Changes.{Desk}
use Rattle.be_link.specs.Queues.{Buffer, Numbered}
use Rattle.be_reply.specs.Cells as reply
use Rattle.be_machine.specs.State.{App, Looper}
use Rattle.be_rules.specs.Slices.{Slice, desk, input, cell, looper, port, link, pane}

-- another desk
abbrev pub desk_with : (Desk → Desk) → Slice → Slice
desk_with f (desk x) = desk (f x)
desk_with f (input k b) = input k b
desk_with f (cell m a) = cell m a
desk_with f (looper w l b) = looper w l b
desk_with f (port w p) = port w p
desk_with f (link w l) = link w l
desk_with f (pane w p) = pane w p

-- one event more
abbrev pub input_used : Slice → Slice
input_used (desk x) = desk x
input_used (input k b) = input (k + 1) b
input_used (cell m a) = cell m a
input_used (looper w l b) = looper w l b
input_used (port w p) = port w p
input_used (link w l) = link w l
input_used (pane w p) = pane w p

-- the run has stopped
abbrev pub input_stopped : Slice → Slice
input_stopped (desk x) = desk x
input_stopped (input k b) = input k true
input_stopped (cell m a) = cell m a
input_stopped (looper w l b) = looper w l b
input_stopped (port w p) = port w p
input_stopped (link w l) = link w l
input_stopped (pane w p) = pane w p

-- another application
abbrev pub app_with : (App → App) → Slice → Slice
app_with f (desk x) = desk x
app_with f (input k b) = input k b
app_with f (cell m a) = cell m (option_map f a)
app_with f (looper w l b) = looper w l b
app_with f (port w p) = port w p
app_with f (link w l) = link w l
app_with f (pane w p) = pane w p

-- at another place of its program
abbrev pub app_at : Place → Slice → Slice
app_at place = app_with (λ a. record a { place = place })

-- with another reply cell
abbrev pub app_told : (reply.Cell → reply.Cell) → Slice → Slice
app_told f = app_with (λ a. record a { cell = f a.cell })

-- somebody else has the looper, or it is at another stage
abbrev pub looper_with : (Looper → Looper) → Slice → Slice
looper_with f (desk x) = desk x
looper_with f (input k b) = input k b
looper_with f (cell m a) = cell m a
looper_with f (looper w l b) = looper w (option_map f l) b
looper_with f (port w p) = port w p
looper_with f (link w l) = link w l
looper_with f (pane w p) = pane w p

-- other commands in the looper's buffer
abbrev pub buffer_with : (Buffer → Buffer) → Slice → Slice
buffer_with f (desk x) = desk x
buffer_with f (input k b) = input k b
buffer_with f (cell m a) = cell m a
buffer_with f (looper w l b) = looper w l (option_map f b)
buffer_with f (port w p) = port w p
buffer_with f (link w l) = link w l
buffer_with f (pane w p) = pane w p

-- other commands in the link
abbrev pub link_with : (List Numbered → List Numbered) → Slice → Slice
link_with f (desk x) = desk x
link_with f (input k b) = input k b
link_with f (cell m a) = cell m a
link_with f (looper w l b) = looper w l b
link_with f (port w p) = port w p
link_with f (link w l) = link w (option_map f l)
link_with f (pane w p) = pane w p
