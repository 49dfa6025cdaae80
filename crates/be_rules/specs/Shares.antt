-- How many entries each part can still bring.
use Rattle.std.specs.Prelude.{ℕ, ◌+◌, Bool, true, false, List, [], ◌∷◌, sum_by, Option, Some, None}
use Rattle.std.specs.Prelude.{if◌then◌else◌}
use Rattle.be_link.specs.Queues.{Buffer, Numbered}
use Rattle.be_message.specs.Messages.{Message}
use Rattle.be_pane.specs.Panes.{Pane}
use Rattle.be_port.specs.Ports.{Port, queue_of}
use Rattle.be_script.specs.Script.{Declared}
use Rattle.be_script.specs.Work.{update_cost, updates_cost}
use Rattle.be_span.specs.declared.Cell.{Cell}
use Rattle.be_span.specs.Spans.{is_dirty}
use Rattle.be_machine.specs.Program.{app_program}
use Rattle.be_machine.specs.State.{App, Looper}
use Rattle.be_machine.specs.Shares.{left, app_cost, looper_share, letter_share, in_buffer, in_link}
use Rattle.be_machine.specs.Shares.{dirt, going, input_share}
use Rattle.be_rules.specs.Slices.{Slice, desk, input, cell, looper, port, link, pane}

abbrev pub app_part : Declared → ℕ → Option App → ℕ
app_part d m (Some a) = left (app_cost d) (app_program d m) a.place
app_part d m None = 0

abbrev pub looper_part : Declared → ℕ → Option Looper → ℕ
looper_part d w (Some l) = looper_share d w l
looper_part d w None = 0

abbrev pub buffer_part : Declared → Option Buffer → ℕ
buffer_part d (Some b) = sum_by (in_buffer (updates_cost d)) b.commands
buffer_part d None = 0

abbrev pub port_part : Declared → ℕ → Option (Port Message) → ℕ
port_part d w (Some p) = sum_by (letter_share d w) (queue_of p)
port_part d w None = 0

abbrev pub link_part : Declared → Option (List Numbered) → ℕ
link_part d (Some l) = sum_by (in_link (updates_cost d)) l
link_part d None = 0

abbrev pub any_dirty : List (Option Cell) → Bool
any_dirty [] = false
any_dirty (o ∷ os) = if is_dirty o then true else any_dirty os

abbrev pub pane_part : Declared → ℕ → Option Pane → Bool → ℕ
pane_part d w (Some p) dirty = dirt (update_cost d w) dirty p
pane_part d w None dirty = 0

-- one part's share of the work
abbrev pub share : Declared → Slice → ℕ
share d (desk x) = 0
share d (input k b) = going b + input_share d k
share d (cell m a) = app_part d m a
share d (looper w l b) = looper_part d w l + buffer_part d b
share d (port w p) = port_part d w p
share d (link w l) = link_part d l
share d (pane w p) = pane_part d w p.kept (any_dirty p.cells)
