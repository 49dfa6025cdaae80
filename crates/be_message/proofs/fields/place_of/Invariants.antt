use Rattle.std.proofs.Common.{◌≡◌, ◌≤◌, false, length, drop}
use Rattle.std.specs.List.{list_any}
use Rattle.be_message.specs.Fields.{has_name}
use Rattle.be_message.specs.Views.{seen_fields}
use Rattle.be_message.proofs.fields.place_of.Given as goal

-- no field from here on has the name
abbrev pub invariant-loop-place : goal.invariant-loop-place
invariant-loop-place l =
    record { within : l.place ≤ length l.fields; none_behind : list_any (has_name l.name) (drop l.place (seen_fields l.fields)) ≡ false }

abbrev pub decreases-loop-place : goal.decreases-loop-place
decreases-loop-place l = l.place
