use Rattle.std.proofs.Common.{◌≡◌, ◌*◌, drop, flat_map}
use Rattle.std.specs.List.{position_from}
use Rattle.std.specs.Str.{bytes_eq}
use Rattle.be_command.specs.Names.{number_in}
use Rattle.be_written.specs.Names.{window_actors}
use Rattle.be_report.proofs.naming.window_acting.Given as goal

abbrev pub invariant-loop-place : goal.invariant-loop-place
invariant-loop-place l =
    position_from (λ other. bytes_eq other l.word) (2 * l.place) (flat_map window_actors (drop l.place l.lines)) ≡ number_in (flat_map window_actors l.lines) l.word
