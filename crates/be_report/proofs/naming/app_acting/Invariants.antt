use Rattle.std.proofs.Common.{◌≡◌, drop, map}
use Rattle.std.specs.List.{position_from}
use Rattle.std.specs.Str.{bytes_eq}
use Rattle.be_command.specs.Names.{number_in}
use Rattle.be_written.specs.Names.{app_actor}
use Rattle.be_report.proofs.naming.app_acting.Given as goal

abbrev pub invariant-loop-place : goal.invariant-loop-place
invariant-loop-place l =
    position_from (λ line. bytes_eq (app_actor line.name) l.word) l.place (drop l.place l.lines) ≡ number_in (map (λ line. app_actor line.name) l.lines) l.word
