use Rattle.std.proofs.Common.{rules}
use Rattle.hall_counters.proofs.Starting.{total_few, all_fit, no_logs, left_small}
use Rattle.hall_counters.proofs.turns.start.Goals as goal

pub open-requires-clause-budgets : goal.open-requires-clause-budgets
open-requires-clause-budgets c = left_small _ _ c.args.rules.places (total_few c.in_ok-parts.parts.items c.in_ok-parts.ensures.1) c.in_ok-parts.ensures.0 (search rules)

pub open-requires-clause-fits : goal.open-requires-clause-fits
open-requires-clause-fits c = all_fit c.args.rules.places c.in_ok-parts.parts.items c.in_ok-parts.ensures.1

pub open-requires-clause-logs : goal.open-requires-clause-logs
open-requires-clause-logs c = no_logs c.in_ok-parts.parts.items c.in_ok-parts.ensures.1
