-- What is left of the list makes of the target so far what the whole list makes of the first one.
use Rattle.std.proofs.Common.{◌≡◌, false, Some, drop}
use Rattle.be_handler.specs.Routes.{through}
use Rattle.be_handler.proofs.FilterLemmas.{listed}
use Rattle.be_handler.proofs.filter.filtered.Given as goal

abbrev pub invariant-loop-filter : goal.invariant-loop-filter
invariant-loop-filter l =
    through l.what (listed l.list l.filters) (Some (l.fn.target, false))
    ≡ through l.what (listed l.list (drop l.filter-index l.filters)) (Some l.at)
