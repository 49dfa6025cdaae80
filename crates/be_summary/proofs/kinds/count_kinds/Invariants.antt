use Rattle.std.proofs.Common.{◌≡◌, ◌≤◌, take}
use Rattle.std.specs.Prelude.{count_by}
use Rattle.be_summary.specs.Summary.{is_exec, is_take}
use Rattle.be_summary.proofs.kinds.count_kinds.Given as goal

abbrev pub invariant-loop-entry : goal.invariant-loop-entry
invariant-loop-entry l = record {
  execs : l.kinds.execs ≡ count_by (λ e. is_exec e.act) (take l.entry-index l.history);
  takes : l.kinds.takes ≡ count_by (λ e. is_take e.act) (take l.entry-index l.history);
  few_execs : l.kinds.execs ≤ l.entry-index;
  few_takes : l.kinds.takes ≤ l.entry-index;
}
