use Rattle.std.proofs.Common.{◌≡◌, ◌≤◌, ◌-◌, take, length}
use Rattle.be_outside.specs.Telling.{with_end}
use Rattle.be_report.proofs.puts.put_lines.Given as goal

-- the text up to here was put
abbrev pub invariant-loop-from : goal.invariant-loop-from
invariant-loop-from g l = record {
  held : g.K.Sink.held l.sink ≡ with_end (g.K.Sink.held l.fn.sink) (take l.from l.text);
  within : l.from ≤ length l.text;
  faults : g.K.Sink.faults l.fn.sink ≤ g.K.Sink.faults l.sink;
}

abbrev pub decreases-loop-from : goal.decreases-loop-from
decreases-loop-from g l = length l.text - l.from
