use Rattle.std.proofs.Common.{◌≤◌, ◌-◌, take, drop, ap, sym, ◌∙◌, arith}
use Rattle.be_outside.specs.Telling.{with_end}
use Rattle.be_outside.proofs.TellingLemmas.{with_end-with_end, TakesPrefix-within}
use Rattle.be_report.proofs.Pieces.{take_on, around}
use Rattle.be_report.proofs.puts.put_lines.Goals as goal

pub loop-from-preserved : goal.loop-from-preserved
loop-from-preserved g c =
    let le : c.loop-from.from ≤ c.line_end-end.result = omega arith in
    record {
      held = c.in-Ok.ensures.appends ∙ ap (λ told. with_end told (take (c.line_end-end.result - c.loop-from.from) (drop c.loop-from.from c.args.text.now))) c.loop-from.invariant.held ∙ with_end-with_end (g.K.Sink.held c.args.sink.now) (take c.loop-from.from c.args.text.now) (take (c.line_end-end.result - c.loop-from.from) (drop c.loop-from.from c.args.text.now)) ∙ ap (with_end (g.K.Sink.held c.args.sink.now)) (sym (take_on _ _ _ le));
      within = c.line_end-end.ensures.within;
      faults = omega (arith, c.loop-from.invariant.faults, c.in-Ok.ensures.never_falls);
    }

pub returns-in-Err-clause-prefix : goal.returns-in-Err-clause-prefix
returns-in-Err-clause-prefix g c =
    let le : c.loop-from.from ≤ c.line_end-end.result = omega arith in
    TakesPrefix-within (take c.loop-from.from c.args.text.now) (drop c.line_end-end.result c.args.text.now) c.args.text.now c.loop-from.invariant.held c.in-Err.ensures.prefix (around _ _ _ le)
