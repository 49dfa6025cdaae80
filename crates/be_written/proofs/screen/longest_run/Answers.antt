use Rattle.std.proofs.Common.{subst, sym, arith}
use Rattle.be_color.specs.declared.colors.Rgb.{Rgb}
use Rattle.be_written.specs.Screens.{AreColored, row_at}
use Rattle.be_written.proofs.ScreenRows.{in_row, is_longest, joined, none_behind, other_behind, short_row, told_other, told_same}
use Rattle.be_written.proofs.screen.longest_run.Goals as goal

pub loop-end-init : goal.loop-end-init
loop-end-init g c = record {
  begun = c.run_at-first.ensures.begins;
  within = omega arith;
  colored = in_row _ _ _ _ _ _ c.run_at-first.ensures.ends c.run_at-first.ensures.colored;
  strip = c.run_at-first.ensures.strip;
}

pub loop-end-preserved : goal.loop-end-preserved
loop-end-preserved g c =
    let row = row_at (g.S.Screen.across c.args.screen.now) c.args.row (g.S.Screen.cells c.args.screen.now) in
    let next = in_row _ _ _ _ _ _ c.run_at-next.ensures.ends c.run_at-next.ensures.colored in
    let same = told_same c.run_at-first.result.rgb c.run_at-next.result.rgb c.if-ne.ensures in
    record {
      begun = omega arith;
      within = omega (arith, c.run_at-next.ensures.ends, c.width-width.ensures);
      colored = joined row c.args.column c.loop-end.end c.run_at-next.result.end c.run_at-first.result.rgb c.loop-end.invariant.colored (subst (λ (rgb : Rgb). AreColored row c.loop-end.end c.run_at-next.result.end rgb) (sym same) next);
      strip = c.run_at-next.ensures.strip;
    }

pub returns-then-ne-clause-longest : goal.returns-then-ne-clause-longest
returns-then-ne-clause-longest g c =
    let row = row_at (g.S.Screen.across c.args.screen.now) c.args.row (g.S.Screen.cells c.args.screen.now) in
    let next = in_row _ _ _ _ _ _ c.run_at-next.ensures.ends c.run_at-next.ensures.colored in
    is_longest row c.args.column c.loop-end.end c.run_at-first.result.rgb c.loop-end.invariant.begun c.loop-end.invariant.colored
    (other_behind row c.loop-end.end c.run_at-next.result.end c.run_at-first.result.rgb c.run_at-next.result.rgb c.run_at-next.ensures.begins next (told_other c.run_at-first.result.rgb c.run_at-next.result.rgb c.if-ne.ensures))

pub returns-clause-longest : goal.returns-clause-longest
returns-clause-longest g c =
    let row = row_at (g.S.Screen.across c.args.screen.now) c.args.row (g.S.Screen.cells c.args.screen.now) in
    is_longest row c.args.column c.loop-end.end c.run_at-first.result.rgb c.loop-end.invariant.begun c.loop-end.invariant.colored
    (none_behind row c.loop-end.end c.run_at-first.result.rgb (short_row (g.S.Screen.across c.args.screen.now) c.args.row (g.S.Screen.cells c.args.screen.now) c.loop-end.end (omega arith)))
