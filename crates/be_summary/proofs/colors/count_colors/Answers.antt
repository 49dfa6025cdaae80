use Rattle.std.proofs.Common.{◌≡◌, ℕ, ◌*◌, List, take, None, sym, ap, subst, arith}
use Rattle.be_span.specs.declared.Cell.{Cell}
use Rattle.be_summary.specs.Colors.{HasColors}
use Rattle.be_summary.proofs.Sets.{begun}
use Rattle.be_summary.proofs.colors.count_colors.Goals as goal

pub loop-row-init : goal.loop-row-init
loop-row-init g c =
    let cells = g.S.Screen.cells c.args.screen.now in
    let none : 0 * g.S.Screen.across c.args.screen.now ≡ 0 = omega arith in
    subst
    (λ (cs : List Cell). HasColors cs (record { seen = c.new.result; last = None }))
    (sym (ap (λ (n : ℕ). take n cells) none)) (begun c.new.result c.new.ensures.empty)
