use Rattle.std.proofs.Common.{◌≡◌, ◌<◌, ◌≤◌, ◌*◌, length, sym, ap, ◌∙◌, subst, arith}
use Rattle.be_said.specs.Inside.{HasRows}
use Rattle.be_said.specs.Said.{seen_said}
use Rattle.be_said.proofs.BitmapKept.{all_rows, not_refused, rows-kept}
use Rattle.be_said.proofs.said.SoFar.with_colors.Goals as goal

pub invariant_of-self : goal.invariant_of-self
invariant_of-self c =
    let has : HasRows (seen_said c.self.inside) c.args.name c.args.width c.args.height c.args.colors.items =
    subst (λ s. HasRows s c.args.name c.args.width c.args.height c.args.colors.items) (sym c.self.view_is) c.requires in
    let area : c.from.result * c.from-2.result ≡ c.args.width * c.args.height = ap (λ w. w * c.from-2.result) c.from.ensures ∙ ap (λ h. c.args.width * h) c.from-2.ensures in
    let less : length c.args.colors.items < c.args.width * c.args.height = omega arith in
    rows-kept _ _ _ _ _ _ c.self.invariant has less

pub unreachable-requires : goal.unreachable-requires
unreachable-requires c =
    let area : c.from.result * c.from-2.result ≡ c.args.width * c.args.height = ap (λ w. w * c.from-2.result) c.from.ensures ∙ ap (λ h. c.args.width * h) c.from-2.ensures in
    let many : c.args.width * c.args.height ≤ length c.args.colors.items = omega arith in
    not_refused _ _ _ _ c.requires.3 c.requires.4 (all_rows c.requires.5.0 _ _ _ c.requires.5.1.0 c.requires.5.1.1 many) c.in_default.ensures.refused
