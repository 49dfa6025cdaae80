use Rattle.std.proofs.Common.{◌++◌, ◌∷◌, [], ap, sym, ◌∙◌}
use Rattle.be_command.specs.Names.{Known}
use Rattle.be_script.specs.declared.WindowLine.{WindowLine}
use Rattle.be_said.proofs.OpeningLemmas.{all_named, next_fits, next_named}
use Rattle.be_said.proofs.said.opening.add_windows.Goals as goal

pub add_window-requires : goal.add_window-requires
add_window-requires c =
    next_fits 32 (λ (line : WindowLine). line.name) c.args.windows.now c.loop-line.line-index c.line-item.result _ c.requires.few c.requires.new c.loop-line-test.true c.line-item.is
    (ap (λ (known : Known). known.windows) c.loop-line.invariant)

pub loop-line-preserved : goal.loop-line-preserved
loop-line-preserved c =
    c.in_ok-add_window.ensures ∙ ap (λ (known : Known). record known { windows = known.windows ++ c.line-item.result.name ∷ [] }) c.loop-line.invariant
    ∙ ap (λ names. record c.args.names.now { windows = names })
    (sym (next_named (λ (line : WindowLine). line.name) c.args.windows.now c.loop-line.line-index c.line-item.result c.loop-line-test.true c.line-item.is))

pub returns : goal.returns
returns c =
    c.loop-line.invariant ∙ ap (λ names. record c.args.names.now { windows = names }) (all_named (λ (line : WindowLine). line.name) c.args.windows.now c.loop-line.line-index c.loop-line-test.false)

pub loop-line-init : goal.loop-line-init
loop-line-init c = ap (λ names. record c.args.names.now { windows = names }) c.requires.none
