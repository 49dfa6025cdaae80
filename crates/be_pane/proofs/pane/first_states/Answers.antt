use Rattle.std.proofs.Common.{rules}
use Rattle.std.proofs.lemmas.List.{map_more}
use Rattle.be_color.specs.declared.colors.Color.TheVariants.{Clear}
use Rattle.be_state.specs.Stacks.{first_stack}
use Rattle.be_pane.proofs.pane.first_states.Goals as goal

pub loop-color-preserved : goal.loop-color-preserved
loop-color-preserved c =
    rw (map_more (λ _. first_stack) c.args.colors.now c.loop-color._color-index Clear c.loop-color-test.true) (search rules)
