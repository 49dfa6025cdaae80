use Rattle.std.proofs.Common.{arith}
use Rattle.std.proofs.lemmas.List.Elements.{Contains-get_or}
use lib.ListN.{get_or}
use Rattle.be_parts.specs.declared.part.Part.TheVariants as kinds
use Rattle.be_script.specs.Script.{declared_by}
use Rattle.be_asking.proofs.StirredAnswered.{all_there, one_more}
use Rattle.be_asking.proofs.stirred.first_missing.Goals as goal

pub find_pane-requires : goal.find_pane-requires
find_pane-requires c = record {
  limits = c.requires.limits;
  fitting = c.requires.fitting;
  there = c.requires.there (get_or c.args.names.now c.loop-window.window-index 0) (Contains-get_or c.args.names.now c.loop-window.window-index 0 c.loop-window-test.true);
}

pub loop-window-preserved : goal.loop-window-preserved
loop-window-preserved c =
    one_more (declared_by c.args.script.now) c.args.held.now.parts c.args.names.now c.loop-window.window-index c.loop-window-test.true c.loop-window.invariant
    (kinds.Pane c.in_default.field-0.now, c.in_default.ensures.there)

pub returns : goal.returns
returns c = all_there (declared_by c.args.script.now) c.args.held.now.parts c.args.names.now (λ k z lt. c.loop-window.invariant k z (omega (arith, lt, c.loop-window-test.false)))
