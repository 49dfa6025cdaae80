use Rattle.std.proofs.Common.{ap, ◌∙◌}
use Rattle.std.proofs.lemmas.List.{take_all}
use Rattle.be_region.specs.Regions.{region_has}
use Rattle.be_descent.proofs.PieceLemmas.{none_left}
use Rattle.be_descent.proofs.reading.leave_out.Goals as goal

pub loop-frame-init : goal.loop-frame-init
loop-frame-init c = none_left c.args.way c.args.area c.args.piece.now

pub leave_frame-requires : goal.leave_frame-requires
leave_frame-requires c = record {
  own = λ x y has. ap (λ rs. region_has rs x y) c.loop-frame.invariant.region
      ∙ c.requires.own x y has;
}

pub returns : goal.returns
returns c = rw (take_all c.loop-frame.frame-index c.args.frames.now c.loop-frame-test.false) at c.loop-frame.invariant
