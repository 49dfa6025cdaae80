use Rattle.std.proofs.Common.{refl}
use Rattle.be_picture.specs.Playing.{blank}
use Rattle.be_picture.proofs.Shown.{is_at_rest, is_seen}
use Rattle.be_picture.proofs.off_screen.OffScreen.new.Goals as goal

pub invariant_of-result : goal.invariant_of-result
invariant_of-result c =
    is_at_rest c.in-Ok.pane (blank c.args.width c.args.height) c.in-Ok.ensures.whole
    c.in-Ok.ensures.shows refl refl

pub returns-in-Ok-clause-blank : goal.returns-in-Ok-clause-blank
returns-in-Ok-clause-blank c =
    is_seen c.in-Ok.pane (blank c.args.width c.args.height) c.in-Ok.ensures.shows refl refl
