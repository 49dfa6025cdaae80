use Rattle.be_command.specs.Effects.{effect_of}
use Rattle.be_asking.proofs.ExecutesAnswered.{bitmap_drawn, no_bitmap}
use Rattle.be_asking.proofs.executing.outcome_of.Goals as goal

pub returns-in-NoBitmap : goal.returns-in-NoBitmap
returns-in-NoBitmap c pictures has w corner kept tree owned cells stands =
    bitmap_drawn pictures corner kept tree (effect_of c.args.command.now) c.requires.no_change has (c.in-NoBitmap.ensures w corner kept tree owned cells stands)

pub returns-in_default : goal.returns-in_default
returns-in_default c pictures has w corner kept tree owned cells stands =
    no_bitmap pictures corner kept tree (effect_of c.args.command.now) c.judge.result c.requires.no_change c.in_default.not-NoBitmap (c.judge.ensures w corner kept tree owned cells stands)
