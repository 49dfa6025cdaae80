use Rattle.std.specs.Prelude.{map}
use Rattle.be_parts.specs.Parts.{meaning_of}
use Rattle.be_script.specs.Script.{declared_by}
use Rattle.be_shown.proofs.After.{screen_after}
use Rattle.be_shown.proofs.DesktopLemmas.{screen_long}
use Rattle.be_shown.proofs.shown.Shown.new.Goals as goal

pub returns-clause-size : goal.returns-clause-size
returns-clause-size c = screen_long (declared_by c.args.script.now) (map meaning_of c.args.parts.now) c.requires

pub returns-clause-after : goal.returns-clause-after
returns-clause-after c = λ h legal is. screen_after (declared_by c.args.script.now) (map meaning_of c.args.parts.now) h c.requires.limits legal is
