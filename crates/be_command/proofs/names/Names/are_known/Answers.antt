use Rattle.std.proofs.Common.{refl, subst}
use Rattle.be_command.specs.Names.{Known}
use Rattle.be_command.specs.Laws.{AreKnown}
use Rattle.be_command.proofs.names.Names.are_known.Goals as goal

pub returns : goal.returns
returns c =
    subst (λ (known : Known). AreKnown known) c.self.view_is
    (record { windows = c.are_names.ensures; beside_root = c.self.inside.views; root_first = refl; views = c.are_names-2.ensures; bitmaps = c.are_names-3.ensures })
