use Rattle.std.proofs.Common.{refl}
use Rattle.be_noted.proofs.Updates.{survey_copy}
use Rattle.be_noted.proofs.listing.views_in.Goals as goal

pub begin-requires : goal.begin-requires
begin-requires c =
    survey_copy c.args.pane.now c.args.survey c.region.result.now c.in_ok-spans.spans c.in_ok-tree.tree
    c.region.ensures.region c.in_ok-tree.ensures c.in_ok-spans.ensures.cells c.requires _ refl refl refl
