use Rattle.std.proofs.Common.{rules}
use Rattle.std.proofs.lemmas.Option.{slice_get_past, slice_get_read}
use Rattle.be_views.proofs.tree.ViewTree.mode_of.Goals as goal

pub returns-clause-mode : goal.returns-clause-mode
returns-clause-mode c = search (rules, slice_get_past, slice_get_read)
