use Rattle.std.proofs.Common.{take}
use Rattle.be_update.specs.Rows.{AreAmong}
use Rattle.be_update.proofs.listing.listed_among.Given as goal

abbrev pub invariant-loop-view : goal.invariant-loop-view
invariant-loop-view l = AreAmong (take l.view-index l.order) l.views.items l.tree l.session
