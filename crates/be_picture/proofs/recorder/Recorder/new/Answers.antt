use Rattle.std.proofs.Common.{sym, ap, ◌∙◌, subst, arith}
use Rattle.be_picture.specs.Recording.{IsRecorded, open_pushes}
use Rattle.be_picture.proofs.Recorded.{none_open, none_recorded}
use Rattle.be_picture.proofs.recorder.Recorder.new.Goals as goal

pub invariant_of-result : goal.invariant_of-result
invariant_of-result c = (
  subst IsRecorded (sym c.new.ensures.items) none_recorded,
  none_open ∙ ap open_pushes (sym c.new.ensures.items),
  omega arith,
)
