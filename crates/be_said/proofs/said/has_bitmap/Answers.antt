use Rattle.std.proofs.Common.{sym}
use Rattle.be_said.proofs.NameLemmas.{any_by}
use Rattle.be_said.proofs.said.has_bitmap.Goals as goal

pub loop-line-init : goal.loop-line-init
loop-line-init c = sym (any_by (λ line. line.name) c.args.word.now c.args.lines.now)
