use Rattle.std.proofs.Common.{sym}
use Rattle.be_said.proofs.NameLemmas.{number_in_by}
use Rattle.be_written.specs.Names.{app_actor}
use Rattle.be_report.proofs.naming.app_acting.Goals as goal

pub loop-place-init : goal.loop-place-init
loop-place-init c = sym (number_in_by (λ line. app_actor line.name) c.args.word.now c.args.lines.now)
