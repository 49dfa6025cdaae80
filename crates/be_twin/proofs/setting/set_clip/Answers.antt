use Rattle.std.proofs.Common.{Some}
use Rattle.be_twin.proofs.MadeLemmas.{clipped_alike}
use Rattle.be_twin.proofs.setting.set_clip.Goals as goal

pub returns-in-Some : goal.returns-in-Some
returns-in-Some c = rw c.in-Some.is (clipped_alike c.args.view c.args.pane.now c.set_region.new.pane (Some c.into_region.result) (Some c.in-Some.clip) c.into_region.ensures c.set_region.ensures)
