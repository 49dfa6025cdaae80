use Rattle.std.proofs.Common.{rules, SFits, w32}
use Rattle.std.proofs.lemmas.Int.{to_z-of_z}
use Rattle.be_views.proofs.ClipLemmas.{clip_is}
use Rattle.be_views.proofs.clip.clip_of.Goals as goal

pub returns : goal.returns
returns c =
    let l : SFits w32 c.in_ok-reach.reach.left = search rules in
    let m : SFits w32 c.in_ok-reach.reach.top = search rules in
    let free = simp to_z-of_z at c.in_ok-leave_out.ensures in
    clip_is c.args.views.now c.args.v c.in_ok-reach.reach.left c.in_ok-reach.reach.top c.in_ok-reach.reach.region c.leave_out.new.region c.requires.parents c.requires.there c.in_ok-reach.ensures.reach free
