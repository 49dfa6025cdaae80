use Rattle.std.proofs.Common.{sym, subst}
use Rattle.be_machine.specs.Touched.{own_part}
use Rattle.be_script.specs.Script.{declared_by}
use Rattle.be_asking.specs.Acts.{HasHop}
use Rattle.be_asking.specs.Finding.{IsReachable}
use Rattle.be_asking.specs.Wants.{runner_in}
use Rattle.be_asking.proofs.PostsAnswered.{looper_hop}
use Rattle.be_asking.proofs.posting.hop_of.Goals as goal

pub returns-in_ok-looper-in-Looper-clause-hop : goal.returns-in_ok-looper-in-Looper-clause-hop
returns-in_ok-looper-in-Looper-clause-hop c =
    subst (λ r. HasHop (declared_by c.args.script.now) c.args.held.now.parts r c.hop_behind.result) (sym c.in-Looper.is)
    (looper_hop (declared_by c.args.script.now) c.args.held.now.parts c.in-Looper.w c.in_ok-looper-in-Looper.looper.now c.hop_behind.result
    (subst (λ r. IsReachable (declared_by c.args.script.now) c.args.held.now.parts (own_part (runner_in r))) c.in-Looper.is c.requires)
    c.in_ok-looper-in-Looper.ensures.there c.hop_behind.ensures)
