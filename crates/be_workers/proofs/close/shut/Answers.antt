use Rattle.std.proofs.Common.{Any, sym, subst}
use Rattle.be_hall.specs.Closing.{Closes}
use Rattle.be_hall.specs.Words.{in_hand, opened, view_of}
use Rattle.be_workers.specs.Turned.{HasStop}
use Rattle.be_workers.specs.Workers.{Finishes}
use Rattle.be_workers.proofs.Ending.{finished}
use Rattle.be_workers.proofs.close.shut.Goals as goal

pub returns-in-Ok-clause-finished : goal.returns-in-Ok-clause-finished
returns-in-Ok-clause-finished g c =
    let machine = g.W.Parts.machine in
    let meaning = g.W.Parts.meaning in
    let stops = g.W.Turns.stops in
    let i = c.loop.invariant in
    let hall = c.args.hall in
    let rules = (opened meaning hall).rules in
    let pass = c.loop.open.1 in
    let closed = c.in-Ok.closed in
    let closes =
    subst (λ h. Closes machine meaning g.W.Parts.log (opened meaning h) (view_of pass)
    (in_hand pass) closed.parts.items closed.history.items) i.2 c.in-Ok.ensures.closed in
    let sound = subst (λ r. (machine r).sound (opened meaning hall).opening)
    (sym hall.same_rules) c.requires.sound in
    let stop = subst (λ v. Any (HasStop stops) v.ended) (sym i.5) c.requires.stops in
    subst (λ r. Finishes (λ _. machine r) meaning stops hall closed) hall.same_rules
    (finished machine meaning g.W.Parts.log stops (g.W.Turns.activities rules)
    (g.W.Turns.legal rules) (opened meaning hall) (view_of pass) (in_hand pass) closed.parts.items
    closed.history.items closes (g.met.W.Parts.lawful rules) (g.met.W.Turns.turning rules) sound
    stop)
