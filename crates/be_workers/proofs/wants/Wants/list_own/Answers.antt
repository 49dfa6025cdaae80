use Rattle.std.proofs.Common.{◌≤◌, [], ◌∙◌, sym, subst}
use Rattle.be_facts.proofs.Truths.{or_false}
use Rattle.be_workers.proofs.Wanted.{chosen, pushed_long}
use Rattle.be_workers.proofs.wants.Wants.list_own.Goals as goal

pub loop-place-preserved : goal.loop-place-preserved
loop-place-preserved g c =
    let i = c.loop-place.invariant in
    let n = c.loop-place.place in
    let owns = g.W.Turns.owns c.args.rules.now c.args.who in (
      (
        i.0.0,
        i.0.1,
        subst (λ k. (g.W.Parts.machine c.args.rules.now).places ≤ k)
            (sym c.put.ensures.room) i.0.2,
      ),
      pushed_long _ n c.loop-place.self.own.items _ c.put.ensures.places i.1,
      chosen owns [] _ n c.loop-place.self.own.items _ c.put.ensures.places
          (c.is_own.ensures ∙ sym (or_false (owns n))) i.2,
      i.3,
    )
