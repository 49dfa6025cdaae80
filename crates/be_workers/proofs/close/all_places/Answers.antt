use Rattle.std.proofs.Common.{◌<◌, ◌≤◌, ◌+◌, ◌++◌, ◌∷◌, [], All, length, ◌∙◌, ap, subst, sym, arith}
use Rattle.be_facts.proofs.Lists.{length_push}
use Rattle.be_hall.specs.Hands.{rises_from}
use Rattle.be_hall.proofs.UpFrom.{up_snoc, up_rises, up_below}
use Rattle.be_workers.proofs.close.all_places.Goals as goal

pub loop-place-preserved : goal.loop-place-preserved
loop-place-preserved c =
    let i = c.loop-place.invariant in (
      c.push_reserved.ensures.items
          ∙ (ap (λ l. l ++ c.loop-place.place ∷ []) i.0 ∙ sym (up_snoc c.loop-place.place)),
      ap length c.push_reserved.ensures.items
          ∙ (length_push c.loop-place.all.items c.loop-place.place ∙ ap (λ n. n + 1) i.1),
      subst (λ n. c.args.places ≤ n) (sym c.push_reserved.ensures.capacity) i.2,
    )

pub returns-clause-rise : goal.returns-clause-rise
returns-clause-rise c = ap (rises_from 0) c.loop-place.invariant.0 ∙ up_rises 0 c.loop-place.place

pub returns-clause-there : goal.returns-clause-there
returns-clause-there c =
    subst (All (λ p. p < c.args.places)) (sym c.loop-place.invariant.0)
    (up_below c.args.places c.loop-place.place 0 (omega arith))
