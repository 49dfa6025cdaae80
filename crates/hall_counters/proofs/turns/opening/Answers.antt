use Rattle.std.proofs.Common.{◌∙◌, ap, subst, sym, length, ◌+◌, ◌≤◌}
use Rattle.be_facts.proofs.Lists.{length_push}
use Rattle.hall_counters.specs.Opening.{EachOpens}
use Rattle.hall_counters.proofs.Starting.{opens_snoc}
use Rattle.hall_counters.proofs.turns.opening.Goals as goal

pub loop-place-preserved : goal.loop-place-preserved
loop-place-preserved c =
    let i = c.loop-place.invariant in (
      ap length c.push_reserved.ensures.items ∙ (length_push c.loop-place.parts.items c.new.result ∙ ap (λ n. n + 1) i.0),
      subst EachOpens (sym c.push_reserved.ensures.items) (opens_snoc c.loop-place.parts.items c.new.result _ _ c.new.ensures.count c.requires.0 c.requires.1 c.new.ensures.log i.1),
      subst (λ n. c.args.places ≤ n) (sym c.push_reserved.ensures.capacity) i.2,
    )
