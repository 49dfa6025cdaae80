use Rattle.std.proofs.Common.{◌≡◌, ◌≤◌, ◌+◌, ◌++◌, ◌∷◌, [], false, length, map, All, sym, ap, ◌∙◌, subst, arith}
use Rattle.std.proofs.lemmas.List.Elements.{All-push}
use Rattle.be_facts.proofs.Lists.{map_push, length_push}
use Rattle.be_hall.specs.Machine.{AllFit}
use Rattle.be_hall.specs.Numbers.{total}
use Rattle.small_world.specs.declared.counter.Counter.{Counter}
use Rattle.small_world.specs.Changing.{Fit}
use Rattle.small_world.specs.Counting.{closing_place, is_closed, IsSound, passing}
use Rattle.small_world.specs.Counters.{count_of, log_of}
use Rattle.small_world.specs.Opening.{opening_below, opening_counts}
use Rattle.small_world.proofs.Starting.{opening_next, sound_at_start, open_at_start, fit_at_start, cost_at_start}
use Rattle.small_world.proofs.world.World.opening.Goals as goal
use Rattle.small_world.proofs.world.World.opening.Goals.{After-loop-activity}

-- all of them are there
whole : (c : After-loop-activity) →
    map count_of c.loop-activity.parts.items ≡ opening_counts c.args.self.now c.args.each c.args.stored
whole c =
    let many : c.loop-activity.activity ≡ closing_place c.args.self.now + 1 = omega arith in
    c.loop-activity.invariant.0 ∙ ap (opening_below c.args.self.now c.args.each c.args.stored) many

pub loop-activity-preserved : goal.loop-activity-preserved
loop-activity-preserved c =
    let w = c.args.self.now in
    let i = c.loop-activity.invariant in
    let items = c.loop-activity.parts.items in
    let new = c.new.result in
    let grown = c.push_reserved.ensures.items in
    let next = opening_next w c.args.each c.args.stored c.loop-activity.activity in
    let count = c.new.ensures.count ∙ c.opening_count.ensures in (
      ap (map count_of) grown ∙ (map_push count_of items new
          ∙ ((λ k. i.0 k ++ count k ∷ []) ∙ sym next)),
      ap length grown ∙ (length_push items new ∙ ap (λ n. n + 1) i.1),
      subst (λ n. c.closing-places.result + 1 ≤ n) (sym c.push_reserved.ensures.capacity) i.2,
      subst (All (λ (x : Counter). log_of x ≡ [])) (sym grown)
          (All-push (λ (x : Counter). log_of x ≡ []) items new i.3 c.new.ensures.log),
    )

pub returns-clause-sound : goal.returns-clause-sound
returns-clause-sound c =
    let w = c.args.self.now in
    subst (IsSound w) (sym (whole c)) (sound_at_start w c.args.each c.args.stored)

pub returns-clause-unclosed : goal.returns-clause-unclosed
returns-clause-unclosed c =
    let w = c.args.self.now in
    subst (λ l. is_closed w l ≡ false) (sym (whole c)) (open_at_start w c.args.each c.args.stored)

pub returns-clause-budgets : goal.returns-clause-budgets
returns-clause-budgets c =
    let w = c.args.self.now in
    subst (λ l. total (passing w).budget l ≤ 4611686018427387904) (sym (whole c))
    (cost_at_start w c.args.each c.args.stored (omega arith) (omega arith) (omega arith))

pub returns-clause-fits : goal.returns-clause-fits
returns-clause-fits c =
    let w = c.args.self.now in
    subst (AllFit Fit 0) (sym (whole c)) (fit_at_start w c.args.each c.args.stored (omega arith))
