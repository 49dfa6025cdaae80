use Rattle.std.proofs.Common.{Some, sym, ap, ◌∙◌, subst}
use Rattle.be_hall.specs.Hands.{part_at}
use Rattle.be_parts.specs.Parts.{hand_with}
use Rattle.be_parts.specs.declared.part.Part.TheVariants as kinds
use Rattle.be_steps.specs.Waiters.{HasWaiter, IsTold}
use Rattle.be_steps.proofs.waiters.tell.Goals as goal

pub cell_to_change-requires : goal.cell_to_change-requires
cell_to_change-requires c =
    let has : HasWaiter c.requires.0 c.args.held.now.parts (Some c.in-Some.m) = subst (HasWaiter c.requires.0 c.args.held.now.parts) c.in-Some.is c.requires.1 in
    (has.0, ap (part_at c.args.held.now.parts) (c.cell_place.ensures c.requires.0) ∙ has.1)

pub returns-in-Some : goal.returns-in-Some
returns-in-Some c d =
    subst (λ waits. IsTold d c.args.message waits c.args.held.now (hand_with c.args.held.now c.cell_place.result (kinds.Cell c.tell.new.self))) (sym c.in-Some.is) (
      c.cell_to_change.result.now,
      c.tell.new.self,
      ap (part_at c.args.held.now.parts) (sym (c.cell_place.ensures d)) ∙ c.cell_to_change.ensures.value,
      ap (λ n. hand_with c.args.held.now n (kinds.Cell c.tell.new.self)) (c.cell_place.ensures d),
      c.tell.ensures.slice,
      c.tell.ensures.log,
    )
