use Rattle.std.proofs.Common.{sym, ap, ◌∙◌, option_map, refl}
use Rattle.small_world.proofs.parts.act_at.Goals as goal

pub returns-clause-acts : goal.returns-clause-acts
returns-clause-acts c = (
  c.unwrap.result.now,
  c.act.new.self,
  sym c.get_mut.ensures.value
      ∙ ap (option_map (λ x. x.now)) c.unwrap.ensures,
  refl,
  c.act.ensures.count,
  c.act.ensures.log,
)
