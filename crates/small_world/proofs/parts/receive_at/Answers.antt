use Rattle.std.proofs.Common.{sym, ap, ◌∙◌, option_map, refl}
use Rattle.small_world.proofs.parts.receive_at.Goals as goal

pub returns-clause-given : goal.returns-clause-given
returns-clause-given c = (
  c.unwrap.result.now,
  c.receive.new.self,
  sym c.get_mut.ensures.value
      ∙ ap (option_map (λ x. x.now)) c.unwrap.ensures,
  refl,
  c.receive.ensures.count,
  c.receive.ensures.log,
)
