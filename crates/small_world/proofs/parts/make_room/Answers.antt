use Rattle.std.proofs.Common.{sym, ap, ◌∙◌, option_map, refl}
use Rattle.small_world.proofs.parts.make_room.Goals as goal

pub returns-clause-same : goal.returns-clause-same
returns-clause-same c = (
  c.unwrap.result.now,
  c.reserve.new.self,
  sym c.get_mut.ensures.value
      ∙ ap (option_map (λ x. x.now)) c.unwrap.ensures,
  refl,
  c.reserve.ensures.count,
  c.reserve.ensures.log,
  c.reserve.ensures.room,
)
