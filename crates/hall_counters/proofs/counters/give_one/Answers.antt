use Rattle.std.proofs.Common.{sym, ap, ◌∙◌, option_map, refl}
use Rattle.hall_counters.proofs.counters.give_one.Goals as goal

pub returns-clause-given : goal.returns-clause-given
returns-clause-given c = (c.unwrap.result.now, c.give.new.self, sym c.get_mut.ensures.value ∙ ap (option_map (λ x. x.now)) c.unwrap.ensures, refl, c.give.ensures.count, c.give.ensures.log)
