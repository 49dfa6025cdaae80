use Rattle.std.proofs.Common.{sym, ap, ◌∙◌, option_map, refl}
use Rattle.hall_counters.proofs.counters.get_one.Goals as goal

pub returns-clause-got : goal.returns-clause-got
returns-clause-got c = (c.unwrap.result.now, c.get.new.self, sym c.get_mut.ensures.value ∙ ap (option_map (λ x. x.now)) c.unwrap.ensures, refl, c.get.ensures.count, c.get.ensures.log)
