use Rattle.std.proofs.Common.{rules, ap, ◌∙◌}
use Rattle.be_hall.proofs.KeepPlaces.{lets_go_keeps_at}
use Rattle.be_hall.proofs.hall.Hall.let_go.Goals as goal

pub swap-requires : goal.swap-requires
swap-requires g c = (
  search rules,
  search rules,
  lets_go_keeps_at _ _ _ _ _ _ _ _ _ c.args.part _ c.requires.marked.0 c.lock_of-word.ensures (ap (λ m. m.1) c.exchange.ensures.3) (ap (λ m. m.0.marks) c.exchange.ensures.3 ∙ c.requires.marked.1) c.requires.marked.2,
)
