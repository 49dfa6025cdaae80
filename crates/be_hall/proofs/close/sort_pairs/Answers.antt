use Rattle.std.proofs.Common.{rules}
use Rattle.std.proofs.lemmas.List.Sorted.{IsNonDecreasingBy-from_sort_by_key}
use Rattle.be_hall.proofs.close.sort_pairs.Goals as goal

pub returns-in-Ok-clause-sorted : goal.returns-in-Ok-clause-sorted
returns-in-Ok-clause-sorted g c =
    IsNonDecreasingBy-from_sort_by_key (λ x. x.0) _ c.in-Ok.ensures.sorted (λ a r q k. search rules)

pub returns-in-Err-clause-sorted : goal.returns-in-Err-clause-sorted
returns-in-Err-clause-sorted g c =
    IsNonDecreasingBy-from_sort_by_key (λ x. x.0) _ c.sort_unstable_by_key.ensures.sorted (λ a r q k. search rules)
