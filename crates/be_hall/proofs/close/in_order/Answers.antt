use Rattle.std.proofs.Common.{◌++◌, map, ap, ◌∙◌}
use Rattle.std.proofs.lemmas.List.Sorted.{sum_by-IsPermutation}
use Rattle.be_hall.specs.Numbers.{one_if}
use Rattle.be_hall.proofs.Ordered.{history_of}
use Rattle.be_hall.proofs.close.in_order.Goals as goal

pub returns : goal.returns
returns g c =
    let moved = c.sort_pairs.ensures.permutation in
    λ h stand each. c.put_entries.ensures ∙ (ap (λ l. l ++ map (λ x. x.1) c.sort_pairs.new.pairs.items) c.requires.empty
    ∙ history_of h c.args.pairs.items c.sort_pairs.new.pairs.items moved c.sort_pairs.ensures.sorted (λ n. sum_by-IsPermutation (λ x. one_if x.0 n) _ _ moved) stand each)
