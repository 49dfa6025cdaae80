use Rattle.std.proofs.Common.{rules, ◌≡◌, ◌≤◌, ◌+◌, false, length, nat_lt, vec_capacity, vec_len}
use Rattle.std.proofs.Common.{sym, ap, ◌∙◌, subst, arith}
use Rattle.std.specs.Prelude.{insert}
use Rattle.std.proofs.lemmas.List.Edits.{length-insert}
use Rattle.std.proofs.lemmas.List.Sums.{prefix_len-le-length}
use Rattle.be_workers.specs.Wanted.{below, inserted, stands_at}
use Rattle.be_workers.proofs.Wanted.{inserted_new, inserted_there}
use Rattle.be_workers.proofs.wants.insert.Goals as goal

-- another one stands there
is_new : (c : goal.After-insert)
    → stands_at c.args.list.now.items (below c.args.place c.args.list.now.items) c.args.place ≡ false
is_new c = search rules

pub returns-then-stands_at-clause-places : goal.returns-then-stands_at-clause-places
returns-then-stands_at-clause-places c =
    inserted_there c.args.place c.args.list.now.items (search rules)

pub insert-requires : goal.insert-requires
insert-requires c =
    let short = prefix_len-le-length (λ q. nat_lt q c.args.place) c.args.list.now.items in
    let at : c.below-at.result ≡ below c.args.place c.args.list.now.items = search rules in
    let long : vec_len c.args.list.now ≡ length c.args.list.now.items =
    sym c.as_slice.ensures.len ∙ ap length c.as_slice.ensures.value in
    subst (λ n. n ≤ vec_len c.args.list.now) (sym at)
    (subst (λ n. below c.args.place c.args.list.now.items ≤ n) (sym long) short)

pub unwrap-requires : goal.unwrap-requires
unwrap-requires c =
    let qs = c.args.list.now.items in
    let p = c.args.place in
    let is = inserted_new p qs (is_new c) in
    let few : length (inserted p qs) ≤ vec_capacity c.args.list.now = c.requires in
    let short : below p qs ≤ length qs = prefix_len-le-length (λ q. nat_lt q p) qs in
    let long : length (inserted p qs) ≡ length qs + 1 =
    sym (ap length is) ∙ length-insert qs (below p qs) p short in
    c.insert.ensures.succeeds (omega arith)

pub returns-clause-places : goal.returns-clause-places
returns-clause-places c =
    let qs = c.args.list.now.items in
    let p = c.args.place in
    let at : c.below-at.result ≡ below p qs = search rules in
    let new : stands_at qs (below p qs) p ≡ false = search rules in
    (rw c.unwrap.ensures at c.insert.ensures.items)
    ∙ (ap (λ n. insert qs n p) at ∙ inserted_new p qs new)
