use Rattle.std.proofs.Common.{refl, subst, arith, slice_index_or, ◌+◌}
use Rattle.std.specs.Fork.{ChangesAt}
use Rattle.be_workers.proofs.fork.for_each.Goals as goal

pub returns-in-Apart : goal.returns-in-Apart
returns-in-Apart g c i d less =
    let s = c.args.s.now in let t = c.each_from.new.s in (
      refl,
      subst (λ k. ChangesAt g.F.Fn c.args.f.now k (slice_index_or s i d) (slice_index_or t i d))
          {x = 0 + i} (omega arith) (c.each_from.ensures.each i d less),
    )
