use Rattle.std.proofs.Common.{rules}
use Rattle.std.specs.Fork.{AcceptsAt, ChangesAt}
use Rattle.be_workers.proofs.Places.{at_first, at_rest, by_one, by_both}
use Rattle.be_workers.proofs.fork.+apart.Goals as goal

pub each_from-at_one-requires : goal.each_from-at_one-requires
each_from-at_one-requires g t c =
    at_first (AcceptsAt g.F.Fn c.args.f.now) c.args.base c.args.s.now _ (search rules)
    c.requires.accepts.each

pub each_from-both-requires-clause-rest : goal.each_from-both-requires-clause-rest
each_from-both-requires-clause-rest g t c κs within =
    let cut = c.split_at_mut-first in record {
      each = at_rest (AcceptsAt g.F.Fn c.args.f.now) c.args.base c.args.s.now
          cut.result.0.now cut.result.1.now cut.ensures.value (search rules)
          c.requires.accepts.each;
    }

pub each_from-returns-in-1 : goal.each_from-returns-in-1
each_from-returns-in-1 g t c =
    record {
      len = search rules;
      each = by_one (ChangesAt g.F.Fn c.args.f.now) c.args.base c.args.s.now _ _ (search rules)
          c.at_one.ensures;
    }

pub each_from-returns-in_default : goal.each_from-returns-in_default
each_from-returns-in_default g t c =
    let cut = c.split_at_mut-first.ensures in
    let front = c.both.ensures.first in let back = c.both.ensures.rest in record {
      len = search rules;
      each = by_both (ChangesAt g.F.Fn c.args.f.now) c.args.base c.args.s.now _ _ _ _ cut.value
          (search rules) front.len front.each back.each;
    }
