use Rattle.std.proofs.Common.{rules, tests, ◌≡◌}
use Rattle.std.proofs.lemmas.Iterator.{cases_from_any, YieldsList-from_slice}
use Rattle.std.proofs.lemmas.Iterator.Search.{true_from_Any}
use Rattle.be_workers.specs.declared.worker.Worker.{Worker}
use Rattle.be_workers.proofs.Some.{any_from}
use Rattle.be_workers.proofs.close.some_ends.Goals as goal

pub returns : goal.returns
returns g c =
    let xs = c.args.workers.now in
    let so = λ
    (w : Worker g.row.W.Denot g.row.W-Part.Denot g.row.W-Entry.Denot g.row.W-Ready.Denot
    g.row.W-Meaning.Denot g.W.Parts). w.end ≡ c.args.end in
    let not_so =
    λ (w : Worker g.row.W.Denot g.row.W-Part.Denot g.row.W-Entry.Denot g.row.W-Ready.Denot
    g.row.W-Meaning.Denot g.W.Parts). w.end ≡ c.args.end → ⊥ in
    let cases = cases_from_any _ _ _ so not_so c.any.ensures.ran (YieldsList-from_slice xs cc)
    (λ x q k. search (rules, tests)) (λ x q k. search (rules, tests)) in (
      λ is. any_from so not_so c.any.result xs cases is,
      λ some. true_from_Any so not_so c.any.result xs (λ w p q. q p) cases some.1
          (some.0, some.2, some.3) some.4,
    )
