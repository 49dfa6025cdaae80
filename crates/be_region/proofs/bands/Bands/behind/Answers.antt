use Rattle.std.proofs.Common.{◌≡◌, length, arith, rules}
use Rattle.std.proofs.lemmas.Int.{ints}
use Rattle.std.proofs.lemmas.List.{drop_all}
use Rattle.be_region.proofs.BandLemmas.{open_first}
use Rattle.be_region.proofs.bands.Bands.behind.Goals as goal

pub returns-clause-bands : goal.returns-clause-bands
returns-clause-bands c =
    let rs = c.args.rects.items in
    let n : c.len-kept.result ≡ length rs = search rules in
    open_first _ (omega (arith, n)) (drop_all c.len-kept.result rs (omega (arith, n))) c.new.ensures.items (omega (arith, ints))
