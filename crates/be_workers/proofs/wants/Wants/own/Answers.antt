use Rattle.std.proofs.Common.{[], length, ap, ◌∙◌, arith}
use Rattle.be_workers.proofs.Wanted.{wanted_short}
use Rattle.be_workers.proofs.wants.Wants.own.Goals as goal

pub copy-requires : goal.copy-requires
copy-requires g c =
    let places = (g.W.Parts.machine c.args.rules.now).places in
    let short = wanted_short (g.W.Turns.owns c.args.rules.now c.args.who) [] places in
    let long = ap length (c.as_slice.ensures.value ∙ c.list_own.ensures.own) in
    let room = c.list_own.ensures.suits.0.0 in
    omega arith
