use Rattle.be_descent.proofs.PieceLemmas.{taken_clean, taken_read}
use Rattle.be_descent.proofs.reading.read.Goals as goal

pub returns-in-Some-clause-whole : goal.returns-in-Some-clause-whole
returns-in-Some-clause-whole c whole =
    let s = c.args.spans.now in
    let source = c.args.source.now in
    let area = c.args.area in
    let taken = c.in-Some.taken in
    let piece = c.begin.new.self in
    taken_clean s source area taken piece c.in-Some.ensures
    (taken_read s source area taken piece c.in-Some.ensures c.begin.ensures.region
    c.begin.ensures.cells)
