-- A byte's runs are those that going through all bytes found.
use Rattle.std.proofs.Common.{arith}
use Rattle.be_font.proofs.RunLemmas.{none_where_zero, run_where_some, run_is, run_some, first_of, count_of}
use Rattle.be_font.proofs.glyph.run_in.Goals as goal

pub returns-then-rest-eq0 : goal.returns-then-rest-eq0
returns-then-rest-eq0 c = none_where_zero c.args.bits c.args.from (omega arith) c.requires c.if-rest-eq0.true

pub overflow_sub-result : goal.overflow_sub-result
overflow_sub-result c =
    let bits = c.args.bits in
    let from = c.args.from in
    let run = run_where_some bits from (omega arith) c.requires c.if-rest-eq0.false in
    rw c.leading_ones-length.ensures (run_some bits from (first_of bits from) (count_of bits from) run)

pub returns : goal.returns
returns c =
    let bits = c.args.bits in
    let from = c.args.from in
    let run = run_where_some bits from (omega arith) c.requires c.if-rest-eq0.false in
    rw c.leading_ones-length.ensures (run_is bits from (first_of bits from) (count_of bits from) run)
