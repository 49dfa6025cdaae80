use Rattle.std.proofs.Common.{eqb, sym, arith}
use Rattle.std.proofs.lemmas.Bool.{ne_eqb, eq-eqb}
use Rattle.std.proofs.lemmas.List.Sums.{position_or_len_is}
use Rattle.be_lex.proofs.word.place_of.Goals as goal

pub returns-then-b-byte-clause-place : goal.returns-then-b-byte-clause-place
returns-then-b-byte-clause-place c =
    sym (position_or_len_is (λ b. eqb b c.args.byte) c.args.bytes.now c.loop-place.place 0 (omega arith) (λ k h. ne_eqb _ _ (c.loop-place.invariant k h)) (λ _. eq-eqb _ _ c.if-b-byte.true))

pub returns-clause-place : goal.returns-clause-place
returns-clause-place c =
    sym (position_or_len_is (λ b. eqb b c.args.byte) c.args.bytes.now _ 0 (omega arith) (λ k h. ne_eqb _ _ (c.loop-place.invariant k (omega arith))) (λ h. absurd (omega arith)))
