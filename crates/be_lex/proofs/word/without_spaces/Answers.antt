use Rattle.std.proofs.Common.{eqb, not, length, ap, arith}
use Rattle.std.proofs.lemmas.Bool.{ne_eqb, eq-eqb}
use Rattle.std.proofs.lemmas.List.Sums.{position_or_len_is}
use Rattle.be_lex.proofs.WordLemmas.{from_here}
use Rattle.be_lex.proofs.word.without_spaces.Goals as goal

pub returns-then-b-ne32 : goal.returns-then-b-ne32
returns-then-b-ne32 c =
    let place = position_or_len_is (λ b. not (eqb b 32)) c.args.text.now c.loop-place.place 0 (omega arith) (λ k h. ap not (eq-eqb _ _ (c.loop-place.invariant k h))) (λ _. ap not (ne_eqb _ _ c.if-b-ne32.true)) in
    rw place (from_here c.loop-place.place c.args.text.now)

pub returns : goal.returns
returns c =
    let place = position_or_len_is (λ b. not (eqb b 32)) c.args.text.now (length c.args.text.now) 0 (omega arith) (λ k h. ap not (eq-eqb _ _ (c.loop-place.invariant k (omega arith)))) (λ h. absurd (omega arith)) in
    rw place (from_here (length c.args.text.now) c.args.text.now)
