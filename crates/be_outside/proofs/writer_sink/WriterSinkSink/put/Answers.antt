use Rattle.std.proofs.Common.{◌≡◌, ℕ, ◌+◌, ◌-◌, List, ◌++◌, length, take, drop, arith, ap, sym, ◌∙◌, subst}
use Rattle.std.proofs.lemmas.List.{take_rest}
use Rattle.std.proofs.Math.Seq.{take-add}
use Rattle.std.specs.Io.KnownBytes.{Appends}
use Rattle.std.proofs.KnownBytes.{Appends-trans}
use Rattle.be_outside.proofs.writer_sink.WriterSinkSink.put.Goals as goal

-- what was put before, and what the writer took of the rest
take-more : (xs : List ℕ) (done count : ℕ) → take done xs ++ take count (take (length xs - done) (drop done xs)) ≡ take (done + count) xs
take-more xs done count = ap (λ l. take done xs ++ take count l) (take_rest xs done) ∙ sym (take-add done count xs)

pub loop-done-preserved : goal.loop-done-preserved
loop-done-preserved g c =
    let before = c.loop-done.invariant in (
      omega (arith, c.in-Ok.ensures.bound),
      before.1,
      subst (Appends _ _) (take-more c.args.piece.now c.loop-done.done c.in-Ok.count) (Appends-trans _ _ _ _ _ before.2 c.in-Ok.ensures.bytes),
    )
