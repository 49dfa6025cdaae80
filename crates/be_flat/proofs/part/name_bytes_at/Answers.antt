use Rattle.std.proofs.Common.{rules, ◌≡◌, ℕ, true, false, take, Ok, ap, ◌∙◌, arith}
use Rattle.std.proofs.lemmas.Result.{err_from_is_err_and}
use Rattle.be_flat.specs.Reading.{goes_on_name}
use Rattle.be_flat.proofs.Loops.{next_stands, goes_on, is_bad, ends, is_done}
use Rattle.be_flat.proofs.part.name_bytes_at.Goals as goal

pub returns-in_err-byte : goal.returns-in_err-byte
returns-in_err-byte c =
    let p = err_from_is_err_and c.from_residual.result c.from_residual.ensures.1 in
    rw (p.1, p.2) (ends goes_on_name c.args.length c.loop-place.place _ c.loop-place.cursor c.in_err-byte.field-0.0 _ c.loop-place-test.true c.in_err-byte.ensures c.loop-place.invariant.read)

pub returns-then-not-goes_on_name : goal.returns-then-not-goes_on_name
returns-then-not-goes_on_name c =
    let start = c.rest-start.result.now in
    let i = c.loop-place.place in
    let b = c.in_ok-byte.byte in
    let fails : goes_on_name (take i start) b ≡ false = search rules in
    rw c.at-at.ensures (is_bad goes_on_name c.args.length i _ c.loop-place.cursor b c.byte.new.self _ c.loop-place-test.true c.in_ok-byte.ensures fails c.loop-place.invariant.read)

pub loop-place-preserved : goal.loop-place-preserved
loop-place-preserved c =
    let start = c.rest-start.result.now in
    let i = c.loop-place.place in
    let b = c.in_ok-byte.byte in
    let passes : goes_on_name (take i start) b ≡ true = search rules in
    let next = next_stands start i c.loop-place.cursor b c.byte.new.self c.loop-place.invariant.stands c.in_ok-byte.ensures in
    record {
      stands = next.0;
      read = rw next.1 (goes_on goes_on_name c.args.length i _ c.loop-place.cursor b c.byte.new.self _ c.loop-place-test.true c.in_ok-byte.ensures passes c.loop-place.invariant.read);
      most = omega (arith, c.loop-place-test.true);
    }

pub returns : goal.returns
returns c =
    let i = c.loop-place.place in
    let same : i ≡ c.args.length = omega (arith, c.loop-place-test.false, c.loop-place.invariant.most) in
    is_done goes_on_name c.args.length i _ c.loop-place.cursor _ c.loop-place-test.false c.loop-place.invariant.read ∙ ap (λ (k : ℕ). Ok (take k c.rest-start.result.now, c.loop-place.cursor)) same
