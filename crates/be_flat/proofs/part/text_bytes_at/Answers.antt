use Rattle.std.proofs.Common.{rules, ◌≡◌, ℕ, true, false, take, Ok, ap, ◌∙◌, arith}
use Rattle.std.proofs.lemmas.Result.{err_from_is_err_and}
use Rattle.be_message.specs.Names.{is_text_byte}
use Rattle.be_flat.proofs.Loops.{next_stands, goes_on, is_bad, ends, is_done}
use Rattle.be_flat.proofs.part.text_bytes_at.Goals as goal

pub returns-in_err-byte : goal.returns-in_err-byte
returns-in_err-byte c =
    let p = err_from_is_err_and c.from_residual.result c.from_residual.ensures.1 in
    rw (p.1, p.2) (ends (λ read b. is_text_byte b) c.args.length c.loop.counter _ c.loop.cursor c.in_err-byte.field-0.0 _ c.loop-test.true c.in_err-byte.ensures c.loop.invariant.read)

pub returns-then-not-is_text_byte : goal.returns-then-not-is_text_byte
returns-then-not-is_text_byte c =
    let start = c.rest-start.result.now in
    let i = c.loop.counter in
    let b = c.in_ok-byte.byte in
    let fails : is_text_byte b ≡ false = search rules in
    rw c.at-at.ensures (is_bad (λ read b. is_text_byte b) c.args.length i _ c.loop.cursor b c.byte.new.self _ c.loop-test.true c.in_ok-byte.ensures fails c.loop.invariant.read)

pub loop-preserved : goal.loop-preserved
loop-preserved c =
    let start = c.rest-start.result.now in
    let i = c.loop.counter in
    let b = c.in_ok-byte.byte in
    let passes : is_text_byte b ≡ true = search rules in
    let next = next_stands start i c.loop.cursor b c.byte.new.self c.loop.invariant.stands c.in_ok-byte.ensures in
    record {
      stands = next.0;
      read = rw next.1 (goes_on (λ read b. is_text_byte b) c.args.length i _ c.loop.cursor b c.byte.new.self _ c.loop-test.true c.in_ok-byte.ensures passes c.loop.invariant.read);
      most = omega (arith, c.loop-test.true);
    }

pub returns : goal.returns
returns c =
    let i = c.loop.counter in
    let same : i ≡ c.args.length = omega (arith, c.loop-test.false, c.loop.invariant.most) in
    is_done (λ read b. is_text_byte b) c.args.length i _ c.loop.cursor _ c.loop-test.false c.loop.invariant.read ∙ ap (λ (k : ℕ). Ok (take k c.rest-start.result.now, c.loop.cursor)) same
