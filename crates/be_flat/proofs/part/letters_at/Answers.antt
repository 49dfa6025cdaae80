use Rattle.std.proofs.Common.{rules, ◌≡◌, ◌+◌, ℕ, true, false, ◌++◌, ◌∷◌, [], take, Ok, ap, sym, ◌∙◌, arith}
use Rattle.std.proofs.lemmas.List.{length-take-le}
use Rattle.std.proofs.lemmas.Result.{err_from_is_err_and}
use Rattle.be_flat.specs.Codes.{begin_code}
use Rattle.be_flat.proofs.Loops.{next_stands, goes_on, is_bad, ends, is_done}
use Rattle.be_flat.proofs.part.letters_at.Goals as goal

pub returns-in_err-_letter : goal.returns-in_err-_letter
returns-in_err-_letter c =
    let p = err_from_is_err_and c.from_residual.result c.from_residual.ensures.1 in
    rw (p.1, p.2) (ends (λ read b. begin_code c.args.nested (read ++ b ∷ [])) 4 c.loop-place.place _ c.loop-place.cursor c.in_err-_letter.field-0.0 _ c.loop-place-test.true c.in_err-_letter.ensures c.loop-place.invariant.read)

pub returns-then-not-begin_code : goal.returns-then-not-begin_code
returns-then-not-begin_code c =
    let start = c.rest-start.result.now in
    let i = c.loop-place.place in
    let b = c.in_ok-_letter._letter in
    let next = next_stands start i c.loop-place.cursor b c.byte.new.self c.loop-place.invariant.stands c.in_ok-_letter.ensures in
    let fails : begin_code c.args.nested (take i start ++ b ∷ []) ≡ false = rw (← next.1) (search rules) in
    rw c.at-at.ensures (is_bad (λ read b. begin_code c.args.nested (read ++ b ∷ [])) 4 i _ c.loop-place.cursor b c.byte.new.self _ c.loop-place-test.true c.in_ok-_letter.ensures fails c.loop-place.invariant.read)

pub loop-place-preserved : goal.loop-place-preserved
loop-place-preserved c =
    let start = c.rest-start.result.now in
    let i = c.loop-place.place in
    let b = c.in_ok-_letter._letter in
    let next = next_stands start i c.loop-place.cursor b c.byte.new.self c.loop-place.invariant.stands c.in_ok-_letter.ensures in
    let passes : begin_code c.args.nested (take i start ++ b ∷ []) ≡ true = rw (← next.1) (search rules) in
    record {
      stands = next.0;
      read = rw next.1 (goes_on (λ read b. begin_code c.args.nested (read ++ b ∷ [])) 4 i _ c.loop-place.cursor b c.byte.new.self _ c.loop-place-test.true c.in_ok-_letter.ensures passes c.loop-place.invariant.read);
      most = omega (arith, c.loop-place-test.true);
    }

pub returns : goal.returns
returns c =
    let i = c.loop-place.place in
    let same : i ≡ 4 = omega (arith, c.loop-place-test.false, c.loop-place.invariant.most) in
    is_done (λ read b. begin_code c.args.nested (read ++ b ∷ [])) 4 i _ c.loop-place.cursor _ c.loop-place-test.false c.loop-place.invariant.read ∙ ap (λ (k : ℕ). Ok (take k c.rest-start.result.now, c.loop-place.cursor)) same

pub slice_bounds-begin_code-end : goal.slice_bounds-begin_code-end
slice_bounds-begin_code-end c =
    let start = c.rest-start.result.now in
    let next = next_stands start c.loop-place.place c.loop-place.cursor c.in_ok-_letter._letter c.byte.new.self c.loop-place.invariant.stands c.in_ok-_letter.ensures in
    sym (length-take-le (c.loop-place.place + 1) start next.0.inside)
