use Rattle.std.proofs.Common.{◌+◌, ap, ◌∙◌, arith}
use Rattle.std.specs.Str.Parse.{digits_value}
use Rattle.std.proofs.lemmas.List.{take_all}
use Rattle.be_lex.proofs.Digits.{digits_value_grows, digits_value_step}
use Rattle.be_lex.proofs.number.natural.Goals as goal

pub returns-in_err-number : goal.returns-in_err-number
returns-in_err-number c =
    let step = digits_value_step c.args.digits.now c.loop-digit.digit-index c.requires c.loop-digit-test.true in
    let grows = digits_value_grows c.args.digits.now (c.loop-digit.digit-index + 1) in
    let before = c.loop-digit.invariant.0 in
    rw c.from_residual.ensures (λ h. c.in_err-number.ensures (omega arith))

pub loop-digit-preserved : goal.loop-digit-preserved
loop-digit-preserved c =
    let step = digits_value_step c.args.digits.now c.loop-digit.digit-index c.requires c.loop-digit-test.true in
    let before = c.loop-digit.invariant.0 in
    let next = c.in_ok-number.ensures in
    (omega arith, omega arith)

pub returns : goal.returns
returns c =
    let all = c.loop-digit.invariant.0 ∙ ap (digits_value 10) (take_all c.loop-digit.digit-index c.args.digits.now c.loop-digit-test.false) in
    let within = c.loop-digit.invariant.1 in
    (omega arith, all)
