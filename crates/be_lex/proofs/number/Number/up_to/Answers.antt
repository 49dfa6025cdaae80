use Rattle.std.proofs.Common.{sym, arith}
use Rattle.be_lex.proofs.Ranges.{between_naturals, between_naturals_le, signed_below_zero, unsigned_is}
use Rattle.be_lex.proofs.number.Number.up_to.Goals as goal

pub returns-then-self : goal.returns-then-self
returns-then-self c = signed_below_zero c.self.inside.is_negative c.self.inside.digits.now c.args.self.now _ c.if-self.true c.self.invariant c.self.view_is

pub returns-in_err-number : goal.returns-in_err-number
returns-in_err-number c =
    let is = unsigned_is c.self.inside.is_negative c.self.inside.digits.now c.args.self.now c.if-self.false c.self.view_is in
    let fits = c.ranges.high.fits in
    rw (c.from_residual.ensures, is) (λ h. let le = between_naturals_le _ _ h in c.in_err-number.ensures (omega arith))

pub returns-then-number-high : goal.returns-then-number-high
returns-then-number-high c =
    let is = unsigned_is c.self.inside.is_negative c.self.inside.digits.now c.args.self.now c.if-self.false c.self.view_is in
    let number = c.in_ok-number.ensures in
    rw is (between_naturals _ _ (rw (sym number.1) c.if-number-high.true), number.1)

pub returns-else-number-high : goal.returns-else-number-high
returns-else-number-high c =
    let is = unsigned_is c.self.inside.is_negative c.self.inside.digits.now c.args.self.now c.if-self.false c.self.view_is in
    let number = c.in_ok-number.ensures in
    rw is (λ h. let le = between_naturals_le _ _ h in absurd (omega arith))
