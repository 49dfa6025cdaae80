use Rattle.std.proofs.Common.{rules, pos, ◌-ℤ◌, SFits, w32, nat_abs, arith}
use Rattle.std.proofs.lemmas.Int.{to_z-of_z, ints}
use Rattle.be_facts.proofs.Numbers.{unsigned_abs_is}
use Rattle.be_paint.proofs.BitLemmas.{left_bit, right_bit, right_before, out_bit}
use Rattle.be_paint.proofs.glyphs.placed.Goals as goal

pub returns-then-left-ltminus7-clause-inside : goal.returns-then-left-ltminus7-clause-inside
returns-then-left-ltminus7-clause-inside c k column h at =
    let x : SFits w32 c.args.left = search rules in
    out_bit c.args.byte k column (omega (arith, ints))

pub returns-then-left-lt0-clause-inside : goal.returns-then-left-lt0-clause-inside
returns-then-left-lt0-clause-inside c k column h at =
    let x : SFits w32 c.args.left = search rules in
    let below = simp to_z-of_z at c.if-left-lt0.true in
    let near = simp to_z-of_z at c.if-left-ltminus7.false in
    let y : SFits w32 (pos 0 -ℤ c.args.left) = search rules in
    let n = unsigned_abs_is (pos 0 -ℤ c.args.left) (omega (arith, ints)) in
    simp to_z-of_z (rw c.from-bits.ensures (left_bit c.args.byte (nat_abs (pos 0 -ℤ c.args.left)) k column h (omega (arith, ints))))

pub returns-then-left-le-LAST_BIT-clause-inside : goal.returns-then-left-le-LAST_BIT-clause-inside
returns-then-left-le-LAST_BIT-clause-inside c k column h at =
    let x : SFits w32 c.args.left = search rules in
    let above = simp to_z-of_z at c.if-left-lt0.false in
    let n = unsigned_abs_is c.args.left (omega (arith, ints)) in
    simp to_z-of_z (rw c.from-bits.ensures (right_bit c.args.byte (nat_abs c.args.left) k column h (omega (arith, ints))))

pub returns-then-left-le-LAST_BIT-clause-before : goal.returns-then-left-le-LAST_BIT-clause-before
returns-then-left-le-LAST_BIT-clause-before c k less =
    let x : SFits w32 c.args.left = search rules in
    let above = simp to_z-of_z at c.if-left-lt0.false in
    let below = simp to_z-of_z at c.if-left-le-LAST_BIT.true in
    let n = unsigned_abs_is c.args.left (omega (arith, ints)) in
    simp to_z-of_z (rw c.from-bits.ensures (right_before c.args.byte (nat_abs c.args.left) k (omega (arith, ints)) (omega (arith, ints))))
