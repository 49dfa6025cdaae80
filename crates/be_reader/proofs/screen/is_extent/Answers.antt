use Rattle.std.proofs.Common.{◌≡◌, ◌-ℤ◌, pos, ℤ, Bool, true, false, ◌&&◌, arith, ap, sym, ◌∙◌, to_z, of_z, w32}
use Rattle.std.proofs.lemmas.Int.{ints, to_z-of_z}
use Rattle.std.specs.Prelude.{int_le}
use Rattle.be_geom.specs.Points.{between}
use Rattle.be_reader.proofs.screen.is_extent.Goals as goal

at_least : (z d : ℤ) → z ≡ d → int_le (pos 0) z ≡ true → int_le z (pos 32767) ≡ between (pos 0) d (pos 32767)
unfolding between
at_least z d same low =
    ap (λ (z : ℤ). int_le z (pos 32767)) same ∙ sym (ap (λ (b : Bool). b && int_le d (pos 32767)) (ap (int_le (pos 0)) (sym same) ∙ low))

below : (z d : ℤ) → z ≡ d → int_le (pos 0) z ≡ false → int_le (pos 0) z ≡ between (pos 0) d (pos 32767)
unfolding between
below z d same low = low ∙ sym (ap (λ (b : Bool). b && int_le d (pos 32767)) (ap (int_le (pos 0)) (sym same) ∙ low))

pub returns-then-extent-ge0 : goal.returns-then-extent-ge0
returns-then-extent-ge0 c =
    let extent : to_z w32 (of_z w32 (to_z w32 (of_z w32 c.from.result) -ℤ to_z w32 (of_z w32 c.from-2.result))) ≡ c.args.last -ℤ c.args.first = grind (arith, ints, to_z-of_z, c.from.ensures, c.from-2.ensures) in
    at_least _ _ extent c.if-extent-ge0.true

pub returns-else-extent-ge0 : goal.returns-else-extent-ge0
returns-else-extent-ge0 c =
    let extent : to_z w32 (of_z w32 (to_z w32 (of_z w32 c.from.result) -ℤ to_z w32 (of_z w32 c.from-2.result))) ≡ c.args.last -ℤ c.args.first = grind (arith, ints, to_z-of_z, c.from.ensures, c.from-2.ensures) in
    below _ _ extent c.if-extent-ge0.false
