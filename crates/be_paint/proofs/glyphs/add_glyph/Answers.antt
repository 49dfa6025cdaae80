use Rattle.std.proofs.Common.{rules, ◌≡◌, ℕ, pos, ◌<◌, ◌-ℤ◌, ◌||◌, set, bit_or, ap, ap₂, ◌∙◌, subst, ⊎_elim, slice_index, SFits, w32, arith}
use Rattle.std.proofs.lemmas.Bool.{cases_lt}
use Rattle.std.proofs.lemmas.Int.{to_z-of_z}
use Rattle.std.proofs.lemmas.List.{get_or-set_other, length-set}
use Rattle.be_span.specs.Slices.{mask_bit}
use Rattle.be_paint.specs.Inks.{glyph_covers}
use Rattle.be_paint.proofs.GlyphLemmas.{mask_added, placed_covers}
use Rattle.be_paint.proofs.glyphs.add_glyph.Goals as goal

pub loop-row-preserved : goal.loop-row-preserved
loop-row-preserved c =
    let left : SFits w32 c.args.left = search rules in
    let masks = c.loop-row.masks in
    let old = c.args.masks.now in
    let n = c.loop-row.row in
    let more = c.placed.result in
    let invariant = c.loop-row.invariant in
    let inside = simp to_z-of_z at c.placed.ensures.inside in
    let before = simp to_z-of_z at c.placed.ensures.before in
    let done = simp to_z-of_z at invariant.done in
    let others : (row : ℕ) → (row ≡ n → ⊥) → slice_index (set masks n (bit_or (slice_index masks n) more)) row ≡ slice_index masks row =
    λ row other. get_or-set_other masks n row (bit_or (slice_index masks n) more) 0 other in
    let here : (k : ℕ) → k < 64 → mask_bit (slice_index (set masks n (bit_or (slice_index masks n) more)) n) k ≡ (mask_bit (slice_index old n) k || glyph_covers c.args.code (pos k -ℤ c.args.left) (pos n)) =
    λ k h.
    mask_added masks n more k (rw invariant.seven c.loop-row-test.true) h
    ∙ ap₂ (λ a b. a || b)
    (ap (λ m. mask_bit m k) (invariant.kept n (omega arith)))
    (placed_covers c.args.code n c.row.result more k c.args.left h c.row.ensures.bits inside before) in
    simp to_z-of_z (rw c.from.ensures record {
      within = omega arith;
      seven = length-set masks n (bit_or (slice_index masks n) more) ∙ invariant.seven;
      done = λ k row h below. ⊎_elim
          (λ less. ap (λ m. mask_bit m k) (others row (λ e. omega arith)) ∙ done k row h less)
          (λ more. let at : n ≡ row = omega arith in subst (λ r. mask_bit (slice_index (set masks n (bit_or (slice_index masks n) c.placed.result)) r) k ≡ (mask_bit (slice_index old r) k || glyph_covers c.args.code (pos k -ℤ c.args.left) (pos r))) at (here k h))
          (cases_lt row n);
      kept = λ row above. others row (λ e. omega arith) ∙ invariant.kept row (omega arith);
    })
