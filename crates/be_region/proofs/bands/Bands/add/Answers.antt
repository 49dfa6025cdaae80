use Rattle.std.proofs.Common.{rules, ◌≡◌, refl, sym, ◌∙◌, ◌++◌, drop, SFits, w16, arith}
use Rattle.std.proofs.lemmas.Int.{ints, to_z-of_z}
use Rattle.std.proofs.lemmas.Bool.{false≢true}
use Rattle.be_region.specs.Spans.{done_of, bands_of, rects_of}
use Rattle.be_region.proofs.BandLemmas.{grown_open, grown_has, still_above, next_open, added_has, some_spans, kept_pushed, done_pushed, long_pushed}
use Rattle.be_region.proofs.bands.Bands.add.Goals as goal

pub returns-then-goes_on-clause-bands : goal.returns-then-goes_on-clause-bands
returns-then-goes_on-clause-bands c =
    let f = c.ranges.top in
    let g = c.ranges.bottom in
    let next = (c.goes_on.ensures.0 c.if-goes_on.true).1 in
    let k = c.requires.down in
    let l = c.requires.bands.down in
    rw (to_z-of_z w16 c.args.bottom g) (grown_open c.args.self.now c.args.bottom c.requires.bands (omega (arith, ints)))

pub returns-then-goes_on-clause-above : goal.returns-then-goes_on-clause-above
returns-then-goes_on-clause-above c =
    let f = c.ranges.top in
    let g = c.ranges.bottom in
    let next = (c.goes_on.ensures.0 c.if-goes_on.true).1 in
    let k = c.requires.down in
    let l = c.requires.bands.down in
    let b = c.args.self.now in
    rw (to_z-of_z w16 c.args.bottom g) (still_above (done_of b) b.spans.items b.top c.args.bottom c.requires.bands.above (omega (arith, ints)))

pub returns-then-goes_on-clause-pixels : goal.returns-then-goes_on-clause-pixels
returns-then-goes_on-clause-pixels c = λ x y.
    let f = c.ranges.top in
    let g = c.ranges.bottom in
    let same = c.goes_on.ensures.0 c.if-goes_on.true in
    let b = c.args.self.now in
    let e : b.spans.items ≡ c.args.spans.now.items = same.0 ∙ c.as_slice.ensures in
    rw (to_z-of_z w16 c.args.bottom g, sym e) (grown_has (done_of b) b.spans.items b.top b.bottom c.args.top c.args.bottom x y (same.1 ∙ to_z-of_z w16 c.args.top f) c.requires.bands.down c.requires.down)

pub returns-clause-bands : goal.returns-clause-bands
returns-clause-bands c =
    let f = c.ranges.top in
    let g = c.ranges.bottom in
    let h : SFits w16 c.args.self.now.top = search rules in
    let k : SFits w16 c.args.self.now.bottom = search rules in
    let b = c.args.self.now in
    let pushed = simp to_z-of_z at c.in_ok-push_rects.ensures in
    let new = c.push_rects.new.rects.items in
    let all : new ≡ b.rects.items ++ rects_of b.spans.items b.top b.bottom = rw (sym c.as_slice-2.ensures) pushed in
    let e : drop b.kept new ≡ bands_of b = done_pushed b.kept b.rects.items _ new c.requires.bands.kept all in
    rw (to_z-of_z w16 c.args.bottom g, to_z-of_z w16 c.args.top f, c.swap.ensures.x_after) (next_open b _ c.requires.bands c.requires.above c.requires.apart (λ p q. false≢true (sym c.if-goes_on.false ∙ c.goes_on.ensures.1 (p ∙ sym c.as_slice.ensures, q ∙ sym (to_z-of_z w16 c.args.top f)))) (some_spans c.args.spans.now.items _ refl (sym c.if-is_empty.false ∙ c.is_empty.ensures)) (long_pushed b.kept b.rects.items _ new c.requires.bands.kept all) e c.requires.down)

pub returns-clause-above : goal.returns-clause-above
returns-clause-above c =
    let f = c.ranges.top in
    let g = c.ranges.bottom in
    let h : SFits w16 c.args.self.now.top = search rules in
    let k : SFits w16 c.args.self.now.bottom = search rules in
    let b = c.args.self.now in
    let pushed = simp to_z-of_z at c.in_ok-push_rects.ensures in
    let new = c.push_rects.new.rects.items in
    let all : new ≡ b.rects.items ++ rects_of b.spans.items b.top b.bottom = rw (sym c.as_slice-2.ensures) pushed in
    let e : drop b.kept new ≡ bands_of b = done_pushed b.kept b.rects.items _ new c.requires.bands.kept all in
    rw (to_z-of_z w16 c.args.bottom g, to_z-of_z w16 c.args.top f, c.swap.ensures.x_after) (still_above (drop b.kept new) c.args.spans.now.items c.args.top c.args.bottom (rw e c.requires.above) c.requires.down)

pub returns-clause-kept : goal.returns-clause-kept
returns-clause-kept c =
    let h : SFits w16 c.args.self.now.top = search rules in
    let k : SFits w16 c.args.self.now.bottom = search rules in
    let b = c.args.self.now in
    let pushed = simp to_z-of_z at c.in_ok-push_rects.ensures in
    let new = c.push_rects.new.rects.items in
    let all : new ≡ b.rects.items ++ rects_of b.spans.items b.top b.bottom = rw (sym c.as_slice-2.ensures) pushed in
    kept_pushed b.kept b.rects.items _ new c.requires.bands.kept all

pub returns-clause-pixels : goal.returns-clause-pixels
returns-clause-pixels c = λ x y.
    let f = c.ranges.top in
    let g = c.ranges.bottom in
    let h : SFits w16 c.args.self.now.top = search rules in
    let k : SFits w16 c.args.self.now.bottom = search rules in
    let b = c.args.self.now in
    let pushed = simp to_z-of_z at c.in_ok-push_rects.ensures in
    let new = c.push_rects.new.rects.items in
    let all : new ≡ b.rects.items ++ rects_of b.spans.items b.top b.bottom = rw (sym c.as_slice-2.ensures) pushed in
    let e : bands_of b ≡ drop b.kept new = sym (done_pushed b.kept b.rects.items _ new c.requires.bands.kept all) in
    rw (to_z-of_z w16 c.args.bottom g, to_z-of_z w16 c.args.top f, c.swap.ensures.x_after, e) (added_has (drop b.kept new) c.args.spans.now.items c.args.top c.args.bottom x y)
