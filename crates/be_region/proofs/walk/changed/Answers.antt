use Rattle.std.proofs.Common.{◌≡◌, ◌∙◌, ℤ, ◌++◌, List, length, drop, Vec, Global, ap, rules, SFits, w32}
use Rattle.std.proofs.lemmas.Int.{to_z-of_z}
use Rattle.std.proofs.lemmas.Result.{IfOk-weaker}
use Rattle.be_geom.specs.declared.rect.Rect.{Rect}
use Rattle.be_region.specs.Regions.{region_has}
use Rattle.be_region.specs.Bands.{AreBands}
use Rattle.be_region.specs.Rules.{keeps}
use Rattle.be_region.proofs.KeptLemmas.{AreWalked, walked_bands, walked_pixels}
use Rattle.be_region.proofs.PartLemmas.{middle_full, middle_order, three_parts}
use Rattle.be_region.proofs.walk.changed.Goals as goal

pub walked-requires-clause-one_full : goal.walked-requires-clause-one_full
walked-requires-clause-one_full c =
    let p = c.cut-parts.result in
    middle_full c.args.one.now p.above.now p.middle.now p.below.now _ _ c.cut-parts.ensures c.requires.one.none_empty

pub walked-requires-clause-one_order : goal.walked-requires-clause-one_order
walked-requires-clause-one_order c =
    let p = c.cut-parts.result in
    middle_order c.args.one.now p.above.now p.middle.now p.below.now _ _ c.cut-parts.ensures c.requires.one.in_order

pub returns-clause-bands : goal.returns-clause-bands
returns-clause-bands c =
    let f : SFits w32 c.in-Some.first = search rules in
    let g : SFits w32 c.in-Some.last = search rules in
    let p = c.cut-parts.result in
    let first = c.in_ok-kept.kept.items in
    let v = c.in_ok-rects.rects.items in
    let w : List Rect = drop (length first) v in
    let h : AreWalked c.args.rule c.args.one.now c.args.other.now p.above.now p.middle.now p.below.now w c.in-Some.first c.in-Some.last = record {
      cut = simp to_z-of_z at c.cut-parts.ensures;
      bands = c.requires.one;
      alone = c.requires.alone;
      over = c.in-Some.ensures.above;
      under = c.in-Some.ensures.below;
      walked = c.in_ok-rects.ensures.bands;
      pixels = c.in_ok-rects.ensures.pixels;
    } in
    let whole : (all : List Rect) → all ≡ v ++ p.below.now → all ≡ p.above.now ++ (w ++ p.below.now) = λ all e. three_parts p.above.now first v p.below.now all c.in_ok-kept.ensures c.in_ok-rects.ensures.first e in
    IfOk-weaker c.ended.result (λ (u : Vec Rect Global). u.items ≡ v ++ p.below.now) (λ (v : Vec Rect Global). AreBands v.items) (λ u e. rw (whole u.items e) (walked_bands c.args.rule c.args.one.now c.args.other.now p.above.now p.middle.now p.below.now w c.in-Some.first c.in-Some.last h)) c.ended.ensures

pub returns-clause-pixels : goal.returns-clause-pixels
returns-clause-pixels c =
    let f : SFits w32 c.in-Some.first = search rules in
    let g : SFits w32 c.in-Some.last = search rules in
    let p = c.cut-parts.result in
    let first = c.in_ok-kept.kept.items in
    let v = c.in_ok-rects.rects.items in
    let w : List Rect = drop (length first) v in
    let h : AreWalked c.args.rule c.args.one.now c.args.other.now p.above.now p.middle.now p.below.now w c.in-Some.first c.in-Some.last = record {
      cut = simp to_z-of_z at c.cut-parts.ensures;
      bands = c.requires.one;
      alone = c.requires.alone;
      over = c.in-Some.ensures.above;
      under = c.in-Some.ensures.below;
      walked = c.in_ok-rects.ensures.bands;
      pixels = c.in_ok-rects.ensures.pixels;
    } in
    let whole : (all : List Rect) → all ≡ v ++ p.below.now → all ≡ p.above.now ++ (w ++ p.below.now) = λ all e. three_parts p.above.now first v p.below.now all c.in_ok-kept.ensures c.in_ok-rects.ensures.first e in
    IfOk-weaker c.ended.result (λ (u : Vec Rect Global). u.items ≡ v ++ p.below.now) (λ (v : Vec Rect Global). (x z : ℤ) → region_has v.items x z ≡ keeps c.args.rule (region_has c.args.one.now x z) (region_has c.args.other.now x z)) (λ u e x z. ap (λ (rs : List Rect). region_has rs x z) (whole u.items e) ∙ walked_pixels c.args.rule c.args.one.now c.args.other.now p.above.now p.middle.now p.below.now w c.in-Some.first c.in-Some.last h x z) c.ended.ensures
