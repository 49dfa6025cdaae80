use Rattle.std.proofs.Common.{rules, ◌<◌, ◌-◌, length, get_or, SFits, w16}
use Rattle.std.proofs.lemmas.Int.{to_z-of_z}
use Rattle.be_region.proofs.CopyLemmas.{no_rect, covered_at}
use Rattle.be_region.proofs.line.covers.Goals as goal

pub returns-then-rect-first : goal.returns-then-rect-first
returns-then-rect-first c = λ e.
    let w = c.args.whole.now in
    let l = c.args.line.now in
    let f : SFits w16 (get_or l 0 no_rect).left = search rules in
    let g : SFits w16 (get_or l (length l - 1) no_rect).right = search rules in
    let h : SFits w16 (get_or w 0 no_rect).left = search rules in
    let k : SFits w16 (get_or w 0 no_rect).right = search rules in
    let some : 0 < length l = search rules in
    covered_at w l no_rect c.in-len1.len_at_least c.in-len1.len_below c.requires some (simp to_z-of_z at c.if-rect-first.true) (simp to_z-of_z at e)
