use Rattle.std.proofs.Common.{rules, ◌≡◌, ◌++◌, sym, SFits, w16}
use Rattle.std.proofs.lemmas.Int.{to_z-of_z}
use Rattle.be_region.specs.Spans.{rects_of}
use Rattle.be_region.proofs.BandLemmas.{all_pushed_behind}
use Rattle.be_region.proofs.bands.Bands.finish.Goals as goal

pub returns : goal.returns
returns c =
    let f : SFits w16 c.args.self.top = search rules in
    let g : SFits w16 c.args.self.bottom = search rules in
    let b = c.args.self in
    let pushed = simp to_z-of_z at c.in_ok-push_rects.ensures in
    let all : c.push_rects.new.rects.items ≡ b.rects.items ++ rects_of b.spans.items b.top b.bottom = rw (sym c.as_slice.ensures) pushed in
    all_pushed_behind b.kept b.rects.items _ _ all
