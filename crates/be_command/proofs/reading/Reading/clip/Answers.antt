use Rattle.std.proofs.Common.{◌≡◌, false, List, [], subst, sym, Some}
use Rattle.be_geom.specs.declared.rect.Rect.{Rect}
use Rattle.be_command.specs.Kinds.{clip_at, after_clip, is_none_word, rects_at, after_rects}
use Rattle.be_command.specs.Places.{word_at}
use Rattle.be_command.specs.Progress.{Takes, TakesMore}
use Rattle.be_command.proofs.MoreLemmas.{clip_rects}
use Rattle.be_command.proofs.reading.Reading.clip.Goals as goal

pub returns : goal.returns
returns c =
    let some : is_none_word (word_at c.args.self.now.at) ≡ false = (cc) in
    let read : TakesMore (rects_at 16 c.args.self.now.at) (after_rects 16 c.args.self.now.at) c.args.self.now c.rects.new.self [] c.rects.new.rects.items =
    subst (λ (xs : List Rect). TakesMore (rects_at 16 c.args.self.now.at) (after_rects 16 c.args.self.now.at) c.args.self.now c.rects.new.self xs c.rects.new.rects.items) c.new-rects.ensures.items c.in_ok-rects.ensures in
    subst (λ (xs : List Rect). Takes (clip_at c.args.self.now.at) (after_clip c.args.self.now.at) c.args.self.now c.rects.new.self (Some xs)) (sym c.in_ok-of.ensures)
    (clip_rects _ _ _ some read)
