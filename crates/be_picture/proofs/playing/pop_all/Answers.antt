use Rattle.std.proofs.Common.{◌≡◌, ap, arith, refl, subst, sym, ◌∙◌, replicate, ℕ}
use Rattle.be_command.specs.declared.Command.TheVariants.{Pop}
use Rattle.be_command.specs.Limits.{is_drawing}
use Rattle.be_picture.specs.OffScreens.{Shows}
use Rattle.be_picture.specs.Playing.{after_commands}
use Rattle.be_picture.proofs.Drawing.{after_none, after_one_more, one_more_alike}
use Rattle.be_picture.proofs.playing.pop_all.Goals as goal

pub loop-state-init : goal.loop-state-init
loop-state-init c = record {
  whole = c.requires;
  shows = λ off shows. subst (Shows c.args.pane.now) (sym (after_none c.args.bitmaps.now off)) shows;
}

pub execute-requires-clause-drawing : goal.execute-requires-clause-drawing
unfolding is_drawing
execute-requires-clause-drawing c = refl

pub loop-state-preserved : goal.loop-state-preserved
loop-state-preserved c = record {
  whole = c.execute.ensures.whole;
  shows = λ off shows.
      let n = c.loop-state._state in
      subst (Shows c.execute.new.pane)
      (sym (ap (after_commands c.args.bitmaps.now off) (one_more_alike n (Pop 0))
      ∙ after_one_more c.args.bitmaps.now off (replicate n (Pop 0)) (Pop 0)))
      (c.execute.ensures.shows (after_commands c.args.bitmaps.now off (replicate n (Pop 0)))
      (c.loop-state.invariant.shows off shows));
}

pub returns-clause-shows : goal.returns-clause-shows
returns-clause-shows c = λ off shows.
    let all : c.loop-state._state ≡ c.args.count = omega arith in
    subst (λ (n : ℕ). Shows c.loop-state.pane (after_commands c.args.bitmaps.now off (replicate n (Pop 0))))
    all (c.loop-state.invariant.shows off shows)
