use Rattle.std.proofs.Common.{[], ◌∷◌, ◌++◌, append_assoc, ap, subst, sym, ◌∙◌, List}
use Rattle.be_command.specs.declared.Command.{Command}
use Rattle.be_picture.specs.OffScreens.{Shows}
use Rattle.be_picture.specs.Playing.{after_commands}
use Rattle.be_picture.proofs.Drawing.{after_none, after_one_more}
use Rattle.be_picture.proofs.playing.execute_all.Goals as goal

pub loop-command-init : goal.loop-command-init
loop-command-init c = record {
  whole = c.requires.whole;
  all = c.into_iter-command-iterator.ensures.into_iter_gives.0;
  shows = λ off shows. subst (Shows c.args.pane.now) (sym (after_none c.args.bitmaps.now off)) shows;
}

pub loop-command-preserved : goal.loop-command-preserved
loop-command-preserved c = record {
  whole = c.execute.ensures.whole;
  all =
      append_assoc c.loop-command.yielded (c.in-Some.command ∷ []) _
      ∙ ap (λ (rest : List Command). c.loop-command.yielded ++ rest) (sym c.in-Some.ensures.steps.0)
      ∙ c.loop-command.invariant.all;
  shows = λ off shows.
      subst (Shows c.execute.new.pane)
      (sym (after_one_more c.args.bitmaps.now off c.loop-command.yielded c.in-Some.command))
      (c.execute.ensures.shows (after_commands c.args.bitmaps.now off c.loop-command.yielded)
      (c.loop-command.invariant.shows off shows));
}
