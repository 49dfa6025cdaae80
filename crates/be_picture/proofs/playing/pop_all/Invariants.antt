use Rattle.std.proofs.Common.{replicate}
use Rattle.be_command.specs.declared.Command.TheVariants.{Pop}
use Rattle.be_pane.specs.StandsFor.{IsWhole}
use Rattle.be_picture.specs.OffScreens.{Shows}
use Rattle.be_picture.specs.Playing.{OffScreen, after_commands}
use Rattle.be_picture.proofs.playing.pop_all.Given as goal

abbrev pub invariant-loop-state : goal.invariant-loop-state
invariant-loop-state l = record {
  whole : IsWhole l.pane;
  shows : (off : OffScreen) → Shows l.fn.pane off
      → Shows l.pane (after_commands l.bitmaps off (replicate l._state (Pop 0)));
}
