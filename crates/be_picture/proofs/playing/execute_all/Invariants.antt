use Rattle.std.proofs.Common.{◌≡◌, ◌++◌}
use Rattle.std.specs.Vec.Iter.{into_iter_items}
use Rattle.be_pane.specs.StandsFor.{IsWhole}
use Rattle.be_picture.specs.OffScreens.{Shows}
use Rattle.be_picture.specs.Playing.{OffScreen, after_commands}
use Rattle.be_picture.proofs.playing.execute_all.Given as goal

abbrev pub invariant-loop-command : goal.invariant-loop-command
invariant-loop-command l = record {
  whole : IsWhole l.pane;
  all : l.yielded ++ into_iter_items l.command-iterator ≡ l.fn.commands.items;
  shows : (off : OffScreen) → Shows l.fn.pane off
      → Shows l.pane (after_commands l.bitmaps off l.yielded);
}
