-- What was said so far, as the code keeps it (this project's own).
use Rattle.be_said.specs.declared.said.SoFar.TheInside.{Inside}
use Rattle.be_said.specs.Begun.{seen_begun}
use Rattle.be_said.specs.SoFar as sofar

abbrev pub seen_said : Inside → sofar.SoFar
seen_said s = record {
  screen = s.screen;
  bitmaps = s.bitmaps.items;
  windows = s.windows.items;
  views = s.views.items;
  handlers = s.handlers.items;
  filters = s.filters.items;
  bodies = s.bodies.items;
  draws = s.draws.items;
  apps = s.apps.items;
  input = s.input.items;
  begun = seen_begun s.begun;
}
