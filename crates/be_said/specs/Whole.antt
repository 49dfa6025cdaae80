-- What is said once a script is whole (this project's own).
use Rattle.std.specs.Prelude.{if◌then◌else◌, Option, Some, None, option_map}
use Rattle.be_script.specs.declared.Script.{Script}
use Rattle.be_said.specs.SoFar.{SoFar, is_closed, nothing}

-- what a script says, with all that was begun closed
abbrev pub said_by : Script → SoFar
said_by s = record {
  screen = Some s.screen;
  bitmaps = s.bitmaps.items;
  windows = s.windows.items;
  views = s.views.items;
  handlers = s.handlers.items;
  filters = s.filters.items;
  bodies = s.bodies.items;
  draws = s.draws.items;
  apps = s.apps.items;
  input = s.input.items;
  begun = nothing;
}

-- all of it, where the screen was said and all that was begun is closed
abbrev pub whole : SoFar → Option SoFar
whole said = if is_closed said.begun then option_map (λ size. said) said.screen else None
