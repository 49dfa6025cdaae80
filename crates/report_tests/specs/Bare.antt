-- A script that declares a screen of 4 by 3 pixels and nothing else, and its machine.
use Rattle.std.specs.Prelude.{List, [], ◌∷◌}
use Rattle.be_script.specs.Script.{Declared}
use Rattle.be_machine.specs.declared.Act.TheVariants.{Stop}
use Rattle.be_machine.specs.declared.Entry.{Entry}

abbrev pub bare : Declared
bare = record {
  width = 4;
  height = 3;
  pictures = [];
  windows = [];
  views = [];
  handlers = [];
  filters = [];
  bodies = [];
  draws = [];
  apps = [];
  input = [];
}

-- what it does: it stops
abbrev pub bare_history : List Entry
bare_history = record { actor = 1; act = Stop } ∷ []
