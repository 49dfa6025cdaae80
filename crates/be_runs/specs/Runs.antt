-- What a finished run leaves, whoever ran it (this project's own).
use Rattle.std.specs.Option.{option_map_or}
use Rattle.std.specs.Prelude.{◌≡◌, ℕ, List, [], Some, map, slice_get}
use Rattle.be_machine.specs.Activities.{Runner, runner}
use Rattle.be_machine.specs.History.{IsFinished, state_after}
use Rattle.be_parts.specs.Parts.{meaning_of, notes_of}
use Rattle.be_parts.specs.declared.part.Part.{Part}
use Rattle.be_rules.specs.Rules.{kept_at}
use Rattle.be_rules.specs.Slices.{slices}
use Rattle.be_runs.specs.declared.finished.Finished.{Finished}
use Rattle.be_script.specs.Script.{Declared}
use Rattle.be_written.specs.Notings.{AreTold}

-- what was noted at a place
abbrev pub notes_at : List Part → ℕ → List ℕ
notes_at parts place = option_map_or notes_of (slice_get parts place) []

-- what each runner noted, in the part that keeps its entries
abbrev pub told_in : Declared → List Part → Runner → List ℕ
told_in d parts who = notes_at parts (kept_at d (Some (runner who)))

-- it is one of this script, its history is finished, its parts stand for the state after that, and
-- each runner's part keeps the lines of its trace
pub record Leaves (d : Declared) (run : Finished) : Type 0 where
  pub world : run.world ≡ d
  pub finished : IsFinished d run.history.items
  pub parts : map meaning_of run.parts.items ≡ slices d (state_after d run.history.items)
  pub traces : AreTold d run.history.items (told_in d run.parts.items)
