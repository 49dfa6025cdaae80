-- What the parts of a run tell of its traces (this project's own).
use Rattle.std.specs.Option.{option_map_or}
use Rattle.std.specs.Prelude.{ℕ, ◌+◌, List, [], Some, slice_get, slice_index_or}
use Rattle.be_machine.specs.Activities.{Runner, app, looper, runner}
use Rattle.be_parts.specs.Parts.{notes_of}
use Rattle.be_parts.specs.declared.part.Part.{Part}
use Rattle.be_rules.specs.Rules.{kept_at}
use Rattle.be_script.specs.Script.{Declared}

-- what was noted in the part that keeps a runner's entries
abbrev pub noted_in : Declared → List Part → Runner → List ℕ
noted_in d parts who =
    option_map_or notes_of (slice_get parts (kept_at d (Some (runner who)))) []

-- ---- as it is told

pub record ToldTraces : Type 0 where
  -- how many applications there are
  pub apps : ℕ
  -- what was noted at each place
  pub notes : List (List ℕ)

-- each runner's, which lies behind the desk and the input: the applications first
abbrev pub told_there : ToldTraces → Runner → List ℕ
told_there it (app m) = slice_index_or it.notes (2 + m) []
told_there it (looper w) = slice_index_or it.notes (2 + it.apps + w) []
