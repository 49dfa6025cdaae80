-- What runners noted in a test.
use Rattle.std.specs.Prelude.{ℕ, ◌==◌, List, [], ◌∷◌, ◌++◌, if◌then◌else◌, codes}
use Rattle.be_machine.specs.Activities.{Runner, app, looper}

abbrev pub lines_by : Runner → List ℕ
lines_by (app m) = codes "note one" ++ 10 ∷ []
lines_by (looper w) = if w == 0 then [] else codes "note two" ++ 10 ∷ []
