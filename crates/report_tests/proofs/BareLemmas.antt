-- What the machine of a screen alone does, computed.
use Rattle.std.proofs.Common.{◌≡◌, ℕ, zero, suc, ◌+◌, ◌*◌, ◌<◌, [], ◌∷◌, replicate, Some, refl, arith}
use Rattle.std.specs.Prelude.{slice_get}
use Rattle.be_span.specs.Cells.{desktop_cell}
use Rattle.be_script.specs.Limits.{IsWithinLimits}
use Rattle.be_script.specs.Names.{are_names}
use Rattle.be_script.specs.Work.{work_of}
use Rattle.be_machine.specs.Activities.{activity_of, app, looper}
use Rattle.be_machine.specs.History.{AreLegalFrom, IsLegalHistory, state_from, state_after}
use Rattle.be_machine.specs.Legal.{legal_act, want_act}
use Rattle.be_machine.specs.State.{opening_state}
use Rattle.be_machine.specs.Step.{step, met}
use Rattle.be_machine.specs.Wants.{want_of}
use Rattle.be_written.specs.Notings.{AreTold}
use Rattle.report_tests.specs.Bare.{bare, bare_history}

pub bare_limits : IsWithinLimits bare
unfolding work_of are_names
bare_limits =
    let work : work_of bare ≡ 1 = refl in
    record {
      counts = record {
        width = (omega arith, omega arith);
        height = (omega arith, omega arith);
        windows = omega arith;
        apps = omega arith;
        pictures = omega arith;
        input = omega arith;
        work = omega (arith, work);
      };
      pictures = refl;
      windows = refl;
      names = refl;
      views = refl;
      handlers = refl;
      filters = refl;
      bodies = refl;
      draws = refl;
      declared = refl;
      apps = refl;
      app_names = refl;
      input = refl;
    }

pub bare_legal : IsLegalHistory bare bare_history
unfolding AreLegalFrom legal_act want_act want_of activity_of opening_state
bare_legal = (refl, tt)

-- it has no runner
pub told_none : AreTold bare bare_history (λ who. [])
told_none (app m) there = absurd (omega arith)
told_none (looper w) there = absurd (omega arith)

pub last_screen : replicate 12 desktop_cell ≡ (state_after bare bare_history).screen
unfolding opening_state state_from step met want_of activity_of
last_screen = refl

cell_at_place : (n k : ℕ) → k < n → slice_get (replicate n desktop_cell) k ≡ Some desktop_cell
cell_at_place zero k lt = absurd (omega arith)
cell_at_place (suc n) zero lt = refl
cell_at_place (suc n) (suc k) lt = cell_at_place n k (omega arith)

pub one_cell : (row column k : ℕ) → row < 3 → column < 4 → k < 1 → slice_get (replicate 12 desktop_cell) (row * 4 + column + k) ≡ slice_get (desktop_cell ∷ []) k
one_cell row column zero a b c = cell_at_place 12 (row * 4 + column + 0) (omega arith)
one_cell row column (suc k) a b c = absurd (omega arith)
