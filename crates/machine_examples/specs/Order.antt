-- The history of one window is orderly at it, and one entry out of order isn't.
use Rattle.std.specs.Prelude.{◌≡◌, [], ◌∷◌}
use Rattle.be_machine.specs.declared.Act.TheVariants as act
use Rattle.be_machine.specs.declared.EndAnswer.TheVariants.{Nothing}
use Rattle.be_machine.specs.Happenings.{arrived, took, locked, unlocked, drew, flushed, executed}
use Rattle.be_machine.specs.Happenings.{ended, happenings_at}
use Rattle.be_machine.specs.Orderly.{AreInTurn, first_tally, tally_of}
use Rattle.machine_examples.specs.OneWindow.{row, history}
use Rattle.machine_examples.specs.Words.{entry}

pub record Holds : Type 0 where
  pub happened : happenings_at row 0 history
      ≡ locked ∷ drew 1 ∷ drew 2 ∷ flushed 2 ∷ unlocked ∷ executed 1 ∷ arrived 1 ∷ took 1 ∷ executed
      2 ∷ drew 3 ∷ flushed 1 ∷ ended Nothing ∷ executed 3 ∷ []
  pub in_turn : AreInTurn first_tally (happenings_at row 0 history)
  pub even : (tally_of row 0 history).taken_count ≡ (tally_of row 0 history).arrived_count
  -- a letter can't be taken before it arrives
  pub too_soon : AreInTurn first_tally (happenings_at row 0 (entry 1 (act.Take 1) ∷ [])) → ⊥
