-- What a run on one thread knows of its activities without asking them.
use Rattle.std.specs.Prelude.{◌≡◌, ℕ, ◌<◌, Bool, true, false, List, length, map, Option}
use Rattle.std.proofs.Math.ListN.{get_or}
use Rattle.be_hall.specs.Machine.{Machine, leads}
use Rattle.be_turns.specs.Turning.{is_some}
use Rattle.be_serial.specs.declared.answers.Answers.{Answers}
use Rattle.be_serial.specs.declared.serial.Run.{Run}

-- Nothing is known: all are marked.
abbrev pub AllStale : ℕ → List Bool → List Bool → Type 0
AllStale many can stale =
    (length can ≡ many) × (length stale ≡ many)
    × ((a : ℕ) → a < many → get_or stale a false ≡ true)

module _ {M E : Type 0} (legal : List M → ℕ → Option E) (many : ℕ) where
  -- an activity that isn't marked has a legal entry exactly where it is said to
  pub record Knows (now : List M) (can stale : List Bool) : Type 0 where
    pub long : length can ≡ many
    pub marked : length stale ≡ many
    pub fresh : (a : ℕ) → a < many → get_or stale a false ≡ false
        → get_or can a false ≡ is_some (legal now a)

module _ {M E : Type 0} (x : Machine M E) (legal : List M → ℕ → Option E) (many : ℕ) where
  -- an activity that isn't marked wasn't before, and has a legal entry after this one exactly where
  -- it had one before it
  abbrev pub Stirs : E → List Bool → List Bool → Type 0
  Stirs e old new =
      (a : ℕ) → a < many → get_or new a false ≡ false
      → (get_or old a false ≡ false)
      × ((all : List M) → x.sound all → x.permits all e
      → is_some (legal (x.after all e) a) ≡ is_some (legal all a))

module _ {P T E R M : Type 0} (machine : P → Machine M E) (meaning : T → M) where
  -- what the parts of a run mean now
  abbrev pub now_of : Run P T E R M → List M
  now_of run =
      leads (machine run.rules) (map meaning run.opening.value.items) run.history.items

  -- what is known of a run's activities
  abbrev pub IsKnown :
      (P → List M → ℕ → Option E) → (P → ℕ) → Run P T E R M → Answers → Type 0
  IsKnown legal activities run a =
      Knows (legal run.rules) (activities run.rules) (now_of run) a.can.items a.stale.items
