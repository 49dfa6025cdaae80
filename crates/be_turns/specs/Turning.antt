-- What an activity's next turn tells, and what the author of the activities has to prove.
use Rattle.std.specs.Prelude.{◌≡◌, ℕ, ◌+◌, ◌<◌, List, [], ◌∷◌, ◌++◌, Bool, true, false, Option}
use Rattle.std.specs.Prelude.{Some, None}
use Rattle.be_turns.specs.declared.turns.Turn.{Turn}
use Rattle.be_turns.specs.declared.turns.Turn.TheVariants.{Entry, NotYet, Needs, Ended}
use Rattle.be_hall.specs.Machine.{Machine, Fits, IsHeld, Legal, leads}

module _ {E : Type 0} where
  abbrev pub is_some : Option E → Bool
  is_some None = false
  is_some (Some e) = true

-- `legal all who` is the entry that the activity may make over these parts
module _ {M E : Type 0} (x : Machine M E) (legal : List M → ℕ → Option E) where
  -- what the turn of an activity tells with these parts in hand, of all sound lists that have them
  abbrev pub Tells : ℕ → List (ℕ × M) → Turn E → Type 0
  Tells who held (Entry e) = (all : List M) → x.sound all → Fits all held → legal all who ≡ Some e
  Tells who held NotYet = (all : List M) → x.sound all → Fits all held → legal all who ≡ None
  Tells who held (Needs p) = (p < x.places) × (IsHeld held p → ⊥)
  Tells who held Ended = (all : List M) → x.sound all → Fits all held → legal all who ≡ None

  pub record Turning (stops : E → Bool) (activities : ℕ) : Type 0 where
    -- a legal entry is permitted
    pub permits : (all : List M) (who : ℕ) (e : E) → x.sound all → legal all who ≡ Some e
        → x.permits all e
    -- the last activity makes no entry but Stop
    pub closes : (all : List M) (who : ℕ) (e : E) → who + 1 ≡ activities → x.sound all
        → legal all who ≡ Some e → stops e ≡ true
    -- nothing follows Stop
    pub none_follows : (all : List M) (s e : E) → x.sound all → x.permits all s → stops s ≡ true
        → x.permits (x.after all s) e → ⊥

-- The entries are permitted from these opening parts on, lead to these, and the last one stops.
pub record IsFinished {M E : Type 0} (x : Machine M E) (stops : E → Bool) (opening : List M)
    (history : List E) (parts : List M) : Type 0 where
  pub legal : Legal x opening history
  pub ends : (front : List E) × (e : E) × (history ≡ front ++ e ∷ []) × (stops e ≡ true)
  pub leads_to : parts ≡ leads x opening history
