-- The rules: producers give units to consumers, which use them up, and the closing step is last.
use Rattle.std.specs.Prelude.{◌≡◌, ℕ, zero, suc, ◌+◌, ◌-◌, ◌*◌, ◌%◌, ◌<◌, ◌≤◌, ◌⊎◌, Bool, true}
use Rattle.std.specs.Prelude.{false, not, ◌&&◌, ◌||◌, nat_lt, ◌==◌, if◌then◌else◌, List, [], ◌∷◌}
use Rattle.std.specs.Prelude.{length, Option, Some, None}
use Rattle.be_hall.specs.Machine.{Machine}
use Rattle.small_world.specs.declared.step.Count.{Count}
use Rattle.small_world.specs.declared.step.Step.{Step}
use Rattle.small_world.specs.declared.step.Step.TheVariants.{Give, Use, Close}
use Rattle.small_world.specs.declared.world.World.{World}

-- the counter of one that gave a unit
abbrev pub gave : Count → Count
gave c = record { left = c.left - 1; units = c.units }

-- that of one that used a unit up
abbrev pub used : Count → Count
used c = record { left = c.left; units = c.units - 1 }

-- that of one that was given a unit
abbrev pub got : Count → Count
got c = record { left = c.left; units = c.units + 1 }

abbrev pub emptied : Count → Count
emptied c = record { left = c.left; units = 0 }

-- the counter of the one that made the step
abbrev pub acted : Step → Count → Count
acted (Give activity) c = gave c
acted (Use activity) c = used c
acted Close c = emptied c

-- the counters with that at one place changed
abbrev pub changed_at : (Count → Count) → List Count → ℕ → List Count
changed_at change [] place = []
changed_at change (c ∷ cs) zero = change c ∷ cs
changed_at change (c ∷ cs) (suc place) = c ∷ changed_at change cs place

-- the counter at this place is there, and has some of these
abbrev pub has : (Count → ℕ) → List Count → ℕ → Bool
has part [] place = false
has part (c ∷ cs) zero = nat_lt 0 (part c)
has part (c ∷ cs) (suc place) = has part cs place

abbrev pub is_close : Step → Bool
is_close (Give activity) = false
is_close (Use activity) = false
is_close Close = true

-- An activity's counter is at the place of its number.
module _ (w : World) where
  -- the closing activity comes behind all others
  abbrev pub closing_place : ℕ
  closing_place = w.producers + w.consumers

  -- the consumer to which a producer gives
  abbrev pub target_of : ℕ → ℕ
  target_of producer = w.producers + (producer % w.consumers)

  -- the one step that an activity makes
  abbrev pub wish_of : ℕ → Step
  wish_of activity = if nat_lt activity w.producers then Give activity
      else (if nat_lt activity closing_place then Use activity else Close)

  abbrev pub actor_of : Step → ℕ
  actor_of (Give activity) = activity
  actor_of (Use activity) = activity
  actor_of Close = closing_place

  -- who gets what the step gives; where it gives nothing, the one that makes it
  abbrev pub taker_of : Step → ℕ
  taker_of (Give activity) = target_of activity
  taker_of (Use activity) = activity
  taker_of Close = closing_place

  -- a producer gives, and all others use up
  abbrev pub work_of : ℕ → Count → ℕ
  work_of activity c = if nat_lt activity w.producers then c.left else c.units

  -- the activity has something to give or to use up
  abbrev pub has_work : List Count → ℕ → Bool
  has_work all activity = has (work_of activity) all activity

  -- none of the first k has
  abbrev pub is_idle_below : List Count → ℕ → Bool
  is_idle_below all zero = true
  is_idle_below all (suc k) = not (has_work all k) && is_idle_below all k

  -- The closing step is made when nobody else has work.
  abbrev pub may : List Count → Step → Bool
  may all (Give activity) = nat_lt activity w.producers && has_work all activity
  may all (Use activity) =
      (not (nat_lt activity w.producers) && nat_lt activity closing_place) && has_work all activity
  may all Close = is_idle_below all closing_place && has_work all closing_place

  -- the counters after the step
  abbrev pub after_step : List Count → Step → List Count
  after_step all (Give activity) =
      changed_at got (changed_at gave all activity) (target_of activity)
  after_step all (Use activity) = changed_at used all activity
  after_step all Close = changed_at emptied all closing_place

  -- the step reads or changes the counter at this place
  abbrev pub Touches : List Count → Step → ℕ → Type 0
  Touches all (Give activity) place = (place ≡ activity) ⊎ (place ≡ target_of activity)
  Touches all (Use activity) place = place ≡ activity
  Touches all Close place = place < closing_place + 1

  -- the closing step was made
  abbrev pub is_closed : List Count → Bool
  is_closed all = not (has_work all closing_place)

  -- there is a counter for each activity, and behind the closing step nobody has work
  abbrev pub IsSound : List Count → Type 0
  IsSound all =
      (length all ≡ closing_place + 1)
      × (is_closed all ≡ true → is_idle_below all closing_place ≡ true)

  -- the step that an activity may make now
  abbrev pub legal_step : List Count → ℕ → Option Step
  legal_step all activity = if may all (wish_of activity) then Some (wish_of activity) else None

  -- what a new turn of the activity wants: its own counter, and the closing one all of them
  abbrev pub is_wanted : ℕ → ℕ → Bool
  is_wanted activity place = (place == activity) || (activity == closing_place)

  -- A unit to give is given and used up, which is two steps.
  abbrev pub passing : Machine Count Step
  passing = record {
    places = closing_place + 1;
    sound = IsSound;
    permits = λ all e. may all e ≡ true;
    after = after_step;
    touches = Touches;
    budget = λ c. 2 * c.left + c.units;
    keeper = actor_of;
    fits = λ n c. c.units ≤ n + 4294967296;
  }
