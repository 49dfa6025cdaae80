-- What a history of rules whose parts keep notes tells.
use Rattle.std.specs.Prelude.{◌≡◌, ℕ, List, ◌++◌}
use mathlib.Core.Option.{some}
use lib.ListN.{get_elem?}
use Rattle.be_hall.specs.Machine.{Machine, Legal, leads}
use Rattle.be_noting.specs.Noting.{Noted, meanings, all_notes, noting, noted_from}

module _ {M N E : Type 0} (x : Machine M E) (told : List M → E → List N) where
  -- Without the notes it is a history of the rules alone. Each place keeps what the history notes
  -- there.
  pub record TellsAll (opening : List (Noted M N)) (history : List E) : Type 0 where
    pub legal : Legal x (meanings opening) history
    pub means : meanings (leads (noting x told) opening history)
        ≡ leads x (meanings opening) history
    pub notes : (p : ℕ) (y : Noted M N) → get_elem? opening p ≡ some y
        → get_elem? (all_notes (leads (noting x told) opening history)) p
        ≡ some (y.notes ++ noted_from x told p (meanings opening) history)
