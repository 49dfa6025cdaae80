-- A run over parts that keep notes, told of the parts of the code.
use Rattle.std.proofs.Common.{◌≡◌, ℕ, Bool, List, [], ◌++◌, map, Option, sym, ap, ◌∙◌, subst}
use mathlib.Core.Option.{some}
use lib.ListN.{get_elem?}
use Rattle.be_facts.proofs.Lists.{map_map}
use Rattle.be_hall.specs.Machine.{Machine, AllFit, Lawful}
use Rattle.be_hall.specs.Numbers.{total}
use Rattle.be_turns.specs.Turning.{IsFinished}
use Rattle.be_serial.specs.Scheduled.{Picked}
use Rattle.be_noting.specs.Noting.{Noted, closed_of, legal_of, noted_from, noting}
use Rattle.be_noting.proofs.NoteLists.{all_fit_back, at_map, total_map}
use Rattle.be_noting.proofs.NotedHistories.{finished_seen, notes_left, picked_seen}

module _ {T M N E : Type 0} (x : Machine M E) (told : List M → E → List N) (meaning : T → Noted M N) where
  -- what a part means without its notes
  abbrev pub means : T → M
  means t = (meaning t).means

  -- ---- before it

  module _ (parts : List T) where
    means_are : map (λ (y : Noted M N). y.means) (map meaning parts) ≡ map means parts
    means_are = map_map (λ (y : Noted M N). y.means) meaning parts

    pub sound_begins : x.sound (map means parts) → (noting x told).sound (map meaning parts)
    sound_begins sound = subst x.sound (sym means_are) sound

    pub budget_begins : total (noting x told).budget (map meaning parts) ≡ total x.budget (map means parts)
    budget_begins = total_map (λ (y : Noted M N). y.means) x.budget (map meaning parts) ∙ ap (total x.budget) means_are

    pub fits_begins : (n : ℕ) → AllFit x.fits n (map means parts) → AllFit (noting x told).fits n (map meaning parts)
    fits_begins n fit = all_fit_back (λ (y : Noted M N). y.means) x.fits n (map meaning parts) (subst (AllFit x.fits n) (sym means_are) fit)

    pub closed_begins : (closed : List M → Bool) → closed_of closed (map meaning parts) ≡ closed (map means parts)
    closed_begins closed = ap closed means_are

  -- ---- after it

  module _ (parts : List T) (h : List E) where
    pub run_picked : (legal : List M → ℕ → Option E) (many seed drawn : ℕ) → Picked (noting x told) (legal_of legal) many seed drawn (map meaning parts) h → Picked x legal many seed drawn (map means parts) h
    run_picked legal many seed drawn picked = subst (λ l. Picked x legal many seed drawn l h) (means_are parts) (picked_seen x told legal many seed drawn (map meaning parts) h picked)

    module _ (stops : E → Bool) (left : List T) (finished : IsFinished (noting x told) stops (map meaning parts) h (map meaning left)) where
      pub run_finished : IsFinished x stops (map means parts) h (map means left)
      run_finished =
          subst (λ l. IsFinished x stops (map means parts) h l) (means_are left)
          (subst (λ l. IsFinished x stops l h (map (λ (y : Noted M N). y.means) (map meaning left))) (means_are parts) (finished_seen x told stops (map meaning parts) h (map meaning left) finished))

      -- a part that began without notes has those of its place
      pub run_notes : Lawful x → x.sound (map means parts) → (p : ℕ) (old new : T) → get_elem? parts p ≡ some old → get_elem? left p ≡ some new → (meaning old).notes ≡ []
          → (meaning new).notes ≡ noted_from x told p (map means parts) h
      run_notes law sound p old new at out none =
          notes_left x told law stops (map meaning parts) h (map meaning left) p (meaning old) (meaning new) (sound_begins parts sound) finished (at_map meaning parts p old at) (at_map meaning left p new out)
          ∙ ap (λ (l : List N). l ++ noted_from x told p (map (λ (y : Noted M N). y.means) (map meaning parts)) h) none
          ∙ ap (λ l. noted_from x told p l h) (means_are parts)
