-- Rules stay lawful where their parts keep notes.
use Rattle.std.proofs.Common.{◌≡◌, ◌≢◌, ℕ, ◌+◌, ◌<◌, List, length, sym, ap, ◌∙◌, subst, arith}
use Rattle.std.proofs.lemmas.List.{length-map}
use mathlib.Core.Logic.{dite}
use mathlib.Core.Option.{some}
use native.Mathlib.Decide.{dec_le}
use lib.ListN.{get_elem?}
use Rattle.be_hall.specs.Machine.{Machine, Lawful, AllFit}
use Rattle.be_hall.specs.Numbers.{total}
use Rattle.be_hall.proofs.Growth.{there}
use Rattle.be_noting.specs.Noting.{Noted, meanings, all_notes, noted_at, noting}
use Rattle.be_noting.proofs.NoteLists.{at_map, total_map, all_fit, all_fit_back, past, meanings_with, with_at, noted_else}

-- what is noted doesn't count in what the parts mean
pub means_after : {M N E : Type 0} (x : Machine M E) (told : List M → E → List N) (all : List (Noted M N)) (e : E) → meanings ((noting x told).after all e) ≡ x.after (meanings all) e
means_after x told all e = meanings_with (x.after (meanings all) e) (noted_at (x.keeper e) (told (meanings all) e) (all_notes all))

module _ {M N E : Type 0} (x : Machine M E) (told : List M → E → List N) (law : Lawful x) where
  pub as_long : (all : List (Noted M N)) → x.sound (meanings all) → length all ≡ x.places
  as_long all sound = sym (length-map all (λ y. y.means)) ∙ law.as_many (meanings all) sound

  module _ (all : List (Noted M N)) (e : E) (sound : x.sound (meanings all)) (may : x.permits (meanings all) e) where
    pub sound_next : x.sound (meanings ((noting x told).after all e))
    sound_next = subst x.sound (sym (means_after x told all e)) (law.stays_sound (meanings all) e sound may)

    pub long_next : length ((noting x told).after all e) ≡ x.places
    long_next = as_long ((noting x told).after all e) sound_next

    falls_here : total (λ (y : Noted M N). x.budget y.means) ((noting x told).after all e) < total (λ (y : Noted M N). x.budget y.means) all
    falls_here =
        let old : total (λ (y : Noted M N). x.budget y.means) all ≡ total x.budget (meanings all) = total_map (λ (y : Noted M N). y.means) x.budget all in
        let new : total (λ (y : Noted M N). x.budget y.means) ((noting x told).after all e) ≡ total x.budget (x.after (meanings all) e) = total_map (λ (y : Noted M N). y.means) x.budget ((noting x told).after all e) ∙ ap (total x.budget) (means_after x told all e) in
        let less : total x.budget (x.after (meanings all) e) < total x.budget (meanings all) = law.falls (meanings all) e sound may in
        omega (arith, old, new, less)

    stays_at : (p : ℕ) (y : Noted M N) → get_elem? all p ≡ some y → (x.touches (meanings all) e p → ⊥) → get_elem? ((noting x told).after all e) p ≡ get_elem? all p
    stays_at p y at out =
        let apart : p ≢ x.keeper e = λ is. out (subst (x.touches (meanings all) e) (sym is) (law.keeper_touched (meanings all) e sound may)) in
        let means : get_elem? (x.after (meanings all) e) p ≡ some (y.means) = law.elsewhere (meanings all) e p sound may out ∙ at_map (λ z. z.means) all p y at in
        let notes : get_elem? (noted_at (x.keeper e) (told (meanings all) e) (all_notes all)) p ≡ some (y.notes) = noted_else (x.keeper e) p (told (meanings all) e) (all_notes all) apart ∙ at_map (λ z. z.notes) all p y at in
        with_at (x.after (meanings all) e) (noted_at (x.keeper e) (told (meanings all) e) (all_notes all)) p y.means y.notes means notes ∙ sym at

    elsewhere_here : (p : ℕ) → (x.touches (meanings all) e p → ⊥) → get_elem? ((noting x told).after all e) p ≡ get_elem? all p
    elsewhere_here p out = dite (dec_le (length all) p)
        (λ le. let long = as_long all sound in past ((noting x told).after all e) p (let next = long_next in omega arith) ∙ sym (past all p le))
        (λ lt. let y = there all p (omega arith) in stays_at p y.0 y.1 out)

    fits_here : (n : ℕ) → AllFit (λ k (y : Noted M N). x.fits k y.means) n all → AllFit (λ k (y : Noted M N). x.fits k y.means) (n + 1) ((noting x told).after all e)
    fits_here n fit = all_fit_back (λ (y : Noted M N). y.means) x.fits (n + 1) ((noting x told).after all e) (subst (AllFit x.fits (n + 1)) (sym (means_after x told all e)) (law.fits_after n (meanings all) e sound may (all_fit (λ (y : Noted M N). y.means) x.fits n all fit)))

  pub noting_lawful : Lawful (noting x told)
  noting_lawful = record {
    as_many = λ all s. as_long all s;
    stays_sound = λ all e s may. sound_next all e s may;
    falls = λ all e s may. falls_here all e s may;
    elsewhere = λ all e p s may out. elsewhere_here all e s may p out;
    touched_below = λ all e p s may t. law.touched_below (meanings all) e p s may t;
    keeper_touched = λ all e s may. law.keeper_touched (meanings all) e s may;
    fits_more = λ n k y le f. law.fits_more n k y.means le f;
    fits_after = λ n all e s may f. fits_here all e s may n f;
  }
