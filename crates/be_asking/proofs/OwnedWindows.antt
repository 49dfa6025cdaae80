-- The window that an application has locked, by its own part.
use Rattle.std.proofs.Common.{◌≡◌, ℕ, List, Option, Some, None, refl, sym, ap, ◌∙◌}
use Rattle.std.specs.Prelude.{slice_get, option_map, option_and_then}
use Rattle.std.proofs.lemmas.Option.{same_Some}
use Rattle.be_actor.specs.declared.Place.{Place}
use Rattle.be_hall.specs.Hands.{part_at}
use Rattle.be_script.specs.Script.{Declared}
use Rattle.be_machine.specs.Activities as machine
use Rattle.be_machine.specs.Program.{app_program, lock_before, lock_of, window_of}
use Rattle.be_machine.specs.State.{App, State}
use Rattle.be_machine.specs.Touched as part
use Rattle.be_machine.proofs.ProgressAfter.{settled_after}
use Rattle.be_parts.specs.Kept.{Kept}
use Rattle.be_parts.specs.declared.part.Part.{Part}
use Rattle.be_parts.specs.declared.part.Part.TheVariants as kinds
use Rattle.be_rules.specs.Places.{place_of}
use Rattle.be_rules.specs.Slices.{app_in}
use Rattle.be_rules.proofs.Lawfully.{back, state}
use Rattle.be_rules.proofs.WantBy.{lock_is}
use Rattle.be_asking.specs.Acts.{OwnsWindow}
use Rattle.be_asking.specs.Finding.{IsReachable}
use Rattle.be_asking.specs.declared.activity.Runner.TheVariants as by
use Rattle.be_asking.proofs.InHand.{cell_read}
use Rattle.be_asking.proofs.SeenInHand.{app_found}

pub at_place : (o : Option App) (p : Place) → option_map (λ (a : App). a.place) o ≡ Some p → (a : App) × (o ≡ Some a) × (a.place ≡ p)
at_place (Some a) p e = (a, refl, same_Some a.place p e)
at_place None p e = absurd (cc)

module _ (d : Declared) (parts : List (ℕ × Part)) (m : ℕ) (k : Kept) (r : IsReachable d parts (part.cell m)) (at : part_at parts (place_of d (part.cell m)) ≡ Some (kinds.Cell k))
    (place : Place) (is : option_map (λ (a : App). a.place) (app_in k.slice) ≡ Some place) (w : Option ℕ) (lock : w ≡ lock_before None (app_program d m) place.step) where
  abbrev app : (a : App) × (app_in k.slice ≡ Some a) × (a.place ≡ place)
  app = at_place (app_in k.slice) place is

  locked : lock_of d m app.0 ≡ w
  locked = ap (λ (p : Place). lock_before None (app_program d m) p.step) app.2 ∙ sym lock

  pub app_owns : OwnsWindow d parts (by.App m) w
  app_owns = (
    ap (option_and_then (lock_of d m)) (app_found d parts r.fitting.0 r.fitting.1 r.fitting.2 (kinds.Cell k) m app.0 r.there at app.1) ∙ locked,
    λ all sound fits.
        let s : State = state d all sound in
        let read : slice_get s.apps m ≡ Some app.0 = cell_read d parts all sound fits (kinds.Cell k) m r.there at ∙ app.1 in
        ap (λ (t : State). window_of t (machine.app m)) (back d all sound)
        ∙ lock_is d s m app.0 (settled_after d sound.history sound.limits sound.legal).locks read ∙ locked,
  )
