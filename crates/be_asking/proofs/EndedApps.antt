-- An application in hand tells whether it is at its end.
use Rattle.std.proofs.Common.{◌≡◌, ℕ, Bool, false, List, Option, Some, None, sym, ap, ◌∙◌}
use Rattle.std.specs.Prelude.{length, nat_le, option_map}
use Rattle.std.specs.Option.{option_map_or}
use Rattle.be_actor.specs.Wishes.{is_at_end}
use Rattle.be_actor.specs.declared.Instruction.{Instruction}
use Rattle.be_actor.specs.declared.Place.{Place}
use Rattle.be_hall.specs.Hands.{part_at}
use Rattle.be_script.specs.Script.{Declared}
use Rattle.be_machine.specs.Program.{app_program, has_ended}
use Rattle.be_machine.specs.State.{App, State}
use Rattle.be_machine.specs.Touched as part
use Rattle.be_parts.specs.Kept.{Kept}
use Rattle.be_parts.specs.declared.part.Part.{Part}
use Rattle.be_parts.specs.declared.part.Part.TheVariants as kinds
use Rattle.be_rules.specs.Places.{place_of}
use Rattle.be_rules.specs.Slices.{app_in}
use Rattle.be_rules.proofs.Lawfully.{back}
use Rattle.be_asking.specs.Finding.{IsReachable}
use Rattle.be_asking.specs.Stopping.{Tells}
use Rattle.be_asking.proofs.InHand.{cell_read}

at_place : (program : List Instruction) (o : Option App) (place : Place) → option_map (λ (a : App). a.place) o ≡ Some place → option_map_or (λ (a : App). is_at_end program a.place) o false ≡ nat_le (length program) place.step
at_place program (Some a) place e = let same : Some a.place ≡ Some place = e in let is : a.place ≡ place = cc in ap (is_at_end program) is
at_place program None place e = absurd (cc)

pub app_ended : (d : Declared) (parts : List (ℕ × Part)) (m : ℕ) (k : Kept) (place : Place) (program : List Instruction) (b : Bool) → IsReachable d parts (part.cell m) → part_at parts (place_of d (part.cell m)) ≡ Some (kinds.Cell k) → option_map (λ (a : App). a.place) (app_in k.slice) ≡ Some place → program ≡ app_program d m → b ≡ nat_le (length program) place.step → Tells d parts (λ s. has_ended d s m) b
app_ended d parts m k place program b r at is steps told all sound fits =
    ap (λ (s : State). has_ended d s m) (back d all sound)
    ∙ ap (λ o. option_map_or (λ (a : App). is_at_end (app_program d m) a.place) o false) (cell_read d parts all sound fits (kinds.Cell k) m r.there at)
    ∙ at_place (app_program d m) (app_in k.slice) place is
    ∙ ap (λ p. nat_le (length p) place.step) (sym steps)
    ∙ sym told
