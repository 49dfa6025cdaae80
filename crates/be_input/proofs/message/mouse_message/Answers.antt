use Rattle.std.proofs.Common.{◌≡◌, ◌∙◌, ℤ, pos, refl, ap, codes, to_z, of_z, w32}
use Rattle.be_geom.specs.declared.point.Point.{Point}
use Rattle.be_message.specs.Fields.{with_value}
use Rattle.be_message.specs.Messages.{Message, int}
use Rattle.be_message.specs.Words.{mouse_moved}
use Rattle.be_input.specs.declared.message.Mouse.{Mouse}
use Rattle.be_input.specs.declared.message.Mouse.TheVariants.{Moved}
use Rattle.be_input.specs.declared.message.Transit.{Transit}
use Rattle.be_input.specs.declared.message.Transit.TheVariants.{Entered, Inside, Exited}
use Rattle.be_input.specs.Deliveries.{where_message}
use Rattle.be_input.specs.Seen.{at_place, transit_number, mouse_message}
use Rattle.be_input.proofs.message.mouse_message.Goals as goal

number_stays : (t : Transit) → to_z w32 (of_z w32 (pos (transit_number t))) ≡ pos (transit_number t)
number_stays Entered = refl
number_stays Inside = refl
number_stays Exited = refl

moved : (t : Transit) (m new : Message) (p : Point) (n : ℤ) (mouse : Mouse) → mouse ≡ Moved t → n ≡ pos (transit_number t) → m ≡ where_message mouse_moved p → new ≡ with_value m (codes "transit") (int (to_z w32 (of_z w32 n))) → new ≡ mouse_message mouse p
moved t m new p n mouse is number where_is added =
    rw is (added ∙ (ap (λ z. with_value m (codes "transit") (int (to_z w32 (of_z w32 z)))) number
    ∙ (ap (λ z. with_value m (codes "transit") (int z)) (number_stays t) ∙ ap (λ k. with_value k (codes "transit") (int (pos (transit_number t)))) where_is)))

pub returns-in_ok-add-in-Moved : goal.returns-in_ok-add-in-Moved
returns-in_ok-add-in-Moved c =
    moved c.in-Moved.transit c.in_ok-message-in-Moved.message c.add.new.message (at_place c.args.place) c.transit_number.result c.args.mouse c.in-Moved.is c.transit_number.ensures c.in_ok-message-in-Moved.ensures c.in_ok-add-in-Moved.ensures
