use Rattle.std.proofs.Common.{◌≡◌, ◌<◌, ◌∙◌, Some, ap, option_map, subst, sym, true}
use Rattle.std.specs.Prelude.{is_some}
use Rattle.std.proofs.lemmas.Option.{same_Some}
use Rattle.std.proofs.lemmas.Result.{IfOk-weaker}
use Rattle.be_hall.specs.Hands.{part_at, with_part}
use Rattle.be_hall.proofs.Holding.{with_here}
use Rattle.be_parts.specs.Parts.{logged_of, spare_of}
use Rattle.be_parts.specs.declared.part.Part.{Part}
use Rattle.be_world.specs.Entering.{TakesEntry}
use Rattle.be_world.proofs.logs.make_room_at.Goals as goal

pub returns-clause-made : goal.returns-clause-made
returns-clause-made c =
    let parts = c.args.held.now.parts in
    let was = c.unwrap.result.now in
    let is = c.make_room.new.self in
    let at : part_at parts c.args.place ≡ Some was =
    sym c.get_mut.ensures.value ∙ ap (option_map (λ x. x.now)) c.unwrap.ensures in
    let same : c.requires.0 ≡ was = same_Some c.requires.0 was (sym c.requires.1 ∙ at) in
    let keeps : is_some (logged_of was) ≡ true =
    subst (λ (x : Part). is_some (logged_of x) ≡ true) same c.requires.2 in
    IfOk-weaker c.make_room.result (λ _. 0 < spare_of is)
    (λ _. TakesEntry (with_part parts c.args.place is) c.args.place)
    (λ _ room. (is, with_here parts c.args.place was is at, room)) (c.make_room.ensures.room keeps)
