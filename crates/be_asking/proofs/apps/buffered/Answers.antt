use Rattle.std.proofs.Common.{◌<◌, length, Some, sym, ap, ◌∙◌, subst}
use Rattle.std.specs.Prelude.{IfSome, option_map}
use Rattle.be_asking.proofs.OwnParts.{kind_there}
use Rattle.be_asking.specs.Counts.{IsCount}
use Rattle.be_hall.specs.Hands.{part_at}
use Rattle.be_link.specs.Queues.{Buffer}
use Rattle.be_machine.specs.Touched as part
use Rattle.be_parts.specs.declared.part.Part.TheVariants as parts
use Rattle.be_script.specs.Script.{declared_by}
use Rattle.be_asking.proofs.apps.buffered.Goals as goal

pub looper_in_hand-requires : goal.looper_in_hand-requires
looper_in_hand-requires c = kind_there (declared_by c.args.script.now) c.args.held.now.parts c.requires.fitting (part.looper c.in-Some.window) (subst (λ o. IfSome o (λ w. w < length (declared_by c.args.script.now).windows)) c.in-Some.is c.requires.inside) c.looper_place-place.result c.looper_place-place.ensures

pub returns-in-Some-looper_in_hand-clause-count : goal.returns-in-Some-looper_in_hand-clause-count
returns-in-Some-looper_in_hand-clause-count c =
    subst (λ o. IsCount (declared_by c.args.script.now) c.args.held.now.parts o c.len.result) (sym c.in-Some.is)
    (parts.Looper c.in-Some-looper_in_hand.looper.now, ap (part_at c.args.held.now.parts) (sym c.looper_place-place.ensures) ∙ sym c.in-Some-looper_in_hand.ensures, ap (option_map (λ (b : Buffer). length b.commands)) c.buffer.ensures ∙ ap Some (sym c.len.ensures.len))
