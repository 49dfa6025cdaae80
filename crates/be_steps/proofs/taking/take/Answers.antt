use Rattle.std.proofs.Common.{sym, subst}
use Rattle.be_hall.specs.Hands.{Hand, meant}
use Rattle.be_hall.specs.Machine.{IsHeld}
use Rattle.be_machine.specs.Touched as part
use Rattle.be_parts.specs.Parts.{meaning_of}
use Rattle.be_parts.specs.declared.part.Part.{Part}
use Rattle.be_script.specs.Script.{declared_by}
use Rattle.be_steps.proofs.Taken.{looper_stays, looper_there, port_there, still_free, take_step, taken_next}
use Rattle.be_steps.proofs.taking.take.Goals as goal

pub looper_is_there-requires : goal.looper_is_there-requires
looper_is_there-requires c = looper_there (declared_by c.args.script.now) c.args.held.now c.args.w c.requires.allowed

pub port_is_there-requires : goal.port_is_there-requires
port_is_there-requires c = port_there (declared_by c.args.script.now) c.args.held.now c.args.w c.requires.allowed

pub left_at-means-requires-clause-there : goal.left_at-means-requires-clause-there
left_at-means-requires-clause-there c =
    let there = port_there (declared_by c.args.script.now) c.args.held.now c.args.w c.requires.allowed in (
      part.port c.args.w,
      there.reachable.there,
      c.port_place-place.ensures,
      subst (λ (h : Hand Part). IsHeld (meant meaning_of h.parts) c.port_place-place.result) (sym c.of-before.ensures) (subst (IsHeld (meant meaning_of c.args.held.now.parts)) (sym c.port_place-place.ensures) there.held),
    )

pub take-letter-requires : goal.take-letter-requires
take-letter-requires c =
    taken_next (declared_by c.args.script.now) c.args.held.now c.args.w c.requires.allowed c.args.message c.args.route c.requires.front c.port_place-place.result c.port_place-place.ensures
    c.port_to_change.result.now c.left_at-means.result.value c.of-before.result.value c.of-before.ensures c.port_to_change.ensures.value c.left_at-means.ensures

pub looper_to_change-requires : goal.looper_to_change-requires
looper_to_change-requires c =
    looper_stays (declared_by c.args.script.now) c.args.held.now c.args.w c.requires.allowed c.args.message c.args.route c.requires.front c.port_place-place.result c.port_place-place.ensures c.looper_place.result c.looper_place.ensures
    c.take-letter.new.self c.looper_is_there.ensures

pub begin-requires : goal.begin-requires
begin-requires c =
    still_free (declared_by c.args.script.now) c.args.held.now c.args.w c.requires.allowed c.args.message c.args.route c.requires.front c.port_place-place.result c.port_place-place.ensures c.looper_place.result c.looper_place.ensures
    c.take-letter.new.self c.looper_to_change.result.now c.looper_to_change.ensures.value

pub returns : goal.returns
returns c =
    take_step (declared_by c.args.script.now) c.args.held.now c.args.w c.requires.allowed c.args.message c.args.route c.requires.front c.port_place-place.result c.port_place-place.ensures c.looper_place.result c.looper_place.ensures
    c.port_to_change.result.now c.left_at-means.result.value c.take-letter.new.self c.of-before.result.value c.take-letter.result c.looper_to_change.result.now c.begin.new.self
    c.of-before.ensures c.port_to_change.ensures.value c.left_at-means.ensures c.take-letter.ensures.slice c.take-letter.ensures.letter c.looper_to_change.ensures.value c.begin.ensures.slice c.begin.ensures.log
