use Rattle.be_script.specs.Script.{declared_by}
use Rattle.be_world.proofs.Suiting.{has_taken, taken_front}
use Rattle.be_noted.proofs.wanting.note_made_take.Goals as goal

pub note_take-requires-clause-front : goal.note_take-requires-clause-front
note_take-requires-clause-front c =
    taken_front (declared_by c.args.script.now) c.args.held.now.parts c.args.made.now c.args.w
    c.requires.allowed c.requires.suits c.in-Taken.message c.in-Taken.route c.in-Taken.is

pub unreachable-requires : goal.unreachable-requires
unreachable-requires c =
    let taken =
    has_taken (declared_by c.args.script.now) c.args.held.now.parts c.args.made.now c.args.w
    c.requires.allowed c.requires.suits in
    c.in_default.not-Taken taken.0 taken.1 taken.2
