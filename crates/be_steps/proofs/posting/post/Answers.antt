use Rattle.std.proofs.Common.{sym, subst}
use Rattle.be_hall.specs.Hands.{Hand, meant}
use Rattle.be_hall.specs.Machine.{IsHeld}
use Rattle.be_machine.specs.Touched as part
use Rattle.be_parts.specs.Parts.{meaning_of}
use Rattle.be_parts.specs.declared.part.Part.{Part}
use Rattle.be_script.specs.Script.{declared_by}
use Rattle.be_steps.proofs.Gone.{own_there}
use Rattle.be_steps.proofs.Idle.{idle_at_send}
use Rattle.be_steps.proofs.PostDone.{few_letters, idle_stays, own_stays, port_there, post_step, posted_next}
use Rattle.be_steps.proofs.posting.post.Goals as goal

pub own_is_there-requires : goal.own_is_there-requires
own_is_there-requires c = own_there (declared_by c.args.script.now) c.args.held.now.parts c.args.runner c.args.request c.requires.allowed

pub port_is_there-requires : goal.port_is_there-requires
port_is_there-requires c = port_there (declared_by c.args.script.now) c.args.held.now c.args.runner c.args.request c.args.w c.requires.allowed c.requires.window

pub left_at-means-requires-clause-there : goal.left_at-means-requires-clause-there
left_at-means-requires-clause-there c =
    let there = port_there (declared_by c.args.script.now) c.args.held.now c.args.runner c.args.request c.args.w c.requires.allowed c.requires.window in (
      part.port c.args.w,
      there.reachable.there,
      c.port_place-place.ensures,
      subst (λ (h : Hand Part). IsHeld (meant meaning_of h.parts) c.port_place-place.result) (sym c.of-before.ensures) (subst (IsHeld (meant meaning_of c.args.held.now.parts)) (sym c.port_place-place.ensures) there.held),
    )

pub post-requires-clause-last : goal.post-requires-clause-last
post-requires-clause-last c =
    few_letters (declared_by c.args.script.now) c.args.held.now c.args.runner c.args.request c.args.w c.requires.allowed c.requires.window c.args.letter c.requires.letter c.port_place-place.result c.port_place-place.ensures
    c.port_to_change.result.now c.port_to_change.ensures.value

pub post-requires-clause-next : goal.post-requires-clause-next
post-requires-clause-next c =
    posted_next (declared_by c.args.script.now) c.args.held.now c.args.runner c.args.request c.args.w c.requires.allowed c.requires.window c.args.letter c.requires.letter c.port_place-place.result c.port_place-place.ensures
    c.port_to_change.result.now c.left_at-means.result.value c.of-before.result.value c.of-before.ensures c.port_to_change.ensures.value c.left_at-means.ensures

pub place_past-next-requires-clause-there : goal.place_past-next-requires-clause-there
place_past-next-requires-clause-there c = (own_there (declared_by c.args.script.now) c.args.held.now.parts c.args.runner c.args.request c.requires.allowed).reachable.there

pub place_past-next-requires-clause-own : goal.place_past-next-requires-clause-own
place_past-next-requires-clause-own c =
    own_stays (declared_by c.args.script.now) c.args.held.now c.args.runner c.args.request c.args.w c.requires.allowed c.requires.window c.args.letter c.requires.letter c.port_place-place.result c.port_place-place.ensures
    c.post.new.self c.own_is_there.ensures

pub settle-requires-clause-own : goal.settle-requires-clause-own
settle-requires-clause-own c =
    own_stays (declared_by c.args.script.now) c.args.held.now c.args.runner c.args.request c.args.w c.requires.allowed c.requires.window c.args.letter c.requires.letter c.port_place-place.result c.port_place-place.ensures
    c.post.new.self c.own_is_there.ensures

pub settle-requires-clause-idle : goal.settle-requires-clause-idle
settle-requires-clause-idle c =
    idle_stays (declared_by c.args.script.now) c.args.held.now c.args.runner c.args.request c.args.w c.requires.allowed c.requires.window c.args.letter c.requires.letter c.port_place-place.result c.port_place-place.ensures
    c.post.new.self c.args.request (idle_at_send (declared_by c.args.script.now) c.args.held.now.parts c.args.runner c.args.request c.requires.allowed c.a_cell_is_idle_at_a_send.ensures)

pub returns : goal.returns
returns c =
    post_step (declared_by c.args.script.now) c.args.held.now c.args.runner c.args.request c.args.w c.requires.allowed c.requires.window c.args.letter c.requires.letter c.port_place-place.result c.port_place-place.ensures
    c.port_to_change.result.now c.left_at-means.result.value c.post.new.self c.of-before.result.value c.post.result c.is_ok-accepted.result c.place_past-next.result c.settle.new.held
    c.of-before.ensures c.port_to_change.ensures.value c.left_at-means.ensures c.post.ensures.slice c.post.ensures.answer c.is_ok-accepted.ensures.value c.place_past-next.ensures c.settle.ensures
