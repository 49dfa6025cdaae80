use Rattle.std.proofs.Common.{◌≡◌, Some, sym, refl, ap, ◌∙◌, subst}
use Rattle.be_hall.specs.Hands.{meant, part_at}
use Rattle.be_hall.specs.Machine.{IsReady}
use Rattle.be_hall.specs.Answers.{HasSpare}
use Rattle.be_hall.proofs.Holding.{meant_with, with_here, has_spare}
use Rattle.small_world.specs.declared.counter.Counter.{Counter}
use Rattle.small_world.specs.Counting.{passing}
use Rattle.small_world.specs.Counters.{count_of, log_of, spare_of}
use Rattle.small_world.proofs.Moving.{actor_in_hand}
use Rattle.small_world.proofs.parts.WorldParts.prepare.Goals as goal

pub make_room-requires : goal.make_room-requires
make_room-requires c =
    let held = c.args.held.now.parts in
    subst (λ p. (x : Counter) × (part_at held p ≡ Some x)) (sym c.actor_of.ensures)
    (actor_in_hand c.args.self.now held c.args.entry.now c.requires.fitting c.in-May.ensures)

pub returns-in-Needs-clause-answer : goal.returns-in-Needs-clause-answer
returns-in-Needs-clause-answer c = (c.in-Needs.ensures.0, c.in-Needs.ensures.2)

pub returns-in_err-make_room-in-May-clause-same : goal.returns-in_err-make_room-in-May-clause-same
returns-in_err-make_room-in-May-clause-same c =
    let e = c.make_room.ensures.same in
    ap (meant count_of) e.3
    ∙ meant_with count_of c.args.held.now.parts c.actor_of.result e.0 e.1 e.2 e.4

pub returns-in_err-make_room-in-May-clause-logs : goal.returns-in_err-make_room-in-May-clause-logs
returns-in_err-make_room-in-May-clause-logs c =
    let e = c.make_room.ensures.same in
    ap (meant log_of) e.3
    ∙ meant_with log_of c.args.held.now.parts c.actor_of.result e.0 e.1 e.2 e.5

pub returns-in_ok-make_room-in-May-clause-same : goal.returns-in_ok-make_room-in-May-clause-same
returns-in_ok-make_room-in-May-clause-same c =
    let e = c.make_room.ensures.same in
    ap (meant count_of) e.3
    ∙ meant_with count_of c.args.held.now.parts c.actor_of.result e.0 e.1 e.2 e.4

pub returns-in_ok-make_room-in-May-clause-logs : goal.returns-in_ok-make_room-in-May-clause-logs
returns-in_ok-make_room-in-May-clause-logs c =
    let e = c.make_room.ensures.same in
    ap (meant log_of) e.3
    ∙ meant_with log_of c.args.held.now.parts c.actor_of.result e.0 e.1 e.2 e.5

pub returns-in_ok-make_room-in-May-clause-answer : goal.returns-in_ok-make_room-in-May-clause-answer
returns-in_ok-make_room-in-May-clause-answer c =
    let w = c.args.self.now in
    let step = c.args.entry.now in
    let old = c.args.held.now.parts in
    let new = c.make_room.new.held.parts in
    let actor = c.actor_of.result in
    let e = c.in_ok-make_room-in-May.ensures.same in
    let same = ap (meant count_of) e.3 ∙ meant_with count_of old actor e.0 e.1 e.2 e.4 in
    let at_y = ap (λ l. part_at l actor) e.3 ∙ with_here old actor e.0 e.1 e.2 in (
      refl,
      ap (λ h. meant count_of h.parts) c.of-seen.ensures,
      subst (λ k. IsReady (passing w) k step) (sym same) c.in-May.ensures,
      subst (λ p. HasSpare p (meant spare_of new)) c.actor_of.ensures
          (has_spare spare_of new actor e.1 at_y e.6),
      tt,
    )
