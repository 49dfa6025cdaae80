use Rattle.std.proofs.Common.{sym, subst}
use Rattle.be_hall.specs.Machine.{IsReady}
use Rattle.small_world.specs.Counting.{passing}
use Rattle.small_world.specs.InHand.{CanAct, Acts}
use Rattle.small_world.proofs.Moving.{can_act, can_hand_over, places_stay, goes_on, fits_then, logs_grow}
use Rattle.small_world.proofs.parts.WorldParts.perform.Goals as goal

pub act_at-requires : goal.act_at-requires
act_at-requires c =
    let w = c.args.self.now in
    let step = c.args.ready.step in
    let held = c.args.held.now.parts in
    let may = subst (λ k. IsReady (passing w) k step) c.requires.seen c.requires.permitted in
    subst (CanAct held) (sym c.actor_of.ensures) (can_act w held step c.ascends.ensures
    c.requires.fitting may c.requires.spare)

pub hand_over-requires : goal.hand_over-requires
hand_over-requires c =
    let w = c.args.self.now in
    let step = c.args.ready.step in
    let held = c.args.held.now.parts in
    let mid = c.act_at.new.held.parts in
    let may = subst (λ k. IsReady (passing w) k step) c.requires.seen c.requires.permitted in
    let did =
    subst (λ p. Acts p step c.args.number held mid) c.actor_of.ensures c.act_at.ensures.acts in
    can_hand_over w held c.args.number mid step c.requires.fitting may c.requires.number.1
    c.requires.fits did

pub returns-clause-places : goal.returns-clause-places
returns-clause-places c =
    let step = c.args.ready.step in
    let held = c.args.held.now.parts in
    let mid = c.act_at.new.held.parts in
    let did =
    subst (λ p. Acts p step c.args.number held mid) c.actor_of.ensures c.act_at.ensures.acts in
    places_stay c.args.self.now held c.args.number mid c.hand_over.new.held.parts step did
    c.hand_over.ensures.given

pub returns-clause-after : goal.returns-clause-after
returns-clause-after c = λ all s f.
    let step = c.args.ready.step in
    let held = c.args.held.now.parts in
    let mid = c.act_at.new.held.parts in
    let did =
    subst (λ p. Acts p step c.args.number held mid) c.actor_of.ensures c.act_at.ensures.acts in
    goes_on c.args.self.now held c.args.number mid c.hand_over.new.held.parts step all
    c.ascends.ensures did c.hand_over.ensures.given f

pub returns-clause-fits : goal.returns-clause-fits
returns-clause-fits c =
    let w = c.args.self.now in
    let step = c.args.ready.step in
    let held = c.args.held.now.parts in
    let mid = c.act_at.new.held.parts in
    let may = subst (λ k. IsReady (passing w) k step) c.requires.seen c.requires.permitted in
    let did =
    subst (λ p. Acts p step c.args.number held mid) c.actor_of.ensures c.act_at.ensures.acts in
    fits_then w held c.args.number mid c.hand_over.new.held.parts step c.requires.number.0
    c.requires.fitting may did c.hand_over.ensures.given c.requires.fits

pub returns-clause-logs : goal.returns-clause-logs
returns-clause-logs c =
    let step = c.args.ready.step in
    let held = c.args.held.now.parts in
    let mid = c.act_at.new.held.parts in
    let did =
    subst (λ p. Acts p step c.args.number held mid) c.actor_of.ensures c.act_at.ensures.acts in
    logs_grow c.args.self.now held c.args.number mid c.hand_over.new.held.parts step
    c.ascends.ensures did c.hand_over.ensures.given
