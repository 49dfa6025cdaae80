use Rattle.std.proofs.lemmas.Result.{IfOk-weaker}
use Rattle.be_asking.specs.declared.activity.Activity.TheVariants as who
use Rattle.be_asking.specs.declared.activity.Runner.TheVariants as by
use Rattle.be_asking.specs.declared.want.Want.TheVariants as want
use Rattle.be_parts.specs.Kept.{note_in}
use Rattle.be_script.specs.Script.{declared_by}
use Rattle.be_world.proofs.Allowed.{allowed_by, suited_by}
use Rattle.be_noted.proofs.Makers.{noted_back}
use Rattle.be_noted.specs.Noted.{IsNoted}
use Rattle.be_noted.proofs.wanting.note_want.Goals as goal

-- ---- what it asks for

pub note_request-requires-clause-allowed : goal.note_request-requires-clause-allowed
note_request-requires-clause-allowed c =
    allowed_by (declared_by c.args.script.now) c.args.held.now.parts c.args.who c.args.want
    c.requires.allowed (want.Asks c.in-Asks.runner c.in-Asks.request) c.in-Asks.is

pub note_request-requires-clause-suits : goal.note_request-requires-clause-suits
note_request-requires-clause-suits c =
    suited_by (declared_by c.args.script.now) c.args.held.now.parts c.args.who c.args.want
    c.requires.allowed (want.Asks c.in-Asks.runner c.in-Asks.request) c.in-Asks.is c.args.made.now
    c.requires.suits

pub note_made_take-requires-clause-allowed : goal.note_made_take-requires-clause-allowed
note_made_take-requires-clause-allowed c =
    allowed_by (declared_by c.args.script.now) c.args.held.now.parts c.args.who c.args.want
    c.requires.allowed (want.Takes c.in-Takes.w) c.in-Takes.is

pub note_made_take-requires-clause-suits : goal.note_made_take-requires-clause-suits
note_made_take-requires-clause-suits c =
    suited_by (declared_by c.args.script.now) c.args.held.now.parts c.args.who c.args.want
    c.requires.allowed (want.Takes c.in-Takes.w) c.in-Takes.is c.args.made.now c.requires.suits

pub note_listing-requires : goal.note_listing-requires
note_listing-requires c =
    allowed_by (declared_by c.args.script.now) c.args.held.now.parts c.args.who c.args.want
    c.requires.allowed (want.Begins c.in-Begins.w) c.in-Begins.is

-- ---- what is noted of that

pub returns-in-Asks : goal.returns-in-Asks
returns-in-Asks c =
    let d = declared_by c.args.script.now in
    let parts = c.args.held.now.parts in
    let asks = want.Asks c.in-Asks.runner c.in-Asks.request in
    IfOk-weaker c.note_request.result
    (λ note. IsNoted d parts (who.Runner c.in-Asks.runner) (note_in note))
    (λ note. IsNoted d parts c.args.who (note_in note))
    (λ note. noted_back d parts c.args.who c.args.want c.requires.allowed asks c.in-Asks.is
    (note_in note)) c.note_request.ensures

pub returns-in-Takes : goal.returns-in-Takes
returns-in-Takes c =
    let d = declared_by c.args.script.now in
    let parts = c.args.held.now.parts in
    let w = c.in-Takes.w in
    IfOk-weaker c.note_made_take.result
    (λ note. IsNoted d parts (who.Runner (by.Looper w)) (note_in note))
    (λ note. IsNoted d parts c.args.who (note_in note))
    (λ note. noted_back d parts c.args.who c.args.want c.requires.allowed (want.Takes w)
    c.in-Takes.is (note_in note)) c.note_made_take.ensures

pub returns-in-Begins : goal.returns-in-Begins
returns-in-Begins c =
    let d = declared_by c.args.script.now in
    let parts = c.args.held.now.parts in
    let w = c.in-Begins.w in
    IfOk-weaker c.note_listing.result
    (λ note. IsNoted d parts (who.Runner (by.Looper w)) (note_in note))
    (λ note. IsNoted d parts c.args.who (note_in note))
    (λ note. noted_back d parts c.args.who c.args.want c.requires.allowed (want.Begins w)
    c.in-Begins.is (note_in note)) c.note_listing.ensures
