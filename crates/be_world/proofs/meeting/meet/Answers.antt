use Rattle.be_asking.specs.declared.want.Want.TheVariants as want
use Rattle.be_script.specs.Script.{declared_by}
use Rattle.be_world.proofs.Allowed.{allowed_by, done_by, suited_by}
use Rattle.be_world.proofs.Suiting.{has_notice, has_survey, has_taken, noticed, surveyed}
use Rattle.be_world.proofs.Suiting.{taken_front}
use Rattle.be_world.proofs.meeting.meet.Goals as goal

-- ---- give

pub give-requires-clause-allowed : goal.give-requires-clause-allowed
give-requires-clause-allowed c =
    allowed_by (declared_by c.args.script.now) c.args.held.now.parts c.args.who c.args.want
    c.requires.allowed (want.Asks c.in-Asks.runner c.in-Asks.request) c.in-Asks.is

pub give-requires-clause-suits : goal.give-requires-clause-suits
give-requires-clause-suits c =
    suited_by (declared_by c.args.script.now) c.args.held.now.parts c.args.who c.args.want
    c.requires.allowed (want.Asks c.in-Asks.runner c.in-Asks.request) c.in-Asks.is c.args.made
    c.requires.suits

pub returns-in-Asks : goal.returns-in-Asks
returns-in-Asks c =
    done_by (declared_by c.args.script.now) c.args.held.now.parts c.args.who c.args.want
    c.requires.allowed (want.Asks c.in-Asks.runner c.in-Asks.request) c.in-Asks.is c.args.held.now
    c.give.new.held c.give.ensures

-- ---- take

pub take-requires-clause-allowed : goal.take-requires-clause-allowed
take-requires-clause-allowed c =
    allowed_by (declared_by c.args.script.now) c.args.held.now.parts c.args.who c.args.want
    c.requires.allowed (want.Takes c.in-Takes.w) c.in-Takes.is

pub into_taken-message-requires : goal.into_taken-message-requires
into_taken-message-requires c =
    has_taken (declared_by c.args.script.now) c.args.held.now.parts c.args.made c.in-Takes.w
    (allowed_by (declared_by c.args.script.now) c.args.held.now.parts c.args.who c.args.want
    c.requires.allowed (want.Takes c.in-Takes.w) c.in-Takes.is)
    (suited_by (declared_by c.args.script.now) c.args.held.now.parts c.args.who c.args.want
    c.requires.allowed (want.Takes c.in-Takes.w) c.in-Takes.is c.args.made c.requires.suits)

pub take-requires-clause-front : goal.take-requires-clause-front
take-requires-clause-front c =
    taken_front (declared_by c.args.script.now) c.args.held.now.parts c.args.made c.in-Takes.w
    (allowed_by (declared_by c.args.script.now) c.args.held.now.parts c.args.who c.args.want
    c.requires.allowed (want.Takes c.in-Takes.w) c.in-Takes.is)
    (suited_by (declared_by c.args.script.now) c.args.held.now.parts c.args.who c.args.want
    c.requires.allowed (want.Takes c.in-Takes.w) c.in-Takes.is c.args.made c.requires.suits)
    c.into_taken-message.result.0 c.into_taken-message.result.1 c.into_taken-message.ensures

pub returns-in-Takes : goal.returns-in-Takes
returns-in-Takes c =
    done_by (declared_by c.args.script.now) c.args.held.now.parts c.args.who c.args.want
    c.requires.allowed (want.Takes c.in-Takes.w) c.in-Takes.is c.args.held.now c.take.new.held
    c.take.ensures

-- ---- begin

pub begin-requires-clause-allowed : goal.begin-requires-clause-allowed
begin-requires-clause-allowed c =
    allowed_by (declared_by c.args.script.now) c.args.held.now.parts c.args.who c.args.want
    c.requires.allowed (want.Begins c.in-Begins.w) c.in-Begins.is

pub into_survey-requires : goal.into_survey-requires
into_survey-requires c =
    has_survey (declared_by c.args.script.now) c.args.held.now.parts c.args.made c.in-Begins.w
    (allowed_by (declared_by c.args.script.now) c.args.held.now.parts c.args.who c.args.want
    c.requires.allowed (want.Begins c.in-Begins.w) c.in-Begins.is)
    (suited_by (declared_by c.args.script.now) c.args.held.now.parts c.args.who c.args.want
    c.requires.allowed (want.Begins c.in-Begins.w) c.in-Begins.is c.args.made c.requires.suits)

pub begin-requires-clause-survey : goal.begin-requires-clause-survey
begin-requires-clause-survey c =
    surveyed (declared_by c.args.script.now) c.args.held.now.parts c.args.made c.in-Begins.w
    (allowed_by (declared_by c.args.script.now) c.args.held.now.parts c.args.who c.args.want
    c.requires.allowed (want.Begins c.in-Begins.w) c.in-Begins.is)
    (suited_by (declared_by c.args.script.now) c.args.held.now.parts c.args.who c.args.want
    c.requires.allowed (want.Begins c.in-Begins.w) c.in-Begins.is c.args.made c.requires.suits)
    c.into_survey.result c.into_survey.ensures

pub returns-in-Begins : goal.returns-in-Begins
returns-in-Begins c =
    done_by (declared_by c.args.script.now) c.args.held.now.parts c.args.who c.args.want
    c.requires.allowed (want.Begins c.in-Begins.w) c.in-Begins.is c.args.held.now c.begin.new.held
    c.begin.ensures

-- ---- flush

pub flush-requires : goal.flush-requires
flush-requires c =
    allowed_by (declared_by c.args.script.now) c.args.held.now.parts c.args.who c.args.want
    c.requires.allowed (want.Flushes c.in-Flushes.w) c.in-Flushes.is

pub returns-in-Flushes : goal.returns-in-Flushes
returns-in-Flushes c =
    done_by (declared_by c.args.script.now) c.args.held.now.parts c.args.who c.args.want
    c.requires.allowed (want.Flushes c.in-Flushes.w) c.in-Flushes.is c.args.held.now
    c.flush.new.held c.flush.ensures

-- ---- put_end

pub put_end-requires : goal.put_end-requires
put_end-requires c =
    allowed_by (declared_by c.args.script.now) c.args.held.now.parts c.args.who c.args.want
    c.requires.allowed (want.DrawsEnd c.in-DrawsEnd.w) c.in-DrawsEnd.is

pub returns-in-DrawsEnd : goal.returns-in-DrawsEnd
returns-in-DrawsEnd c =
    done_by (declared_by c.args.script.now) c.args.held.now.parts c.args.who c.args.want
    c.requires.allowed (want.DrawsEnd c.in-DrawsEnd.w) c.in-DrawsEnd.is c.args.held.now
    c.put_end.new.held c.put_end.ensures

-- ---- end

pub end-requires : goal.end-requires
end-requires c =
    allowed_by (declared_by c.args.script.now) c.args.held.now.parts c.args.who c.args.want
    c.requires.allowed (want.Ends c.in-Ends.w) c.in-Ends.is

pub returns-in-Ends : goal.returns-in-Ends
returns-in-Ends c =
    done_by (declared_by c.args.script.now) c.args.held.now.parts c.args.who c.args.want
    c.requires.allowed (want.Ends c.in-Ends.w) c.in-Ends.is c.args.held.now c.end.new.held
    c.end.ensures

-- ---- notify

pub notify-requires-clause-allowed : goal.notify-requires-clause-allowed
notify-requires-clause-allowed c =
    allowed_by (declared_by c.args.script.now) c.args.held.now.parts c.args.who c.args.want
    c.requires.allowed (want.Notifies c.in-Notifies.w) c.in-Notifies.is

pub into_letter-requires : goal.into_letter-requires
into_letter-requires c =
    has_notice (declared_by c.args.script.now) c.args.held.now.parts c.args.made c.in-Notifies.w
    (allowed_by (declared_by c.args.script.now) c.args.held.now.parts c.args.who c.args.want
    c.requires.allowed (want.Notifies c.in-Notifies.w) c.in-Notifies.is)
    (suited_by (declared_by c.args.script.now) c.args.held.now.parts c.args.who c.args.want
    c.requires.allowed (want.Notifies c.in-Notifies.w) c.in-Notifies.is c.args.made
    c.requires.suits)

pub notify-requires-clause-letter : goal.notify-requires-clause-letter
notify-requires-clause-letter c =
    noticed (declared_by c.args.script.now) c.args.held.now.parts c.args.made c.in-Notifies.w
    (allowed_by (declared_by c.args.script.now) c.args.held.now.parts c.args.who c.args.want
    c.requires.allowed (want.Notifies c.in-Notifies.w) c.in-Notifies.is)
    (suited_by (declared_by c.args.script.now) c.args.held.now.parts c.args.who c.args.want
    c.requires.allowed (want.Notifies c.in-Notifies.w) c.in-Notifies.is c.args.made
    c.requires.suits)
    c.into_letter.result c.into_letter.ensures

pub returns-in-Notifies : goal.returns-in-Notifies
returns-in-Notifies c =
    done_by (declared_by c.args.script.now) c.args.held.now.parts c.args.who c.args.want
    c.requires.allowed (want.Notifies c.in-Notifies.w) c.in-Notifies.is c.args.held.now
    c.notify.new.held c.notify.ensures

-- ---- run

pub run-requires-clause-allowed : goal.run-requires-clause-allowed
run-requires-clause-allowed c =
    allowed_by (declared_by c.args.script.now) c.args.held.now.parts c.args.who c.args.want
    c.requires.allowed (want.Executes c.in-Executes.w) c.in-Executes.is

pub run-requires-clause-suits : goal.run-requires-clause-suits
run-requires-clause-suits c =
    suited_by (declared_by c.args.script.now) c.args.held.now.parts c.args.who c.args.want
    c.requires.allowed (want.Executes c.in-Executes.w) c.in-Executes.is c.args.made c.requires.suits

pub returns-in-Executes : goal.returns-in-Executes
returns-in-Executes c =
    done_by (declared_by c.args.script.now) c.args.held.now.parts c.args.who c.args.want
    c.requires.allowed (want.Executes c.in-Executes.w) c.in-Executes.is c.args.held.now
    c.run.new.held c.run.ensures

-- ---- use_line

pub use_line-requires-clause-allowed : goal.use_line-requires-clause-allowed
use_line-requires-clause-allowed c =
    allowed_by (declared_by c.args.script.now) c.args.held.now.parts c.args.who c.args.want
    c.requires.allowed (want.Uses c.in-Uses.line) c.in-Uses.is

pub use_line-requires-clause-suits : goal.use_line-requires-clause-suits
use_line-requires-clause-suits c =
    suited_by (declared_by c.args.script.now) c.args.held.now.parts c.args.who c.args.want
    c.requires.allowed (want.Uses c.in-Uses.line) c.in-Uses.is c.args.made c.requires.suits

pub returns-in-Uses : goal.returns-in-Uses
returns-in-Uses c =
    done_by (declared_by c.args.script.now) c.args.held.now.parts c.args.who c.args.want
    c.requires.allowed (want.Uses c.in-Uses.line) c.in-Uses.is c.args.held.now c.use_line.new.held
    c.use_line.ensures

-- ---- stop

pub stop-requires : goal.stop-requires
stop-requires c =
    allowed_by (declared_by c.args.script.now) c.args.held.now.parts c.args.who c.args.want
    c.requires.allowed want.Stops c.in-Stops.is

pub returns-in-Stops : goal.returns-in-Stops
returns-in-Stops c =
    done_by (declared_by c.args.script.now) c.args.held.now.parts c.args.who c.args.want
    c.requires.allowed want.Stops c.in-Stops.is c.args.held.now c.stop.new.held c.stop.ensures
