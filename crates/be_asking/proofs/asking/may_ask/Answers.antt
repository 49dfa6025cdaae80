use Rattle.std.proofs.Common.{subst}
use Rattle.be_script.specs.Script.{declared_by}
use Rattle.be_asking.specs.Deeds.{IsAsked}
use Rattle.be_asking.specs.declared.activity.Activity.TheVariants as who
use Rattle.be_asking.specs.declared.want.Request.TheVariants as request
use Rattle.be_asking.specs.declared.want.Want.TheVariants as want
use Rattle.be_asking.proofs.OwnersAnswered.{app_replies_not, looper_claims_not}
use Rattle.be_asking.proofs.asking.may_ask.Goals as goal

pub returns-in-App : goal.returns-in-App
returns-in-App c =
    app_replies_not (declared_by c.args.script.now) c.args.held.now.parts c.args.number c.in-App.field-0 c.in-Reply.field-0
    (subst (λ r. IsAsked (declared_by c.args.script.now) c.args.held.now.parts c.args.number (who.Runner r) (want.Asks r (request.Reply c.in-Reply.field-0))) c.in-App.is
    (subst (λ q. IsAsked (declared_by c.args.script.now) c.args.held.now.parts c.args.number (who.Runner c.args.runner) (want.Asks c.args.runner q)) c.in-Reply.is c.requires))

pub returns-in-Looper-runner : goal.returns-in-Looper-runner
returns-in-Looper-runner c =
    looper_claims_not (declared_by c.args.script.now) c.args.held.now.parts c.args.number c.in-Looper-runner.field-0
    (subst (λ r. IsAsked (declared_by c.args.script.now) c.args.held.now.parts c.args.number (who.Runner r) (want.Asks r request.Claim)) c.in-Looper-runner.is
    (subst (λ q. IsAsked (declared_by c.args.script.now) c.args.held.now.parts c.args.number (who.Runner c.args.runner) (want.Asks c.args.runner q)) c.in-Claim.is c.requires))
