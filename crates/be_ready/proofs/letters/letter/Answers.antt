use Rattle.std.proofs.Common.{sym, subst}
use Rattle.std.specs.Prelude.{IfOk}
use Rattle.be_ready.specs.Letters.{Asks}
use Rattle.be_script.specs.Script.{declared_by}
use Rattle.be_steps.specs.Letters.{IsWishedLetter}
use Rattle.be_ready.proofs.letters.letter.Goals as goal

pub app_letter-requires-clause-asked : goal.app_letter-requires-clause-asked
app_letter-requires-clause-asked c = subst (λ r. Asks (declared_by c.args.script.now) c.args.held.now.parts r c.args.request) c.in-App.is c.requires.asked

pub looper_letter-requires-clause-asked : goal.looper_letter-requires-clause-asked
looper_letter-requires-clause-asked c = subst (λ r. Asks (declared_by c.args.script.now) c.args.held.now.parts r c.args.request) c.in-Looper.is c.requires.asked

pub returns-in-App : goal.returns-in-App
returns-in-App c = subst (λ r. IfOk c.app_letter.result (IsWishedLetter (declared_by c.args.script.now) c.args.held.now.parts r c.args.request)) (sym c.in-App.is) c.app_letter.ensures

pub returns-in-Looper : goal.returns-in-Looper
returns-in-Looper c = subst (λ r. IfOk c.looper_letter.result (IsWishedLetter (declared_by c.args.script.now) c.args.held.now.parts r c.args.request)) (sym c.in-Looper.is) c.looper_letter.ensures
