use Rattle.std.proofs.Common.{◌≡◌, true, false, refl, sym, ap, ◌∙◌}
use Rattle.std.specs.Prelude.{is_some}
use Rattle.std.proofs.lemmas.Result.{IfOk-weaker}
use Rattle.be_asking.specs.declared.activity.Runner.TheVariants as by
use Rattle.be_machine.specs.Port.{letter}
use Rattle.be_port.specs.StandsFor.{Carries}
use Rattle.be_port.specs.declared.Duty.TheVariants.{Free, Owed}
use Rattle.be_port.specs.declared.Sender.TheVariants as sender
use Rattle.be_ready.proofs.Posted.{app_hop, app_makes, post_made, send_made}
use Rattle.be_ready.specs.Letters.{draft_asked}
use Rattle.be_script.specs.Script.{declared_by}
use Rattle.be_steps.specs.Letters.{IsWishedLetter}
use Rattle.be_ready.proofs.letters.app_letter.Goals as goal

pub app_message-requires-clause-makes : goal.app_message-requires-clause-makes
app_message-requires-clause-makes c = app_makes (declared_by c.args.script.now) c.args.held.now.parts c.args.m c.args.request c.requires.asked c.requires.posts

pub returns-in-Post : goal.returns-in-Post
returns-in-Post c =
    let d = declared_by c.args.script.now in
    let parts = c.args.held.now.parts in
    IfOk-weaker c.sealed.result (λ l. Carries l (letter (sender.App c.args.m) c.in-Post.target 0 Free c.in_ok-message.message)) (IsWishedLetter d parts (by.App c.args.m) c.args.request)
    (λ l carries. post_made d parts (by.App c.args.m) 0 (app_hop d parts c.args.m) c.in-Post.target Free c.in_ok-message.message l carries c.args.request c.in-Post.field-0 c.in-Post.field-2 c.in-Post.is refl c.in_ok-message.ensures)
    c.sealed.ensures

pub returns-in-Send : goal.returns-in-Send
returns-in-Send c =
    let d = declared_by c.args.script.now in
    let parts = c.args.held.now.parts in
    IfOk-weaker c.sealed-in-Send.result (λ l. Carries l (letter (sender.App c.args.m) c.in-Send.target 0 (Owed c.args.m) c.in_ok-message.message)) (IsWishedLetter d parts (by.App c.args.m) c.args.request)
    (λ l carries. send_made d parts (by.App c.args.m) 0 (app_hop d parts c.args.m) c.in-Send.target (Owed c.args.m) c.in_ok-message.message l carries c.args.request c.in-Send.field-0 c.in-Send.field-2 c.in-Send.is refl c.in_ok-message.ensures)
    c.sealed-in-Send.ensures

pub unreachable-requires : goal.unreachable-requires
unreachable-requires c =
    let makes : is_some (draft_asked c.args.request) ≡ true = app_makes (declared_by c.args.script.now) c.args.held.now.parts c.args.m c.args.request c.requires.asked c.requires.posts in
    let never : false ≡ true = ap (λ q. is_some (draft_asked q)) (sym c.in-Forward.is) ∙ makes in
    cc
