use Rattle.std.proofs.Common.{refl, ap}
use Rattle.std.specs.Prelude.{option_map}
use Rattle.std.specs.Option.{option_copied}
use Rattle.std.proofs.lemmas.Result.{IfOk-weaker}
use Rattle.be_asking.specs.declared.activity.Runner.TheVariants as by
use Rattle.be_machine.specs.Port.{letter}
use Rattle.be_port.specs.StandsFor.{Carries}
use Rattle.be_port.specs.declared.Duty.TheVariants.{Free}
use Rattle.be_port.specs.declared.Sender.TheVariants as sender
use Rattle.be_ready.proofs.Made.{own_there}
use Rattle.be_ready.proofs.Posted.{behind, forwarded, is_held, post_made, sends_not}
use Rattle.be_script.specs.Script.{declared_by}
use Rattle.be_steps.specs.Letters.{IsWishedLetter}
use Rattle.be_ready.proofs.letters.looper_letter.Goals as goal
use Rattle.be_ready.proofs.letters.looper_letter.Goals.{in_default-via-in-Some+in_default, in_default-via-in_default}

pub looper_there-looper-requires : goal.looper_there-looper-requires
looper_there-looper-requires c = own_there (declared_by c.args.script.now) c.args.held.now.parts (by.Looper c.args.w) c.args.request c.requires.asked

pub unreachable-requires : goal.unreachable-requires
unreachable-requires c =
    let d = declared_by c.args.script.now in
    let parts = c.args.held.now.parts in
    elim c.in_default.branch [
      | in_default-via-in-Some+in_default w ↦
          is_held d parts c.args.w c.args.request c.requires.asked c.looper_there-looper.result.now c.looper_there-looper.ensures _ (option_copied c.message-in-Forward.result) c.message-in-Forward.ensures (ap option_copied w.in_default.is-1)
      | in_default-via-in_default w ↦
          is_held d parts c.args.w c.args.request c.requires.asked c.looper_there-looper.result.now c.looper_there-looper.ensures _ (option_map (λ l. l.now.hop) c.letter.result) c.letter.ensures.hop (ap (option_map (λ l. l.now.hop)) w.in_default.is-0)
    ]

pub returns-in-Some-Some : goal.returns-in-Some-Some
returns-in-Some-Some c =
    let d = declared_by c.args.script.now in
    let parts = c.args.held.now.parts in
    IfOk-weaker c.sealed-in-Forward.result (λ l. Carries l (letter (sender.Looper c.args.w) c.in-Forward.target c.hop_behind-hop.result c.handed_on-duty.result c.in-Some-Some.message.now)) (IsWishedLetter d parts (by.Looper c.args.w) c.args.request)
    (forwarded d parts c.args.w c.args.request c.requires.asked c.looper_there-looper.result.now c.looper_there-looper.ensures c.hop_behind-hop.result
    (behind d parts c.args.w c.args.request c.requires.asked c.looper_there-looper.result.now c.looper_there-looper.ensures c.hop_behind-hop.result c.hop_behind-hop.ensures)
    c.in-Forward.field-0 c.in-Forward.target c.in-Forward.is c.in-Some-Some.letter.now.duty c.handed_on-duty.result c.in-Some-Some.message.now
    c.in-Some-Some.ensures.duty c.handed_on-duty.ensures c.in-Some-Some.ensures')
    c.sealed-in-Forward.ensures

pub returns-in_ok-message-in-Post : goal.returns-in_ok-message-in-Post
returns-in_ok-message-in-Post c =
    let d = declared_by c.args.script.now in
    let parts = c.args.held.now.parts in
    IfOk-weaker c.sealed.result (λ l. Carries l (letter (sender.Looper c.args.w) c.in-Post.target c.hop_behind-hop.result Free c.in_ok-message-in-Post.message)) (IsWishedLetter d parts (by.Looper c.args.w) c.args.request)
    (λ l carries. post_made d parts (by.Looper c.args.w) c.hop_behind-hop.result
    (behind d parts c.args.w c.args.request c.requires.asked c.looper_there-looper.result.now c.looper_there-looper.ensures c.hop_behind-hop.result c.hop_behind-hop.ensures)
    c.in-Post.target Free c.in_ok-message-in-Post.message l carries c.args.request c.in-Post.field-0 c.in-Post.field-2 c.in-Post.is refl c.in_ok-message-in-Post.ensures)
    c.sealed.ensures

pub unreachable-requires-in-Send : goal.unreachable-requires-in-Send
unreachable-requires-in-Send c = sends_not (declared_by c.args.script.now) c.args.held.now.parts c.args.w c.args.request c.requires.asked c.in-Send.field-0 c.in-Send.field-1 c.in-Send.field-2 c.in-Send.is
