use Rattle.std.proofs.Common.{Some, None, refl, sym, ap, ◌∙◌}
use Rattle.be_asking.specs.declared.want.Request.TheVariants as request
use Rattle.be_machine.specs.Touched as part
use Rattle.be_port.specs.declared.Duty.TheVariants.{Free, Done, Owed}
use Rattle.be_script.specs.Script.{declared_by}
use Rattle.be_steps.proofs.Owned.{not_missing}
use Rattle.be_noted.proofs.Claims.{is_lost, is_replied, looper_there}
use Rattle.be_noted.proofs.Makers.{no_reply_noted, reply_noted}
use Rattle.be_noted.proofs.replying.note_reply.Goals as goal

pub find_looper-requires : goal.find_looper-requires
find_looper-requires c =
    (looper_there (declared_by c.args.script.now) c.args.held.now.parts c.args.w
    (request.Reply c.args.draft) c.requires.allowed).reachable

pub unreachable-requires : goal.unreachable-requires
unreachable-requires c =
    let d = declared_by c.args.script.now in
    let parts = c.args.held.now.parts in
    not_missing d parts (part.looper c.args.w) c.in_default.field-0
    (looper_there d parts c.args.w (request.Reply c.args.draft) c.requires.allowed)
    c.in_default.ensures.missing

-- ---- nobody waits

pub returns-in_default-letter : goal.returns-in_default-letter
returns-in_default-letter c =
    let d = declared_by c.args.script.now in
    let parts = c.args.held.now.parts in
    no_reply_noted d parts c.args.w c.args.draft c.requires.allowed
    (is_lost d parts c.args.w (request.Reply c.args.draft) c.requires.allowed c.in-Ok.part.now
    c.in-Ok.ensures.there None (sym c.in_default-letter.ensures.duty) c.args.draft.now refl)

pub returns-in-Done : goal.returns-in-Done
returns-in-Done c =
    let d = declared_by c.args.script.now in
    let parts = c.args.held.now.parts in
    no_reply_noted d parts c.args.w c.args.draft c.requires.allowed
    (is_lost d parts c.args.w (request.Reply c.args.draft) c.requires.allowed c.in-Ok.part.now
    c.in-Ok.ensures.there (Some Done)
    (sym c.in-Some.ensures.duty ∙ ap (λ x. Some x) c.in-Done.is) c.args.draft.now refl)

pub returns-in-Free : goal.returns-in-Free
returns-in-Free c =
    let d = declared_by c.args.script.now in
    let parts = c.args.held.now.parts in
    no_reply_noted d parts c.args.w c.args.draft c.requires.allowed
    (is_lost d parts c.args.w (request.Reply c.args.draft) c.requires.allowed c.in-Ok.part.now
    c.in-Ok.ensures.there (Some Free)
    (sym c.in-Some.ensures.duty ∙ ap (λ x. Some x) c.in-Free.is) c.args.draft.now refl)

-- ---- somebody does

pub returns-in_ok-text_of-in-Owed : goal.returns-in_ok-text_of-in-Owed
returns-in_ok-text_of-in-Owed c =
    let d = declared_by c.args.script.now in
    let parts = c.args.held.now.parts in
    reply_noted d parts c.args.w c.args.draft c.args.message
    c.in_ok-text_of-in-Owed.field-0.items c.in_ok-text_of-in-Owed.ensures c.requires.allowed
    (is_replied d parts c.args.w (request.Reply c.args.draft) c.requires.allowed c.in-Ok.part.now
    c.in-Ok.ensures.there (Some (Owed c.in-Owed.field-0))
    (sym c.in-Some.ensures.duty ∙ ap (λ x. Some x) c.in-Owed.is) c.args.draft.now
    c.in-Owed.field-0 refl c.args.message.now c.requires.message)
