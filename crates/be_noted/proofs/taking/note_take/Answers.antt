use Rattle.std.proofs.Common.{refl, sym, ap, ◌∙◌}
use Rattle.std.proofs.lemmas.Result.{IfOk-weaker}
use Rattle.std.specs.Prelude.{option_copied}
use Rattle.be_asking.specs.declared.activity.Activity.TheVariants as who
use Rattle.be_asking.specs.declared.activity.Runner.TheVariants as by
use Rattle.be_machine.specs.Touched as part
use Rattle.be_ready.proofs.Fronts.{is_there, port_there, some_letter}
use Rattle.be_script.specs.Script.{declared_by}
use Rattle.be_steps.proofs.Owned.{not_missing}
use Rattle.be_written.specs.declared.note.Note.{Note}
use Rattle.be_written.specs.declared.note.Note.TheVariants as note
use Rattle.be_written.specs.declared.said.Said.TheVariants as spoken
use Rattle.be_noted.proofs.Letters.{says_taken}
use Rattle.be_noted.proofs.Makers.{IsTextOf, noted_as}
use Rattle.be_noted.specs.Noted.{IsNoted}
use Rattle.be_noted.proofs.taking.note_take.Goals as goal

pub find_port-requires : goal.find_port-requires
find_port-requires c =
    (port_there (declared_by c.args.script.now) c.args.held.now.parts c.args.w
    c.requires.allowed).reachable

pub unreachable-requires : goal.unreachable-requires
unreachable-requires c =
    let d = declared_by c.args.script.now in
    let parts = c.args.held.now.parts in
    not_missing d parts (part.port c.args.w) c.in_default.field-0
    (port_there d parts c.args.w c.requires.allowed) c.in_default.ensures.missing

pub unwrap-letter-requires : goal.unwrap-letter-requires
unwrap-letter-requires c =
    is_there c.front.result _ c.front.ensures
    (some_letter (declared_by c.args.script.now) c.args.held.now.parts c.args.w c.requires.allowed
    c.in-Ok.part.now c.in-Ok.ensures.there c.port.result.now c.port.ensures
    c.queues_are_ports.ensures.empty)

pub returns : goal.returns
returns c =
    let d = declared_by c.args.script.now in
    let parts = c.args.held.now.parts in
    let r = by.Looper c.args.w in
    let letter = c.unwrap-letter.result.now in
    let took : Note =
    note.Took letter.number (record {
      sender = letter.sender;
      hop = letter.hop;
      target = letter.target;
      route = c.args.route;
      message = spoken.Whole c.args.message;
    }) in
    IfOk-weaker c.text_of.result (λ text. IsTextOf d r took text.items)
    (λ text. IsNoted d parts (who.Runner r) text.items)
    (λ text is. noted_as d parts r took text.items is
    (says_taken d parts c.args.w c.requires.allowed c.in-Ok.part.now c.in-Ok.ensures.there
    c.port.result.now c.port.ensures c.queues_are_ports.ensures.takes letter
    (sym c.front.ensures ∙ ap option_copied c.unwrap-letter.ensures) c.args.message.now
    c.args.route c.requires.front c.args.message refl)) c.text_of.ensures
