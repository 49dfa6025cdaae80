use Rattle.std.proofs.Common.{◌∙◌, ap, option_map, subst, sym}
use Rattle.be_asking.specs.Wants.{activity_in}
use Rattle.be_hall.specs.Hands.{meant}
use Rattle.be_hall.specs.Machine.{IsAskable}
use Rattle.be_machine.specs.Activities.{activity_of}
use Rattle.be_parts.specs.Kept.{note_in}
use Rattle.be_rules.specs.Rules.{world_machine}
use Rattle.be_script.specs.Script.{Declared, declared_by}
use Rattle.be_world.specs.Preparing.{IsVerdict}
use Rattle.be_world.specs.Suits.{MayStep}
use Rattle.be_noted.proofs.Both.{noted_same, ready_with}
use Rattle.be_noted.proofs.Noted.{may, needs_noted, not_noted, note_is, ready, somebody}
use Rattle.be_noted.specs.Noting.{noted_of}
use Rattle.be_noted.proofs.noting.Noting.note.Goals as goal

-- ---- the parts tell the same

pub returns-in_err-ready-clause-same : goal.returns-in_err-ready-clause-same
returns-in_err-ready-clause-same c =
    noted_same c.ready.new.held.parts c.args.held.now.parts c.ready.ensures.same
    c.ready.ensures.notes

pub returns-in_err-note-in-Ready-clause-same : goal.returns-in_err-note-in-Ready-clause-same
returns-in_err-note-in-Ready-clause-same c =
    noted_same c.ready.new.held.parts c.args.held.now.parts c.ready.ensures.same
    c.ready.ensures.notes

pub returns-in-NotLegal-clause-same : goal.returns-in-NotLegal-clause-same
returns-in-NotLegal-clause-same c =
    noted_same c.ready.new.held.parts c.args.held.now.parts c.ready.ensures.same
    c.ready.ensures.notes

pub returns-in-Needs-clause-same : goal.returns-in-Needs-clause-same
returns-in-Needs-clause-same c =
    noted_same c.ready.new.held.parts c.args.held.now.parts c.ready.ensures.same
    c.ready.ensures.notes

pub returns-in_ok-note-in-Ready-clause-same : goal.returns-in_ok-note-in-Ready-clause-same
returns-in_ok-note-in-Ready-clause-same c =
    noted_same c.ready.new.held.parts c.args.held.now.parts c.ready.ensures.same
    c.ready.ensures.notes

-- ---- no entry

pub returns-in-NotLegal-clause-answer : goal.returns-in-NotLegal-clause-answer
returns-in-NotLegal-clause-answer c =
    let d = c.args.self.now in
    let parts = c.ready.new.held.parts in
    let e = c.args.entry.now in
    let v = c.in_ok-ready.field-0 in
    not_noted d parts e
    (subst (IsAskable (world_machine d)) (sym c.ready.ensures.same) c.requires) v c.in-NotLegal.is
    (subst (λ (x : Declared). IsVerdict x parts e v) c.self.view_is c.in_ok-ready.ensures.answer)

pub returns-in-Needs-clause-answer : goal.returns-in-Needs-clause-answer
returns-in-Needs-clause-answer c =
    let d = c.args.self.now in
    let parts = c.ready.new.held.parts in
    let e = c.args.entry.now in
    let v = c.in_ok-ready.field-0 in
    needs_noted d parts e
    (subst (IsAskable (world_machine d)) (sym c.ready.ensures.same) c.requires) v
    c.in-Needs.place c.in-Needs.is
    (subst (λ (x : Declared). IsVerdict x parts e v) c.self.view_is c.in_ok-ready.ensures.answer)

-- ---- an entry that may be made

pub unreachable-requires : goal.unreachable-requires
unreachable-requires c =
    let d = c.args.self.now in
    let parts = c.ready.new.held.parts in
    let e = c.args.entry.now in
    let v = c.in_ok-ready.field-0 in
    somebody d parts e
    (subst (IsAskable (world_machine d)) (sym c.ready.ensures.same) c.requires) v
    c.in-Ready.ready c.in-Ready.is
    (subst (λ (x : Declared). IsVerdict x parts e v) c.self.view_is c.in_ok-ready.ensures.answer)
    (ap (λ (x : Declared). activity_of x e.actor)
    (sym (c.script-script.ensures.declared ∙ c.self.view_is))
    ∙ sym c.activity_of.ensures ∙ ap (option_map activity_in) c.in_default.is)

pub note_entry-requires-clause-may : goal.note_entry-requires-clause-may
note_entry-requires-clause-may c =
    let d = c.args.self.now in
    let parts = c.ready.new.held.parts in
    let e = c.args.entry.now in
    let v = c.in_ok-ready.field-0 in
    let same = sym (c.script-script.ensures.declared ∙ c.self.view_is) in
    subst (λ (x : Declared). MayStep x parts e.actor c.in-Some.who) same
    (may d parts e (subst (IsAskable (world_machine d)) (sym c.ready.ensures.same) c.requires) v
    c.in-Ready.ready c.in-Ready.is
    (subst (λ (x : Declared). IsVerdict x parts e v) c.self.view_is c.in_ok-ready.ensures.answer)
    c.in-Some.who (ap (λ (x : Declared). activity_of x e.actor) same ∙ sym c.in-Some.ensures)
    c.ascends.ensures)

pub returns-in_ok-note-in-Ready-clause-answer : goal.returns-in_ok-note-in-Ready-clause-answer
returns-in_ok-note-in-Ready-clause-answer c =
    let d = c.args.self.now in
    let parts = c.ready.new.held.parts in
    let e = c.args.entry.now in
    let v = c.in_ok-ready.field-0 in
    let askable =
    subst (IsAskable (world_machine d)) (sym c.ready.ensures.same) c.requires in
    let answer =
    subst (λ (x : Declared). IsVerdict x parts e v) c.self.view_is
    c.in_ok-ready.ensures.answer in
    let made = ready d parts e askable v c.in-Ready.ready c.in-Ready.is answer in (
      made.0,
      ap (λ h. meant noted_of h.parts) c.of-seen.ensures,
      ready_with d parts e made.2,
      made.3,
      (
        made.4,
        note_is d parts e askable v c.in-Ready.ready c.in-Ready.is answer
            (declared_by c.script-script.result.now)
            (c.script-script.ensures.declared ∙ c.self.view_is) c.in-Some.who
            (sym c.in-Some.ensures) (note_in c.in_ok-note-in-Ready.note)
            c.in_ok-note-in-Ready.ensures,
      ),
    )
