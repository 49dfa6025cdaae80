use Rattle.std.proofs.Common.{◌∙◌, ℕ, inl, ap, option_map, subst, sym}
use Rattle.be_asking.proofs.InHand.{not_held}
use Rattle.be_asking.specs.Wants.{activity_in}
use Rattle.be_hall.specs.Answers.{HasSpare}
use Rattle.be_hall.specs.Hands.{meant}
use Rattle.be_hall.specs.Machine.{HeldFit, SomeFits}
use Rattle.be_hall.specs.declared.parts.Verdict.{Verdict}
use Rattle.be_machine.specs.declared.Entry.{Entry}
use Rattle.be_parts.specs.Parts.{meaning_of, spare_of}
use Rattle.be_rules.specs.Rules.{SliceFits, kept_at, world_machine}
use Rattle.be_rules.specs.Slices.{state_of}
use Rattle.be_script.specs.Script.{declared_by}
use Rattle.be_world.specs.Judging.{IsJudged}
use Rattle.be_world.specs.Suits.{IsPrepared}
use Rattle.be_world.specs.declared.work.Work.{Work}
use Rattle.be_world.proofs.Keeping.{logs_same, means_same, nobody_acts, notes_same}
use Rattle.be_world.proofs.Keeping.{spare_is}
use Rattle.be_world.proofs.preparing.prepare_entry.Goals as goal

pub returns-in_default-clause-answer : goal.returns-in_default-clause-answer
returns-in_default-clause-answer c =
    λ all sound fits legal. nobody_acts (declared_by c.args.script.now)
    (state_of (declared_by c.args.script.now) all) c.args.entry.now
    (sym c.activity_of.ensures ∙ ap (option_map activity_in) c.in_default.is) legal

pub returns-then-not-is_there-clause-answer : goal.returns-then-not-is_there-clause-answer
returns-then-not-is_there-clause-answer c = (
  not_held c.args.held.now.parts c.keeper-place.result
      (c.is_there.ensures.missing c.if-not-is_there.true),
  λ all sound fits. inl (c.keeper-place.ensures
      ∙ ap (kept_at (declared_by c.args.script.now)) c.in-Some.ensures),
)

pub make_room_at-requires : goal.make_room_at-requires
make_room_at-requires c = c.is_there.ensures.there c.if-not-is_there.false

pub judge-requires-clause-fitting : goal.judge-requires-clause-fitting
judge-requires-clause-fitting c =
    subst (SomeFits (world_machine (declared_by c.args.script.now)))
    (sym (means_same c.keeper-place.result c.args.held.now.parts c.make_room_at.new.held.parts
    c.make_room_at.ensures.same)) c.requires.askable.0

pub judge-requires-clause-fits : goal.judge-requires-clause-fits
judge-requires-clause-fits c =
    subst (HeldFit SliceFits 4611686018427387904)
    (sym (means_same c.keeper-place.result c.args.held.now.parts c.make_room_at.new.held.parts
    c.make_room_at.ensures.same)) c.requires.askable.1

-- ---- without memory for the room

pub returns-in_err-make_room_at-clause-same : goal.returns-in_err-make_room_at-clause-same
returns-in_err-make_room_at-clause-same c =
    means_same c.keeper-place.result c.args.held.now.parts c.make_room_at.new.held.parts
    c.make_room_at.ensures.same

pub returns-in_err-make_room_at-clause-logs : goal.returns-in_err-make_room_at-clause-logs
returns-in_err-make_room_at-clause-logs c =
    logs_same c.keeper-place.result c.args.held.now.parts c.make_room_at.new.held.parts
    c.make_room_at.ensures.same

pub returns-in_err-make_room_at-clause-notes : goal.returns-in_err-make_room_at-clause-notes
returns-in_err-make_room_at-clause-notes c =
    notes_same c.keeper-place.result c.args.held.now.parts c.make_room_at.new.held.parts
    c.make_room_at.ensures.same

-- ---- with the answer

pub returns-in_err-judge-clause-same : goal.returns-in_err-judge-clause-same
returns-in_err-judge-clause-same c =
    means_same c.keeper-place.result c.args.held.now.parts c.make_room_at.new.held.parts
    c.make_room_at.ensures.same

pub returns-in_err-judge-clause-logs : goal.returns-in_err-judge-clause-logs
returns-in_err-judge-clause-logs c =
    logs_same c.keeper-place.result c.args.held.now.parts c.make_room_at.new.held.parts
    c.make_room_at.ensures.same

pub returns-in_err-judge-clause-notes : goal.returns-in_err-judge-clause-notes
returns-in_err-judge-clause-notes c =
    notes_same c.keeper-place.result c.args.held.now.parts c.make_room_at.new.held.parts
    c.make_room_at.ensures.same

pub returns-in-NotLegal-clause-same : goal.returns-in-NotLegal-clause-same
returns-in-NotLegal-clause-same c =
    means_same c.keeper-place.result c.args.held.now.parts c.make_room_at.new.held.parts
    c.make_room_at.ensures.same

pub returns-in-NotLegal-clause-logs : goal.returns-in-NotLegal-clause-logs
returns-in-NotLegal-clause-logs c =
    logs_same c.keeper-place.result c.args.held.now.parts c.make_room_at.new.held.parts
    c.make_room_at.ensures.same

pub returns-in-NotLegal-clause-notes : goal.returns-in-NotLegal-clause-notes
returns-in-NotLegal-clause-notes c =
    notes_same c.keeper-place.result c.args.held.now.parts c.make_room_at.new.held.parts
    c.make_room_at.ensures.same

pub returns-in-Needs-clause-same : goal.returns-in-Needs-clause-same
returns-in-Needs-clause-same c =
    means_same c.keeper-place.result c.args.held.now.parts c.make_room_at.new.held.parts
    c.make_room_at.ensures.same

pub returns-in-Needs-clause-logs : goal.returns-in-Needs-clause-logs
returns-in-Needs-clause-logs c =
    logs_same c.keeper-place.result c.args.held.now.parts c.make_room_at.new.held.parts
    c.make_room_at.ensures.same

pub returns-in-Needs-clause-notes : goal.returns-in-Needs-clause-notes
returns-in-Needs-clause-notes c =
    notes_same c.keeper-place.result c.args.held.now.parts c.make_room_at.new.held.parts
    c.make_room_at.ensures.same

pub returns-in-Ready-clause-same : goal.returns-in-Ready-clause-same
returns-in-Ready-clause-same c =
    means_same c.keeper-place.result c.args.held.now.parts c.make_room_at.new.held.parts
    c.make_room_at.ensures.same

pub returns-in-Ready-clause-logs : goal.returns-in-Ready-clause-logs
returns-in-Ready-clause-logs c =
    logs_same c.keeper-place.result c.args.held.now.parts c.make_room_at.new.held.parts
    c.make_room_at.ensures.same

pub returns-in-Ready-clause-notes : goal.returns-in-Ready-clause-notes
returns-in-Ready-clause-notes c =
    notes_same c.keeper-place.result c.args.held.now.parts c.make_room_at.new.held.parts
    c.make_room_at.ensures.same

pub returns-in-Ready-clause-answer : goal.returns-in-Ready-clause-answer
returns-in-Ready-clause-answer c =
    let d = declared_by c.args.script.now in
    let parts = c.make_room_at.new.held.parts in
    let e = c.args.entry.now in
    let judged =
    subst (λ (v : Verdict (Entry × Work)). IsJudged d parts e v) c.in-Ready.is
    c.in_ok-judge.ensures in
    let kept = c.keeper-place.ensures ∙ ap (kept_at d) c.in-Some.ensures in (
      judged.0,
      ap (λ h. meant meaning_of h.parts) c.of-seen.ensures,
      judged.1,
      subst (λ (p : ℕ). HasSpare p (meant spare_of parts)) kept (spare_is parts
          c.keeper-place.result c.in_ok-make_room_at.ensures.made),
      subst (λ (x : Entry). IsPrepared d parts x.actor c.in-Ready.made) (sym judged.0) judged.2,
    )
