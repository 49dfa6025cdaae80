use Rattle.std.proofs.Common.{Err, ap, ◌∙◌}
use Rattle.be_script.specs.Script.{declared_by}
use Rattle.be_ready.proofs.Closed.{found_none, found_some, is_closed, is_whole, not_both, pane_there}
use Rattle.be_ready.proofs.surveys.surveyed.Goals as goal

pub pane_there-part-requires : goal.pane_there-part-requires
pane_there-part-requires c = pane_there (declared_by c.args.script.now) c.args.held.now.parts c.args.w c.requires

pub survey-requires : goal.survey-requires
survey-requires c =
    is_whole (declared_by c.args.script.now) c.args.held.now.parts c.args.w c.requires c.pane_there-part.result.now c.pane_there-part.ensures c.pane.result.now c.pane.ensures

pub unreachable-requires : goal.unreachable-requires
unreachable-requires c =
    c.survey.ensures.open.0 (c.in-Err-InSession.is ∙ ap Err c.in-Err-InSession.field-0-is)
    (is_closed (declared_by c.args.script.now) c.args.held.now.parts c.args.w c.requires c.pane_there-part.result.now c.pane_there-part.ensures c.pane.result.now c.pane.ensures c.no_session_is_open_at_a_begin.ensures)

pub returns-in-Ok : goal.returns-in-Ok
returns-in-Ok c =
    found_some (declared_by c.args.script.now) c.args.held.now.parts c.args.w c.requires c.pane_there-part.result.now c.pane_there-part.ensures c.pane.result.now c.pane.ensures
    c.in-Ok.survey c.in-Ok.ensures.survey
    (λ clean. not_both c.survey.result c.in-Ok.is (c.survey.ensures.clean.1
    (is_closed (declared_by c.args.script.now) c.args.held.now.parts c.args.w c.requires c.pane_there-part.result.now c.pane_there-part.ensures c.pane.result.now c.pane.ensures c.no_session_is_open_at_a_begin.ensures, clean)))

pub returns-in-Err-NothingDirty : goal.returns-in-Err-NothingDirty
returns-in-Err-NothingDirty c =
    found_none (declared_by c.args.script.now) c.args.held.now.parts c.args.w c.requires c.pane_there-part.result.now c.pane_there-part.ensures c.pane.result.now c.pane.ensures
    (c.survey.ensures.clean.0 (c.in-Err-NothingDirty.is ∙ ap Err c.in-Err-NothingDirty.field-0-is)).1
