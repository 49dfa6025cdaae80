use Rattle.std.proofs.lemmas.Result.{err_from_is_err_and}
use Rattle.be_script.specs.Script.{declared_by}
use Rattle.be_asking.proofs.QuietAnswered.{no_link, no_looper, no_pane, no_port, window_told}
use Rattle.be_asking.proofs.quiet.is_quiet.Goals as goal

pub returns-in_err-find_looper-clause-lost : goal.returns-in_err-find_looper-clause-lost
returns-in_err-find_looper-clause-lost c =
    let p = err_from_is_err_and c.from_residual.result c.from_residual.ensures.1 in
    rw (p.1, p.2) (no_looper (declared_by c.args.script.now) c.args.held.now.parts c.args.w c.requires c.in_err-find_looper.field-0.0 c.in_err-find_looper.ensures.missing)

pub returns-in_err-find_port-clause-lost : goal.returns-in_err-find_port-clause-lost
returns-in_err-find_port-clause-lost c =
    let p = err_from_is_err_and c.from_residual-in_err-find_port.result c.from_residual-in_err-find_port.ensures.1 in
    rw (p.1, p.2) (no_port (declared_by c.args.script.now) c.args.held.now.parts c.args.w c.requires c.in_err-find_port.field-0.0 c.in_err-find_port.ensures.missing)

pub returns-in_err-find_link-clause-lost : goal.returns-in_err-find_link-clause-lost
returns-in_err-find_link-clause-lost c =
    let p = err_from_is_err_and c.from_residual-in_err-find_link.result c.from_residual-in_err-find_link.ensures.1 in
    rw (p.1, p.2) (no_link (declared_by c.args.script.now) c.args.held.now.parts c.args.w c.requires c.in_err-find_link.field-0.0 c.in_err-find_link.ensures.missing)

pub returns-in_err-pane-clause-lost : goal.returns-in_err-pane-clause-lost
returns-in_err-pane-clause-lost c =
    let p = err_from_is_err_and c.from_residual-in_err-pane.result c.from_residual-in_err-pane.ensures.1 in
    rw (p.1, p.2) (no_pane (declared_by c.args.script.now) c.args.held.now.parts c.args.w c.requires c.in_err-pane.field-0.0 c.in_err-pane.ensures.missing)

pub returns-clause-told : goal.returns-clause-told
returns-clause-told c =
    rw c.is_at_rest.ensures
    (window_told (declared_by c.args.script.now) c.args.held.now.parts c.args.w c.requires c.in_ok-find_looper.field-0.now c.in_ok-pane.pane.now c.in_ok-find_port.field-0.now c.in_ok-find_link.field-0.now
    c.in_ok-find_looper.ensures.there c.in_ok-find_port.ensures.there c.in_ok-find_link.ensures.there c.in_ok-pane.ensures.there
    c.pane.result.now c.pane.ensures c.a_notice_is_owed_in_the_window.ensures c.waiting_pixels_are_listed.ensures
    c.is_idle-idle.result c.is_empty_port-no_letter.result c.is_empty_link-no_command.result c.is_owed-owed.result
    c.is_idle-idle.ensures c.is_empty_port-no_letter.ensures c.is_empty_link-no_command.ensures c.is_owed-owed.ensures)
