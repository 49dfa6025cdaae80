use Rattle.std.proofs.Common.{Some, None, ap, ◌∙◌}
use Rattle.be_script.specs.Script.{declared_by}
use Rattle.be_asking.proofs.Missing.{first_named}
use Rattle.be_asking.proofs.changing.missing_pane.Goals as goal

pub returns-in_err-window : goal.returns-in_err-window
returns-in_err-window c =
    c.from_residual.ensures ∙ first_named (declared_by c.args.script.now) c.args.held.now.parts c.args.names.now None c.in_err-window.ensures

pub returns : goal.returns
returns c = ap Some c.pane_place.ensures ∙ first_named (declared_by c.args.script.now) c.args.held.now.parts c.args.names.now (Some c.in_ok-window.window) c.in_ok-window.ensures
