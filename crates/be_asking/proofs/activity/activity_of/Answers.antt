use Rattle.std.proofs.Common.{◌∙◌}
use Rattle.be_asking.proofs.Numbered.{is_app, is_looper, is_twin, is_input, is_closing, is_none}
use Rattle.be_asking.proofs.activity.activity_of.Goals as goal
use Rattle.be_script.specs.Script.{declared_by}

pub returns-then-number-apps : goal.returns-then-number-apps
returns-then-number-apps c = is_app (declared_by c.args.script.now) c.args.number c.len-apps.result c.len-windows.result (c.len-apps.ensures ∙ c.args.script.now.apps.ok.0) (c.len-windows.ensures ∙ c.args.script.now.windows.ok.0) c.if-number-apps.true

pub returns-then-rest-eq0 : goal.returns-then-rest-eq0
returns-then-rest-eq0 c = is_looper (declared_by c.args.script.now) c.args.number c.len-apps.result c.len-windows.result (c.len-apps.ensures ∙ c.args.script.now.apps.ok.0) (c.len-windows.ensures ∙ c.args.script.now.windows.ok.0) c.if-number-apps.false c.if-rest-windows.true c.if-rest-eq0.true

pub returns-else-rest-eq0 : goal.returns-else-rest-eq0
returns-else-rest-eq0 c = is_twin (declared_by c.args.script.now) c.args.number c.len-apps.result c.len-windows.result (c.len-apps.ensures ∙ c.args.script.now.apps.ok.0) (c.len-windows.ensures ∙ c.args.script.now.windows.ok.0) c.if-number-apps.false c.if-rest-windows.true c.if-rest-eq0.false

pub returns-then-past-eq0 : goal.returns-then-past-eq0
returns-then-past-eq0 c = is_input (declared_by c.args.script.now) c.args.number c.len-apps.result c.len-windows.result (c.len-apps.ensures ∙ c.args.script.now.apps.ok.0) (c.len-windows.ensures ∙ c.args.script.now.windows.ok.0) c.if-number-apps.false c.if-rest-windows.false c.if-past-eq0.true

pub returns-then-past-eq1 : goal.returns-then-past-eq1
returns-then-past-eq1 c = is_closing (declared_by c.args.script.now) c.args.number c.len-apps.result c.len-windows.result (c.len-apps.ensures ∙ c.args.script.now.apps.ok.0) (c.len-windows.ensures ∙ c.args.script.now.windows.ok.0) c.if-number-apps.false c.if-rest-windows.false c.if-past-eq1.true

pub returns : goal.returns
returns c = is_none (declared_by c.args.script.now) c.args.number c.len-apps.result c.len-windows.result (c.len-apps.ensures ∙ c.args.script.now.apps.ok.0) (c.len-windows.ensures ∙ c.args.script.now.windows.ok.0) c.if-number-apps.false c.if-rest-windows.false c.if-past-eq0.false c.if-past-eq1.false
