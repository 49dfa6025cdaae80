use Rattle.std.proofs.Common.{sym, ◌∙◌}
use Rattle.be_check.proofs.Changing.{color_is, kept_last, new_last, option_same}
use Rattle.be_check.proofs.watching.seen_behind.Goals as goal

pub returns-then-not-may_paint-clause-color : goal.returns-then-not-may_paint-clause-color
returns-then-not-may_paint-clause-color c =
    c.requires.quiet (sym c.may_paint.ensures ∙ c.if-not-may_paint.true)

pub returns-then-not-may_paint-clause-last : goal.returns-then-not-may_paint-clause-last
returns-then-not-may_paint-clause-last c =
    kept_last c.args.before.color c.args.before.last c.args.number

pub returns-then-eq-clause-color : goal.returns-then-eq-clause-color
returns-then-eq-clause-color c =
    sym (color_is c.color_of-color.result c.args.before.color
    (sym (option_same c.color_of-color.result c.args.before.color) ∙ sym c.if-eq.ensures))
    ∙ c.color_of-color.ensures

pub returns-then-eq-clause-last : goal.returns-then-eq-clause-last
returns-then-eq-clause-last c =
    kept_last c.args.before.color c.args.before.last c.args.number

pub returns-clause-last : goal.returns-clause-last
returns-clause-last c =
    new_last c.args.before.color c.color_of-color.result c.args.before.last c.args.number
    (sym (option_same c.color_of-color.result c.args.before.color) ∙ sym c.if-eq.ensures)
