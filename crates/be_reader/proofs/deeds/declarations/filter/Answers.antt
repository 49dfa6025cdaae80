use Rattle.std.proofs.Common.{[], ◌∷◌}
use Rattle.be_line.specs.declared.statement.Statement.TheVariants as statement
use Rattle.be_reader.specs.Forms.{form_of}
use Rattle.be_reader.specs.Kinds.{a_filter_what, a_list, a_rule, a_window}
use Rattle.be_reader.proofs.DeedLemmas.{is_deed, reads_end, reads_kind}
use Rattle.be_reader.proofs.deeds.declarations.filter.Goals as goal

pub returns : goal.returns
unfolding form_of
returns c =
    is_deed c.args.said.now statement.Filter c.args.line (c.window-window.result, (c.list-list.result, (c.filter_what-what.result, (c.rule-rule.result, tt)))) _ c.unless_faulty.result c.requires
    (reads_kind c.args.said.now a_window (a_list ∷ a_filter_what ∷ a_rule ∷ []) _ _ _ _ _ c.window-window.ensures
    (reads_kind c.args.said.now a_list (a_filter_what ∷ a_rule ∷ []) _ _ _ _ _ c.list-list.ensures
    (reads_kind c.args.said.now a_filter_what (a_rule ∷ []) _ _ _ _ _ c.filter_what-what.ensures
    (reads_kind c.args.said.now a_rule [] _ _ _ _ _ c.rule-rule.ensures
    (reads_end c.args.said.now c.rule-rule.new.self)))))
    c.unless_faulty.ensures
