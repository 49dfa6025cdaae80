use Rattle.std.proofs.Common.{[], ◌∷◌}
use Rattle.be_line.specs.declared.statement.Statement.TheVariants as statement
use Rattle.be_reader.specs.Forms.{form_of}
use Rattle.be_reader.specs.Kinds.{a_handler, a_new_handler, a_window}
use Rattle.be_reader.proofs.DeedLemmas.{is_deed, reads_end, reads_kind, takes_copy}
use Rattle.be_reader.proofs.deeds.declarations.handler.Goals as goal

pub returns : goal.returns
unfolding form_of
returns c =
    is_deed c.args.said.now statement.Handler c.args.line (c.window-window.result, (c.in_ok-name.name, (c.handler-next.result, tt))) _ c.unless_faulty.result c.requires
    (reads_kind c.args.said.now a_window (a_new_handler ∷ a_handler ∷ []) _ _ _ _ _ c.window-window.ensures
    (reads_kind c.args.said.now a_new_handler (a_handler ∷ []) _ _ _ _ _ (takes_copy _ _ _ _ _ _ c.in_ok-name.ensures c.new_handler.ensures)
    (reads_kind c.args.said.now a_handler [] _ _ _ _ _ c.handler-next.ensures
    (reads_end c.args.said.now c.handler-next.new.self))))
    c.unless_faulty.ensures
