use Rattle.std.proofs.Common.{[], ◌∷◌}
use Rattle.be_line.specs.declared.statement.Statement.TheVariants as statement
use Rattle.be_reader.specs.Forms.{form_of}
use Rattle.be_reader.specs.Kinds.{a_down, a_frame, a_last_color, a_new_handler, a_view, a_window, an_across}
use Rattle.be_reader.proofs.DeedLemmas.{is_deed, reads_end, reads_kind, takes_copy}
use Rattle.be_reader.proofs.deeds.declarations.view.Goals as goal

pub returns : goal.returns
unfolding form_of
returns c =
    is_deed c.args.said.now statement.View c.args.line (c.window-window.result, (c.in_ok-name.name, (c.view-parent.result, (c.frame-frame.result, (c.across-across.result, (c.down-down.result, (c.last_color.result, tt))))))) _ c.unless_faulty.result c.requires
    (reads_kind c.args.said.now a_window (a_new_handler ∷ a_view ∷ a_frame ∷ an_across ∷ a_down ∷ a_last_color ∷ []) _ _ _ _ _ c.window-window.ensures
    (reads_kind c.args.said.now a_new_handler (a_view ∷ a_frame ∷ an_across ∷ a_down ∷ a_last_color ∷ []) _ _ _ _ _ (takes_copy _ _ _ _ _ _ c.in_ok-name.ensures c.new_handler.ensures)
    (reads_kind c.args.said.now a_view (a_frame ∷ an_across ∷ a_down ∷ a_last_color ∷ []) _ _ _ _ _ c.view-parent.ensures
    (reads_kind c.args.said.now a_frame (an_across ∷ a_down ∷ a_last_color ∷ []) _ _ _ _ _ c.frame-frame.ensures
    (reads_kind c.args.said.now an_across (a_down ∷ a_last_color ∷ []) _ _ _ _ _ c.across-across.ensures
    (reads_kind c.args.said.now a_down (a_last_color ∷ []) _ _ _ _ _ c.down-down.ensures
    (reads_kind c.args.said.now a_last_color [] _ _ _ _ _ c.last_color.ensures
    (reads_end c.args.said.now c.last_color.new.self))))))))
    c.unless_faulty.ensures
