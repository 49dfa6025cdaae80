use Rattle.std.proofs.Common.{[], ◌∷◌}
use Rattle.be_line.specs.declared.statement.Statement.TheVariants as statement
use Rattle.be_reader.specs.Forms.{form_of}
use Rattle.be_reader.specs.Kinds.{a_view, a_window}
use Rattle.be_reader.proofs.DeedLemmas.{is_deed, reads_end, reads_kind}
use Rattle.be_reader.proofs.deeds.declarations.draw_body.Goals as goal

pub returns : goal.returns
unfolding form_of
returns c =
    is_deed c.args.said.now statement.Draw c.args.line (c.window-window.result, (c.view-view.result, tt)) _ c.unless_faulty.result c.requires
    (reads_kind c.args.said.now a_window (a_view ∷ []) _ _ _ _ _ c.window-window.ensures
    (reads_kind c.args.said.now a_view [] _ _ _ _ _ c.view-view.ensures
    (reads_end c.args.said.now c.view-view.new.self)))
    c.unless_faulty.ensures
