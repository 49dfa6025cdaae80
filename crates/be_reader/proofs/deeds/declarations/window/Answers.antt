use Rattle.std.proofs.Common.{[], ◌∷◌}
use Rattle.be_line.specs.declared.statement.Statement.TheVariants as statement
use Rattle.be_reader.specs.Forms.{form_of}
use Rattle.be_reader.specs.Kinds.{a_new_window, a_window_frame, some_options}
use Rattle.be_reader.proofs.DeedLemmas.{is_deed, reads_end, reads_kind, takes_copy}
use Rattle.be_reader.proofs.deeds.declarations.window.Goals as goal

pub returns : goal.returns
unfolding form_of
returns c =
    is_deed c.args.said.now statement.Window c.args.line (c.in_ok-name.name, (c.window_frame-frame.result, (c.options-options.result, tt))) _ c.unless_faulty.result c.requires
    (reads_kind c.args.said.now a_new_window (a_window_frame ∷ some_options ∷ []) _ _ _ _ _ (takes_copy _ _ _ _ _ _ c.in_ok-name.ensures c.new_window.ensures)
    (reads_kind c.args.said.now a_window_frame (some_options ∷ []) _ _ _ _ _ c.window_frame-frame.ensures
    (reads_kind c.args.said.now some_options [] _ _ _ _ _ c.options-options.ensures
    (reads_end c.args.said.now c.options-options.new.self))))
    c.unless_faulty.ensures
