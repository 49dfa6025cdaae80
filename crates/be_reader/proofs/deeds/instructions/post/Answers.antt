use Rattle.std.proofs.Common.{[], ◌∷◌}
use Rattle.be_actor.specs.DraftViews.{seen_words}
use Rattle.be_line.specs.declared.statement.Statement.TheVariants as statement
use Rattle.be_reader.specs.Forms.{form_of}
use Rattle.be_reader.specs.Kinds.{a_handler, a_what, a_window, some_fields}
use Rattle.be_reader.proofs.DeedLemmas.{is_deed, reads_end, reads_kind}
use Rattle.be_reader.proofs.deeds.instructions.post.Goals as goal

pub returns : goal.returns
unfolding form_of
returns c =
    is_deed c.args.said.now statement.Post c.args.line (c.window-window.result, (c.handler-handler.result, (c.what-what.result, (seen_words c.in_ok-words.words.items, tt)))) _ c.unless_faulty.result c.requires
    (reads_kind c.args.said.now a_window (a_handler ∷ a_what ∷ some_fields ∷ []) _ _ _ _ _ c.window-window.ensures
    (reads_kind c.args.said.now a_handler (a_what ∷ some_fields ∷ []) _ _ _ _ _ c.handler-handler.ensures
    (reads_kind c.args.said.now a_what (some_fields ∷ []) _ _ _ _ _ c.what-what.ensures
    (reads_kind c.args.said.now some_fields [] _ _ _ _ _ c.in_ok-words.ensures
    (reads_end c.args.said.now c.fields.new.self)))))
    c.unless_faulty.ensures
