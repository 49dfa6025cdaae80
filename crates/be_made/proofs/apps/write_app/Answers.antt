use Rattle.std.proofs.Common.{ℕ, List, codes}
use Rattle.be_made.specs.Drawing.{texts_from}
use Rattle.be_made.specs.Made.{locked_text, name}
use Rattle.be_made.proofs.Lines.{app_written}
use Rattle.be_made.proofs.apps.write_app.Goals as goal

pub returns : goal.returns
returns c =
    let old : List ℕ = c.args.text.now.items in
    let is =
    app_written old _ _ _ _ _ (name (codes "a") c.args.app)
    (texts_from locked_text 0 40 c.args.draws.now).0 c.in_ok-extend_from_slice.ensures.items
    c.in_ok-write_name.ensures c.in_ok-push.ensures.items c.in_ok-write_steps.ensures.text
    c.in_ok-extend_from_slice-2.ensures.items in
    record { text = is; drawn = c.in_ok-write_steps.ensures.drawn }
