-- The pieces of a line.
use Rattle.std.proofs.Common.{ap, ◌∙◌, ◌++◌}
use Rattle.std.specs.Fmt.{decimal}
use Rattle.be_pressed.proofs.Lines.{line_written}
use Rattle.be_pressed.proofs.writing.write_invoked.Goals as goal

pub returns : goal.returns
returns c =
    line_written _ _ (decimal c.args.number) _ _ _ _ _ _ _
    (c.in_ok-extend_from_slice.ensures.items
    ∙ ap (λ t. c.args.text.now.items ++ t) c.window_name.ensures)
    c.in_ok-push.ensures.items
    (c.in_ok-extend_from_slice-2.ensures.items
    ∙ ap (λ t. c.push.new.self.items ++ t) c.view_name.ensures)
    c.in_ok-push-2.ensures.items c.in_ok-write_natural.ensures c.in_ok-push-3.ensures.items
