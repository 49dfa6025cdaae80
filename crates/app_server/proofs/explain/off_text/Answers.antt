use Rattle.std.proofs.Common.{ℕ, List, ◌++◌, ap, ◌∙◌}
use Rattle.std.specs.Fmt.{decimal}
use Rattle.app_server.proofs.Lines.{off_written}
use Rattle.app_server.proofs.explain.off_text.Goals as goal

pub returns : goal.returns
returns c =
    off_written c.write_natural.new.out.items c.push.new.self.items
    c.write_natural-2.new.out.items c.extend_from_slice.new.self.items
    (decimal c.args.x) (decimal c.args.y)
    (c.in_ok-write_natural.ensures
    ∙ ap (λ (l : List ℕ). l ++ decimal c.from.result) c.new-text.ensures.items
    ∙ ap decimal c.from.ensures)
    c.in_ok-push.ensures.items
    (c.in_ok-write_natural-2.ensures
    ∙ ap (λ (n : ℕ). c.push.new.self.items ++ decimal n) c.from-2.ensures)
    c.in_ok-extend_from_slice.ensures.items
