use Rattle.std.proofs.Common.{ℕ, List, ◌++◌, ap, ◌∙◌}
use Rattle.std.specs.Fmt.{decimal}
use Rattle.app_server.proofs.Lines.{four_written}
use Rattle.be_lex.specs.Colors.{rgb_text}
use Rattle.app_server.proofs.explain.found_text.Goals as goal

pub returns : goal.returns
returns c =
    four_written c.write_natural.new.out.items c.push.new.self.items
    c.write_natural-2.new.out.items c.push-2.new.self.items c.write_rgb.new.out.items
    c.push-3.new.self.items c.write_natural-3.new.out.items c.push-4.new.self.items
    (decimal c.args.x) (decimal c.args.y) (rgb_text c.args.found.rgb) (decimal c.args.found.entry)
    (c.in_ok-write_natural.ensures
    ∙ ap (λ (l : List ℕ). l ++ decimal c.from.result) c.new-text.ensures.items
    ∙ ap decimal c.from.ensures)
    c.in_ok-push.ensures.items
    (c.in_ok-write_natural-2.ensures
    ∙ ap (λ (n : ℕ). c.push.new.self.items ++ decimal n) c.from-2.ensures)
    c.in_ok-push-2.ensures.items
    c.in_ok-write_rgb.ensures c.in_ok-push-3.ensures.items c.in_ok-write_natural-3.ensures
    c.in_ok-push-4.ensures.items
