use Rattle.std.proofs.Common.{ℕ, List, [], ◌∷◌, ◌++◌, codes}
use Rattle.be_made.specs.Drawing.{draw, ◌>>-◌, always}
use Rattle.be_made.specs.Made.{command_text, name}
use Rattle.be_made.proofs.DrawnLemmas.{then_drawn}
use Rattle.be_made.proofs.Lines.{locked_written}
use Rattle.be_written.specs.Lines.{line_of}
use Rattle.be_made.proofs.apps.write_step.Goals as goal

pub returns : goal.returns
returns c =
    let old : List ℕ = c.args.text.now.items in
    let is =
    locked_written old _ _ _ _ _ (name (codes "w") c.below-window.result)
    (command_text c.below-kind.result c.below-kind.new.self).0
    c.in_ok-extend_from_slice.ensures.items c.in_ok-write_name.ensures c.in_ok-push.ensures.items
    c.in_ok-write_command.ensures.text c.in_ok-extend_from_slice-2.ensures.items in
    let last : List ℕ = c.extend_from_slice-2.new.self.items in
    then_drawn 8 c.args.draws.now c.below-window.new.self c.write_command.new.draws
    c.below-window.result
    (λ w. draw 5 >>- λ j. command_text j >>- λ command.
    always
    (line_of (codes "lock" ∷ name (codes "w") w ∷ []) ++ command
    ++ line_of (codes "unlock" ∷ []))) old last
    (record { place = c.below-window.ensures.place; drawn = c.below-window.ensures.drawn })
    (then_drawn 5 c.below-window.new.self c.below-kind.new.self c.write_command.new.draws
    c.below-kind.result
    (λ j. command_text j >>- λ command.
    always
    (line_of (codes "lock" ∷ name (codes "w") c.below-window.result ∷ []) ++ command
    ++ line_of (codes "unlock" ∷ []))) old last
    (record { place = c.below-kind.ensures.place; drawn = c.below-kind.ensures.drawn })
    (record { text = is; drawn = c.in_ok-write_command.ensures.drawn }))
