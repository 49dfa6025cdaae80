use Rattle.std.proofs.Common.{ℕ, List, ◌++◌, refl, sym, ap, subst, ◌∙◌}
use Rattle.be_made.specs.Drawing.{IsWritten}
use Rattle.be_made.specs.Made.{command_text, command_words}
use Rattle.be_made.proofs.Lines.{activate_line, show_line}
use Rattle.be_made.proofs.apps.write_command.Goals as goal

pub returns-in_ok-extend_from_slice-in-0 : goal.returns-in_ok-extend_from_slice-in-0
unfolding command_words
returns-in_ok-extend_from_slice-in-0 c =
    let old : List ℕ = c.args.text.now.items in
    let last : ℕ = c.args.draws.now in
    let new : List ℕ = c.extend_from_slice.new.self.items in
    subst (λ (k : ℕ). IsWritten (command_text k) last last old new) (sym c.in-0.is)
    (record {
      text =
          c.in_ok-extend_from_slice-in-0.ensures.items
          ∙ ap (λ (line : List ℕ). old ++ line) show_line;
      drawn = refl;
    })

pub returns-in_ok-extend_from_slice-in-3 : goal.returns-in_ok-extend_from_slice-in-3
unfolding command_words
returns-in_ok-extend_from_slice-in-3 c =
    let old : List ℕ = c.args.text.now.items in
    let last : ℕ = c.args.draws.now in
    let new : List ℕ = c.extend_from_slice-in-3.new.self.items in
    subst (λ (k : ℕ). IsWritten (command_text k) last last old new) (sym c.in-3.is)
    (record {
      text =
          c.in_ok-extend_from_slice-in-3.ensures.items
          ∙ ap (λ (line : List ℕ). old ++ line) activate_line;
      drawn = refl;
    })
