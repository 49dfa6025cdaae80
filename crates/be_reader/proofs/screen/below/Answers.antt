use Rattle.std.proofs.Common.{◌≡◌, ◌-ℤ◌, pos, ℤ, ℕ, List, Bor, Ok, arith, ap, sym, ◌∙◌, to_z, of_z, w16, w32}
use Rattle.std.proofs.lemmas.Int.{ints, to_z-of_z}
use Rattle.std.specs.Option.{option_map}
use Rattle.be_command.specs.Kinds.{numbered}
use Rattle.be_command.specs.Places.{judged}
use Rattle.be_geom.proofs.Between.{between_tells}
use Rattle.be_command.proofs.JudgingLemmas.{numbered_within}
use Rattle.be_reader.proofs.screen.below.Goals as goal

pub overflow_cast-result : goal.overflow_cast-result
overflow_cast-result c =
    let within = numbered_within (pos 0) (to_z w32 (of_z w32 (to_z w32 (of_z w32 c.from.result) -ℤ pos 1))) _ _ (sym c.in_ok-number.ensures) in
    grind (arith, ints, to_z-of_z, between_tells, c.from.ensures)

pub returns : goal.returns
returns c =
    let within = numbered_within (pos 0) (to_z w32 (of_z w32 (to_z w32 (of_z w32 c.from.result) -ℤ pos 1))) _ _ (sym c.in_ok-number.ensures) in
    let last : to_z w32 (of_z w32 (to_z w32 (of_z w32 c.from.result) -ℤ pos 1)) ≡ pos c.args.count -ℤ pos 1 = grind (arith, ints, to_z-of_z, c.from.ensures) in
    let same : to_z w16 (of_z w16 (to_z w32 (of_z w32 c.in_ok-number.field-0))) ≡ c.in_ok-number.field-0 = grind (arith, ints, to_z-of_z, between_tells, c.from.ensures) in
    ap Ok same
    ∙ c.in_ok-number.ensures
    ∙ ap (λ (high : ℤ). judged (numbered (pos 0) high) (option_map (λ (word : Bor (List ℕ)). word.now) c.args.word)) last
