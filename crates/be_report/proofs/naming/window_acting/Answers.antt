use Rattle.std.proofs.Common.{List, ℕ, ap, sym, ◌∙◌}
use Rattle.std.specs.Str.{bytes_eq}
use Rattle.be_written.specs.Names.{looper_actor, twin_actor}
use Rattle.be_report.proofs.FoundActors.{window_over}
use Rattle.be_report.proofs.naming.window_acting.Goals as goal

pub loop-place-preserved : goal.loop-place-preserved
loop-place-preserved c =
    let word = c.args.word.now in
    let first = ap (λ (name : List ℕ). bytes_eq (looper_actor name) word) (sym c.as_slice.ensures) ∙ sym c.is_joined.ensures ∙ c.if-is_joined.false in
    let second = ap (λ (name : List ℕ). bytes_eq (twin_actor name) word) (sym c.as_slice-in-loop-place.ensures) ∙ sym c.is_joined-in-loop-place.ensures ∙ c.if-is_joined-2.false in
    sym (window_over word c.args.lines.now c.loop-place.place c.index-lines-place.result c.loop-place-test.true c.index-lines-place.is first second) ∙ c.loop-place.invariant
