use Rattle.std.proofs.Common.{◌≡◌, Bool, true, false, ◌&&◌, length, take, drop, ap, sym, ◌∙◌}
use Rattle.std.specs.Str.{bytes_eq}
use Rattle.be_report.proofs.CodeLemmas.{joined_long}
use Rattle.be_report.proofs.naming.is_joined.Goals as goal

pub returns-then-eq : goal.returns-then-eq
returns-then-eq c =
    let second = drop (length c.args.front.now) c.args.word.now in
    let first : bytes_eq c.args.front.now (take (length c.args.front.now) c.args.word.now) ≡ true = ap (bytes_eq c.args.front.now) (sym c.split_at.ensures.front) ∙ sym c.eq.ensures ∙ c.if-eq.true in
    c.eq-then-eq.ensures ∙ ap (bytes_eq c.args.back.now) c.split_at.ensures.back
    ∙ sym (joined_long c.args.front.now c.args.back.now c.args.word.now c.if-word-front.false ∙ ap (λ (b : Bool). b && bytes_eq c.args.back.now second) first)

pub returns-else-eq : goal.returns-else-eq
returns-else-eq c =
    let second = drop (length c.args.front.now) c.args.word.now in
    let first : bytes_eq c.args.front.now (take (length c.args.front.now) c.args.word.now) ≡ false = ap (bytes_eq c.args.front.now) (sym c.split_at.ensures.front) ∙ sym c.eq.ensures ∙ c.if-eq.false in
    c.if-eq.false ∙ sym (joined_long c.args.front.now c.args.back.now c.args.word.now c.if-word-front.false ∙ ap (λ (b : Bool). b && bytes_eq c.args.back.now second) first)
