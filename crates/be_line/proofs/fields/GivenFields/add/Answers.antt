use Rattle.std.proofs.Common.{sym, ◌∙◌, refl}
use Rattle.be_line.specs.Shaped.{seen_word}
use Rattle.be_line.proofs.FieldLemmas.{ok_then, refused_next, pushed_next}
use Rattle.be_line.proofs.fields.GivenFields.add.Goals as goal

pub returns : goal.returns
returns c =
    rw c.in-Some.is
    (ok_then c.push.result
    (λ pushed state k.
    pushed_next state (seen_word c.in-Some.word) c.args.self.now c.push.new.self c.take.new.self c.if-not-self.false
    (sym c.in_ok-goes.ensures.goes ∙ c.if-not-goes.false) (c.in_ok-goes.ensures.stands c.if-not-goes.false) pushed k)
    c.push.ensures)

pub returns-then-not-goes : goal.returns-then-not-goes
returns-then-not-goes c =
    rw c.in-Some.is
    (λ state k. refused_next state (seen_word c.in-Some.word) c.args.self.now _ c.if-not-self.false (sym c.in_ok-goes.ensures.goes ∙ c.if-not-goes.true) refl k)
