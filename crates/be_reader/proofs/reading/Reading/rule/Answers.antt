use Rattle.std.proofs.Common.{◌≡◌, true, false, ap, sym, ◌∙◌, codes}
use Rattle.std.specs.Str.{bytes_eq}
use Rattle.be_reader.proofs.RuleLemmas.{redirected}
use Rattle.be_reader.proofs.reading.Reading.rule.Goals as goal

pub returns-then-eq-3 : goal.returns-then-eq-3
returns-then-eq-3 c =
    let word = c.in-Some.word.now in
    let skip : bytes_eq word (codes "skip") ≡ false = ap (bytes_eq word) (sym c.as_slice.ensures) ∙ sym c.if-eq.ensures in
    let pass : bytes_eq word (codes "pass") ≡ false = ap (bytes_eq word) (sym c.as_slice-2.ensures) ∙ sym c.if-eq-2.ensures in
    let redirect : bytes_eq word (codes "redirect") ≡ true = ap (bytes_eq word) (sym c.as_slice-3.ensures) ∙ sym c.if-eq-3.ensures in
    redirected c.args.said.now c.args.self.now c.word.new.self c.handler.new.self word c.handler.result (sym c.in-Some.ensures.word) skip pass redirect c.in-Some.ensures.after c.handler.ensures
