-- Each test in turn.
use Rattle.std.proofs.Common.{◌≡◌, length, arith, sym, ◌∙◌}
use Rattle.std.proofs.lemmas.Bool.{OnTrue_from}
use Rattle.be_script.specs.Routable.{IsRoutable}
use Rattle.be_script.specs.Script.{declared_by}
use Rattle.script_tests.proofs.PlainLemmas.{plain-read}
use Rattle.script_tests.proofs.plain.is_plain.Goals as goal

pub returns : goal.returns
returns c =
    let s = c.args.script.now in
    let count : c.len-windows.result ≡ length s.windows.items = omega arith in
    OnTrue_from c.are_plain_draws.result (IsRoutable (declared_by s)) (λ last.
    plain-read (declared_by s) c.len-windows.result c.deref.result.now c.deref-2.result.now c.deref-3.result.now c.deref-4.result.now
    count c.deref.ensures.value c.deref-2.ensures.value c.deref-3.ensures.value c.deref-4.ensures.value
    (omega arith) (omega arith) (omega arith) (omega arith) (omega arith)
    (sym c.are_plain_views.ensures ∙ c.if-not-are_plain_views.false) (sym c.are_plain_filters.ensures ∙ c.if-not-are_plain_filters.false)
    (sym c.are_plain_bodies.ensures ∙ c.if-not-are_plain_bodies.false) (sym c.are_plain_draws.ensures ∙ last))
