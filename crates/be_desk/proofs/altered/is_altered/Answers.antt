use Rattle.std.specs.Prelude.{◌↔◌, ◌⊎◌, IsTrue}
use Rattle.std.proofs.Common.{◌≡◌, false, inr, refl, sym, ◌∙◌}
use Rattle.std.proofs.lemmas.Bool.{true≢false}
use Rattle.std.proofs.lemmas.Result.{IfOk-weaker}
use Rattle.be_desk.specs.Affected.{OwnsNone, OwnsTheSame}
use Rattle.be_desk.proofs.OthersLemmas.{altered_if, loses_none}
use Rattle.be_desk.proofs.altered.is_altered.Goals as goal

pub returns-then-branch : goal.returns-then-branch
returns-then-branch c =
    let s = c.args.before.now in
    let t = c.args.after.now in (
      λ _. inr (λ same. true≢false (sym c.if-branch.true ∙ c.in_ok-owns_some.ensures.1 (loses_none s t c.args.w c.args.u c.args.zone.now c.requires.zone c.if-u-w.false same))),
      λ _. refl,
    )

pub returns : goal.returns
returns c =
    let s = c.args.before.now in
    let t = c.args.after.now in
    let w = c.args.w in
    let u = c.args.u in
    let zone = c.args.zone.now in
    IfOk-weaker c.owns_some-2.result (λ some. (some ≡ false) ↔ OwnsNone t u zone.given) (λ some. IsTrue some ↔ ((u ≡ w) ⊎ (OwnsTheSame s t u → ⊥))) (altered_if s t w u zone c.requires.others c.requires.zone c.if-u-w.false (c.in_ok-owns_some.ensures.0 c.if-branch.false)) c.owns_some-2.ensures
