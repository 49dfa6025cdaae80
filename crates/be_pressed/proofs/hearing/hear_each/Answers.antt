-- A view more has heard the letter, and may be the one that it invokes.
use Rattle.std.proofs.Common.{◌≡◌, Some, get_or, sym, ◌∙◌, arith}
use Rattle.std.proofs.lemmas.Option.{slice_get-get_or}
use Rattle.std.specs.Prelude.{slice_get}
use Rattle.be_control.specs.Buttons.{Button}
use Rattle.be_pressed.proofs.Heard.{all_have, heard_as, hearing_begins}
use Rattle.be_pressed.proofs.Heard.{hears_next, invoked_then}
use Rattle.be_pressed.proofs.hearing.hear_each.Goals as goal
use Rattle.be_pressed.proofs.hearing.hear_each.Goals.{in-Invoked, in_default}

pub loop-v-init : goal.loop-v-init
loop-v-init c = hearing_begins c.args.letter.now c.args.buttons.now

pub loop-v-preserved : goal.loop-v-preserved
loop-v-preserved c =
    let letter = c.args.letter.now in
    let k = c.loop-v.v in
    let was = c.loop-v.invariant in
    let many = was.many in
    let x : Button = get_or c.loop-v.buttons k c.index-buttons-v.result in
    let hears = heard_as letter k x c.hear.new.self c.is_for-own.result c.hear.result
    c.is_for-own.ensures c.hear.ensures.bounds c.hear.ensures.heard c.hear.ensures.pressed in
    let here : slice_get c.loop-v.buttons k ≡ Some x =
    slice_get-get_or c.loop-v.buttons k c.index-buttons-v.result (omega arith) in
    let at = sym (was.behind k (omega arith)) ∙ here in
    elim c.match-hear.branch [
      | in-Invoked w ↦
          hears_next letter c.args.buttons.now k x _ c.hear.result hears at _ _
          (λ is. w.invoked-is, λ no. absurd (no w.in-Invoked.is)) c.loop-v.buttons was
      | in_default w ↦
          hears_next letter c.args.buttons.now k x _ c.hear.result hears at _ _
          (λ is. absurd (w.in_default.not-Invoked is), λ no. w.invoked-is) c.loop-v.buttons was
    ]

pub returns-clause-bounds : goal.returns-clause-bounds
returns-clause-bounds c = c.loop-v.invariant.stay

pub returns-clause-heard : goal.returns-clause-heard
returns-clause-heard c =
    all_have c.args.letter.now c.args.buttons.now c.loop-v.buttons c.loop-v.v c.loop-v-test.false
    c.loop-v.invoked c.loop-v.invariant

pub returns-clause-invoked : goal.returns-clause-invoked
returns-clause-invoked c =
    invoked_then c.args.letter.now c.args.buttons.now c.loop-v.buttons c.loop-v.v
    c.loop-v-test.false c.loop-v.invoked c.loop-v.invariant
